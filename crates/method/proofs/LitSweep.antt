-- For the code of R-1: the circuits of an old fibre by rising first link, with the farthest last link so far; and the number of a circuit's new fibre, by how
-- many begin before. Assumes nothing.
use Prim.Native.Nat.{◌+◌, ◌-◌, ◌<◌, ◌≤◌, max, suc, zero, ℕ}
use lib.ListN.{length}
use mathlib.Core.Bool.{false, true}
use mathlib.Core.List.{List}
use mathlib.Core.Logic.{◌⊎◌, ⊎_elim}
use mathlib.Core.Path.{◌∙◌, ◌≡◌, ap, refl, sym}
use native.Mathlib.Omega.{arith}
use Rattle.basics.specs.Tools.{sum}
use Rattle.basics.proofs.Bools.{by_le, never, on}
use Rattle.records.specs.declared.Circuit.{Circuit}
use Rattle.method.specs.Line.{Lies, Plan, circuit}
use Rattle.method.specs.Lit.{fibre_number, lit, new_fibre, stretches, stretches_to}
use Rattle.method.proofs.Links.{lies_there, uses_first, uses_last, uses_of}
use Rattle.method.proofs.RunStarts.{begins_none, begins_to, run_place, runs_length}
use Rattle.method.proofs.Stretches.{dark_zero, old_layer, lights, lit_by, to_next}

module _ (n : ℕ) (cs : List Circuit) (p : Plan) (lies : Lies n cs) where
  -- circuit d is of fibre q
  pub record Of (q d : ℕ) : Type 0 where
    pub there : d < length cs
    pub mine : fibre_number p d ≡ q

  -- how many new fibres of fibre q begin at links 1 to x
  unfoldable pub begun_to : ℕ → ℕ → ℕ
  begun_to q x = begins_to (lit cs p q) x

  -- a circuit begins at link 1 or later, and no later than it ends
  real : (d : ℕ) → d < length cs → (1 ≤ (circuit cs d).first) × ((circuit cs d).first ≤ (circuit cs d).last)
  unfolding circuit
  real d l = let a = lies d l in (a.0, a.1)

  -- its links are lit on its fibre
  pub shines : (q d x : ℕ) → Of q d → (circuit cs d).first ≤ x → x ≤ (circuit cs d).last → lit cs p q x ≡ true
  shines q d x o a b = ap (λ r. lit cs p r x) (sym o.mine) ∙ lights cs p d x o.there (uses_of (circuit cs d) x a b)

  -- no new fibre begins after link a, up to link b, if those between are lit
  while_lit : (q a b : ℕ) → a ≤ b → ((y : ℕ) → a ≤ y → y < b → lit cs p q y ≡ true) → begun_to q b ≡ begun_to q a
  unfolding begun_to
  while_lit q a b l h = begins_none (lit cs p q) a b l (λ y c d. let t = h y c d in on (lit cs p q (suc y)) (λ u. rw (t, u)) (λ u. rw u))

  -- THE SWEEP. Of the circuits of fibre q, those that begin before link x end at `far` at the latest, and one that begins at x or before ends there; or far is 0
  pub record Reached (q x far : ℕ) : Type 0 where
    pub all_end : (d : ℕ) → Of q d → (circuit cs d).first < x → (circuit cs d).last ≤ far
    pub one_ends : (far ≡ 0) ⊎ ((d : ℕ) × Of q d × ((circuit cs d).first ≤ x) × ((circuit cs d).last ≡ far))

  -- no link between the farthest and x is lit
  pub reached_dark : (q x far : ℕ) → Reached q x far → (y : ℕ) → far < y → y < x → lit cs p q y ≡ false
  reached_dark q x far r y a b =
      never (lit cs p q y)
      (λ e.
      let s = lit_by cs p q y e in
      let u = uses_first (circuit cs s.0) y s.3 in
      absurd (omega (arith, uses_last (circuit cs s.0) y s.3, r.all_end s.0 (record { there = s.1; mine = s.2 }) (omega arith))))

  -- the links from x to the farthest are lit
  reached_lit : (q x far : ℕ) → Reached q x far → 1 ≤ far → (y : ℕ) → x ≤ y → y ≤ far → lit cs p q y ≡ true
  reached_lit q x far r pos y a b =
      ⊎_elim (λ z. absurd (omega arith)) (λ s. let s₂ = s.2 in let s₃ = s.3 in shines q s.0 y s.1 (omega arith) (omega arith)) r.one_ends

  -- so is the farthest link itself
  pub reached_far : (q x far : ℕ) → Reached q x far → 1 ≤ far → lit cs p q far ≡ true
  reached_far q x far r pos =
      ⊎_elim (λ z. absurd (omega arith)) (λ s. let a = real s.0 s.1.there in let a₁ = a.1 in let s₃ = s.3 in shines q s.0 far s.1 (omega arith) (omega arith)) r.one_ends

  -- circuit j, which begins at link x, is swept: up to the new farthest link no other new fibre begins
  pub swept_far : (q x far j : ℕ) → Reached q x far → Of q j → (circuit cs j).first ≡ x → begun_to q (max far (circuit cs j).last) ≡ begun_to q x
  swept_far q x far j r o e =
      let a = real j o.there in
      let a₁ = a.1 in
      while_lit q x (max far (circuit cs j).last) (omega arith)
      (λ y b c.
      by_le y (circuit cs j).last (λ l. shines q j y o (omega arith) l)
      (λ l. reached_lit q x far r (omega arith) y b (omega arith)))

  -- HOW MANY THERE ARE: fibre q becomes as many as begin
  pub stretches_count : (q : ℕ) → length (stretches n cs p q) ≡ begun_to q n
  unfolding stretches begun_to
  stretches_count q = runs_length (old_layer n cs p q) (lit cs p q) n (dark_zero cs p n (lies_there n cs lies) q)

  -- and so do fibres 1 to q together
  pub to_count : (q : ℕ) → length (stretches_to n cs p q) ≡ sum (λ r. begun_to r n) q
  unfolding sum
  to_count zero = unfold stretches_to in refl
  to_count (suc q) = omega (arith, to_next n cs p q, stretches_count (suc q), to_count q)

  -- THE NUMBER OF A CIRCUIT'S NEW FIBRE: the new fibres of the old fibres before its own, and those of its own that begin up to its first link
  pub number_counted : (j : ℕ) → j < length cs → new_fibre n cs p j ≡ sum (λ r. begun_to r n) (fibre_number p j - 1) + begun_to (fibre_number p j) (circuit cs j).first
  unfolding new_fibre stretches begun_to circuit
  number_counted j l =
      let q = fibre_number p j in
      let a = lies j l in
      let x = (circuit cs j).first in
      let t : lit cs p q x ≡ true = shines q j x (record { there = l; mine = refl }) (omega arith) a.1 in
      omega (arith, to_count (q - 1), run_place (old_layer n cs p q) (lit cs p q) n x (dark_zero cs p n (lies_there n cs lies) q) a.0 (omega arith) t)
