-- What the fibres of a plan become without their dark links, and which of these a circuit gets. Assumes nothing.
use Prim.Native.Nat.{◌+◌, ◌-◌, ◌<◌, ◌≤◌, suc, zero, ℕ}
use borrow.Author.Tests.{eq-eqb, eqb-true, not-true}
use lib.Dec.{eqb}
use lib.ListN.{get_or-append, get_or, length, length-append}
use lib.Seq.{get_or-append-add}
use mathlib.Core.Bool.{◌&&◌, false, not, true}
use mathlib.Core.List.{List, ◌++◌}
use mathlib.Core.Path.{◌∙◌, ◌≡◌, ap, refl, sym}
use native.Mathlib.Omega.{arith}
use Rattle.basics.proofs.Bools.{and_l, and_of, and_r, by_eq, by_le, clash, never}
use Rattle.basics.proofs.Searches.{any_hit, any_true}
use Rattle.basics.proofs.Tables.{get_d_each}
use Rattle.records.specs.declared.Circuit.{Circuit}
use Rattle.method.specs.Fibres.{find}
use Rattle.method.specs.Line.{Fibre, Lies, Plan, assigned, circuit, fibre_under, no_fibre, over, tally, unassigned, uses}
use Rattle.method.specs.Lit.{fibre_number, lit, new_fibre, regiven, stretches, stretches_to, trimmed}
use Rattle.method.proofs.FibreLists.{All, all_append, all_get_d, all_imp}
use Rattle.method.proofs.Lengths.{OnLine}
use Rattle.method.proofs.Links.{LiesIfThere, on_line, uses_first, uses_last, uses_of}
use Rattle.method.proofs.RunStarts.{Begins, one_run, run_found, runs_begin}
use Rattle.method.proofs.Runs.{Maximal, over_first, over_last, runs_maximal}

-- LIT LINKS
module _ (cs : List Circuit) (p : Plan) where
  -- a circuit lights the links that it uses, on its fibre
  pub lights : (j x : ℕ) → j < length cs → uses (circuit cs j) x ≡ true → lit cs p (fibre_number p j) x ≡ true
  unfolding lit
  lights j x l u = any_hit (λ d. eqb (fibre_number p d) (fibre_number p j) && uses (circuit cs d) x) (length cs) j l (and_of _ _ (eq-eqb (fibre_number p j) (fibre_number p j) refl) u)

  -- a lit link is used by a circuit of its fibre
  pub lit_by : (q x : ℕ) → lit cs p q x ≡ true → (j : ℕ) × (j < length cs) × (fibre_number p j ≡ q) × (uses (circuit cs j) x ≡ true)
  unfolding lit
  lit_by q x e =
      let r = any_true (λ j. eqb (fibre_number p j) q && uses (circuit cs j) x) (length cs) e in
      (r.0, r.1, eqb-true _ _ (and_l _ _ r.2), and_r (eqb (fibre_number p r.0) q) _ r.2)

  -- no link off the line is lit
  pub lit_on : (n : ℕ) → LiesIfThere n cs → (q x : ℕ) → lit cs p q x ≡ true → (1 ≤ x) × (x ≤ n)
  lit_on n lies q x e = let r = lit_by q x e in on_line n cs lies r.0 x r.3

  -- so link 0 is not
  pub dark_zero : (n : ℕ) → LiesIfThere n cs → (q : ℕ) → lit cs p q 0 ≡ false
  dark_zero n lies q = never _ (λ e. let a = lit_on n lies q 0 e in absurd (omega (arith, a.0)))

  -- where a lit run begins, a circuit of the fibre does
  pub begins_by : (q y : ℕ) → lit cs p q (suc y) && not (lit cs p q y) ≡ true → (j : ℕ) × (j < length cs) × (fibre_number p j ≡ q) × ((circuit cs j).first ≡ suc y)
  begins_by q y e =
      let r = lit_by q (suc y) (and_l _ _ e) in
      let j = r.0 in
      let a = uses_first (circuit cs j) (suc y) r.3 in
      let b = uses_last (circuit cs j) (suc y) r.3 in
      let dark : lit cs p q y ≡ false = not-true _ (and_r (lit cs p q (suc y)) _ e) in (
        j,
        r.1,
        r.2,
        by_le (suc y) (circuit cs j).first (λ h. omega arith)
            (λ h. clash (lit cs p q y) (ap (λ r. lit cs p r y) (sym r.2) ∙ lights j y r.1 (uses_of (circuit cs j) y (omega arith) (omega arith))) dark),
      )

-- THE LIST
module _ (n : ℕ) (cs : List Circuit) (p : Plan) where
  -- what holds of what each fibre becomes holds of all
  all_to : (P : Fibre → Type 0) → ((q : ℕ) → All P (stretches n cs p (suc q))) → (q : ℕ) → All P (stretches_to n cs p q)
  unfolding stretches_to
  all_to P h zero = tt
  all_to P h (suc q) = all_append P (stretches_to n cs p q) (stretches n cs p (suc q)) (all_to P h q) (h q)

  -- how many fibres one more fibre becomes
  pub to_next : (q : ℕ) → length (stretches_to n cs p (suc q)) ≡ length (stretches_to n cs p q) + length (stretches n cs p (suc q))
  unfolding stretches_to
  to_next q = length-append (stretches_to n cs p q) (stretches n cs p (suc q))

  -- more fibres become no fewer
  pub to_grows : (q r : ℕ) → q ≤ r → length (stretches_to n cs p q) ≤ length (stretches_to n cs p r)
  to_grows q zero h = let z : q ≡ 0 = omega arith in rw z (omega arith)
  to_grows q (suc r) h =
      by_eq q (suc r) (λ e. rw e (omega arith))
      (λ e. omega (arith, to_grows q r (omega arith), to_next r))

  -- what a fibre becomes stands after what those before it become
  pub to_at : (q r y : ℕ) → q < r → y < length (stretches n cs p (suc q)) → get_or (stretches_to n cs p r) (length (stretches_to n cs p q) + y) no_fibre ≡ get_or (stretches n cs p (suc q)) y no_fibre
  unfolding stretches_to
  to_at q zero y a b = absurd (omega arith)
  to_at q (suc r) y a b =
      by_eq q r
      (λ e.
      ap (λ z. get_or (stretches_to n cs p z ++ stretches n cs p (suc z)) (length (stretches_to n cs p q) + y) no_fibre) (sym e)
      ∙ get_or-append-add (stretches_to n cs p q) (stretches n cs p (suc q)) y no_fibre)
      (λ e.
      get_or-append (stretches_to n cs p r) (stretches n cs p (suc r)) no_fibre (length (stretches_to n cs p q) + y) (omega (arith, to_grows (suc q) r (omega arith), to_next q))
      ∙ to_at q r y (omega arith) b)

  -- what an earlier fibre becomes stands before what a later one does
  pub to_before : (q r x y : ℕ) → q < r → x < length (stretches n cs p (suc q)) → length (stretches_to n cs p q) + x < length (stretches_to n cs p r) + y
  to_before q r x y l a = omega (arith, to_next q, to_grows (suc q) r l)

  -- so a new fibre stems from one old fibre
  pub to_one : (q r x y : ℕ) → x < length (stretches n cs p (suc q)) → y < length (stretches n cs p (suc r)) → length (stretches_to n cs p q) + x ≡ length (stretches_to n cs p r) + y → q ≡ r
  to_one q r x y a b e =
      by_le q r
      (λ h. by_eq q r (λ t. t) (λ t. absurd (omega (arith, to_before q r x y (omega arith) a))))
      (λ h. absurd (omega (arith, to_before r q y x h b)))

  -- the old fibre from which the new one at place g stems, and its place among those of that one
  pub to_split : (r g : ℕ) → g < length (stretches_to n cs p r) → (q : ℕ) × (y : ℕ) × (q < r) × (y < length (stretches n cs p (suc q))) × (g ≡ length (stretches_to n cs p q) + y)
  to_split zero g h = unfold stretches_to in absurd (omega arith)
  to_split (suc r) g h =
      by_le (suc g) (length (stretches_to n cs p r))
      (λ l. let s = to_split r g l in let s₂ = s.2 in (s.0, s.1, omega arith, s.3, s.4))
      (λ l. (r, g - length (stretches_to n cs p r), omega arith, omega (arith, to_next r), omega arith))

  -- the layer of fibre q
  abbrev pub old_layer : ℕ → ℕ
  old_layer q = (get_or p.fibres (q - 1) no_fibre).layer

  -- what fibre q becomes are maximal runs of its lit links
  pub stretches_maximal : (q : ℕ) → All (Maximal (old_layer q) (lit cs p q) 1 n) (stretches n cs p q)
  unfolding stretches
  stretches_maximal q = runs_maximal (old_layer q) (lit cs p q) 1 n

  -- at most one of them is over a link
  pub one_stretch : (q x : ℕ) → 1 ≤ x → x ≤ n → tally (λ f. over f x) (stretches n cs p q) ≤ 1
  unfolding stretches
  one_stretch q x a b = one_run (old_layer q) (lit cs p q) 1 n x a (omega arith)

  -- so the new fibres lie on the line
  pub to_on : (q : ℕ) → All (OnLine n) (stretches_to n cs p q)
  to_on =
      all_to (OnLine n)
      (λ q. all_imp {P = Maximal (old_layer (suc q)) (lit cs p (suc q)) 1 n} {Q = OnLine n} (λ f m. (m.from, m.some, omega (arith, m.to))) (stretches n cs p (suc q)) (stretches_maximal (suc q)))

  -- WHAT CIRCUIT j IS GIVEN
  pub regiven_is : (j : ℕ) → j < length cs → assigned (trimmed n cs p) j ≡ regiven n cs p j
  unfolding assigned trimmed
  regiven_is j l = get_d_each (regiven n cs p) 0 (length cs) j unassigned l ∙ ap (regiven n cs p) (omega arith)

  -- its new fibre
  pub new_is : (j : ℕ) → j < length cs → fibre_number (trimmed n cs p) j ≡ new_fibre n cs p j
  unfolding regiven
  new_is j l = ap (λ g. g.fibre) (regiven_is j l)

  -- its wavelength stays
  pub wavelength_stays : (j : ℕ) → j < length cs → (assigned (trimmed n cs p) j).wavelength ≡ (assigned p j).wavelength
  unfolding regiven
  wavelength_stays j l = ap (λ g. g.wavelength) (regiven_is j l)

  -- its place among what its old fibre becomes
  unfoldable pub place_in : ℕ → ℕ
  place_in j = find (λ f. over f (circuit cs j).first) (stretches n cs p (fibre_number p j))

  -- that fibre
  unfoldable pub stretch_of : ℕ → Fibre
  stretch_of j = get_or (stretches n cs p (fibre_number p j)) (place_in j) no_fibre

  -- CIRCUIT j, which lies on the line
  module _ (lies : Lies n cs) (j : ℕ) (l : j < length cs) where
    -- its first link is lit
    first_lit : lit cs p (fibre_number p j) (circuit cs j).first ≡ true
    unfolding circuit
    first_lit = lights cs p j (circuit cs j).first l (let a = lies j l in uses_of (circuit cs j) (circuit cs j).first (omega arith) a.1)

    -- a stretch is over its first link
    pub stretch_found : (place_in j < length (stretches n cs p (fibre_number p j))) × (over (stretch_of j) (circuit cs j).first ≡ true)
    unfolding place_in stretch_of stretches circuit
    stretch_found =
        let a = lies j l in
        run_found (old_layer (fibre_number p j)) (lit cs p (fibre_number p j)) n (circuit cs j).first a.0 (omega arith) first_lit

    -- it is a maximal run of lit links
    pub stretch_maximal : Maximal (old_layer (fibre_number p j)) (lit cs p (fibre_number p j)) 1 n (stretch_of j)
    unfolding stretch_of
    stretch_maximal = all_get_d (Maximal (old_layer (fibre_number p j)) (lit cs p (fibre_number p j)) 1 n) (stretches n cs p (fibre_number p j)) (stretches_maximal (fibre_number p j)) (place_in j) stretch_found.0

    -- on the left too
    pub stretch_begins : Begins (lit cs p (fibre_number p j)) (stretch_of j)
    unfolding stretch_of stretches
    stretch_begins = runs_begin (old_layer (fibre_number p j)) (lit cs p (fibre_number p j)) n (place_in j) stretch_found.0

    -- so it spans the circuit
    pub stretch_within : ((stretch_of j).first ≤ (circuit cs j).first) × ((circuit cs j).last ≤ (stretch_of j).last)
    unfolding circuit
    stretch_within =
        let f = stretch_of j in
        let a = lies j l in
        let o = over_last f _ stretch_found.1 in (
          over_first f _ stretch_found.1,
          by_le (circuit cs j).last f.last (λ h. h)
              (λ h. clash (lit cs p (fibre_number p j) (suc f.last)) (lights cs p j (suc f.last) l (uses_of (circuit cs j) (suc f.last) (omega arith) h)) (stretch_maximal.stop (omega arith))),
        )

    -- its new fibre is that stretch
    pub under_new : 1 ≤ fibre_number p j → fibre_number p j ≤ length p.fibres → fibre_under (trimmed n cs p) j ≡ stretch_of j
    unfolding fibre_under trimmed stretch_of new_fibre place_in
    under_new a b =
        let q = fibre_number p j - 1 in
        let s : suc q ≡ fibre_number p j = omega arith in
        let z : fibre_number (trimmed n cs p) j - 1 ≡ length (stretches_to n cs p q) + place_in j = omega (arith, new_is j l) in
        let y : place_in j < length (stretches n cs p (suc q)) = rw s stretch_found.0 in
        ap (λ x. get_or (stretches_to n cs p (length p.fibres)) x no_fibre) z ∙ to_at q (length p.fibres) (place_in j) (omega arith) y
        ∙ ap (λ x. get_or (stretches n cs p x) (place_in j) no_fibre) s
