-- Each circuit of a row has a link that no other circuit of its row uses, after any number of steps. Assumes nothing.
use Prim.Native.Nat.{◌≤◌, ℕ}
use lib.ListN.{length}
use mathlib.Core.Bool.{true}
use mathlib.Core.List.{List}
use mathlib.Core.Logic.{◌≢◌, ⊎_elim}
use mathlib.Core.Option.{none, some}
use mathlib.Core.Path.{◌∙◌, ◌≡◌, ap, sym}
use native.Mathlib.Omega.{arith}
use Rattle.basics.proofs.Bools.{by_eq, clash, on}
use Rattle.records.specs.declared.Circuit.{Circuit}
use Rattle.method.specs.Line.{circuit, uses}
use Rattle.method.specs.Sheet.{State, act, at, in_run, open', row_of, steps, taken}
use Rattle.method.proofs.Colours.{fits_each, fits_meets, fits_real, run_open}
use Rattle.method.proofs.Links.{LiesIfThere, on_line, proper}
use Rattle.method.proofs.Steps.{Kept_painted, Kept_placed, blued, new_row, old_row, some_length, steps_keep, took, unblued, untook}

module _ (cs : List Circuit) where
  -- i is a link of circuit j that no other circuit of its row uses
  pub record Own (s : State) (j i : ℕ) : Type 0 where
    pub used : uses (circuit cs j) i ≡ true
    pub alone : (d : ℕ) → row_of s d ≡ row_of s j → uses (circuit cs d) i ≡ true → d ≡ j

  -- within row k: each placed circuit has its own link, taken if it is of this row, and no circuit of this row uses an open link
  pub record Owned (k : ℕ) (s : State) : Type 0 where
    pub sized : length s.rows ≡ length cs
    pub own : (j : ℕ) → row_of s j ≢ 0 → (i : ℕ) × Own s j i × (row_of s j ≡ k → at s.colours i ≡ taken)
    pub dull : (j : ℕ) → row_of s j ≡ k → (i : ℕ) → uses (circuit cs j) i ≡ true → at s.colours i ≢ open'

module _ (n : ℕ) (cs : List Circuit) where
  module _ (lies : LiesIfThere n cs) (k : ℕ) (pos : 1 ≤ k) where
    -- painting the run keeps it
    painted_own : Kept_painted n cs k (Owned cs k)
    unfolding act
    painted_own s y l nobody-fits =
        record {
          sized = y.sized;
          own = λ j h. let o = y.own j h in (o.0, record { used = o.1.used; alone = o.1.alone }, λ e. stays o.0 (on_line n cs lies j o.0 o.1.used) (o.2 e));
          dull = λ j h i u. quiet i (on_line n cs lies j i u) (y.dull j h i u);
        }
      where
        -- a taken link stays taken
        stays : (i : ℕ) → (1 ≤ i) × (i ≤ n) → at s.colours i ≡ taken → at (act n cs k s none).colours i ≡ taken
        stays i b e =
            on (in_run n s.colours i) (λ r. absurd (omega (arith, run_open n s.colours i r))) (λ r. unblued n cs k s i b.0 b.1 r ∙ e)

        -- a link that is not open stays so
        quiet : (i : ℕ) → (1 ≤ i) × (i ≤ n) → at s.colours i ≢ open' → at (act n cs k s none).colours i ≢ open'
        quiet i b e =
            on (in_run n s.colours i) (λ r. omega (arith, blued n cs k s i b.0 b.1 r)) (λ r. omega (arith, unblued n cs k s i b.0 b.1 r))

    -- so does placing a circuit
    placed_own : Kept_placed n cs k (Owned cs k)
    placed_own s j₀ y l below wait fit =
        record {
          sized = some_length n cs k s j₀ ∙ y.sized;
          own = λ j h. by_eq j j₀ (λ e. rw e own_new) (λ e. own_old j e (rw (old_row n cs k s j₀ j e) at h));
          dull = λ j h i u. by_eq j j₀ (λ e. dull_new i (rw e at u)) (λ e. dull_old j i u (sym (old_row n cs k s j₀ j e) ∙ h));
        }
      where
        -- the state after placing j₀
        s' : State
        s' = act n cs k s (some j₀)

        -- the new circuit is of row k
        marked : row_of s' j₀ ≡ k
        marked = new_row n cs k s j₀ (omega (arith, y.sized))

        -- a link that the new circuit uses was open or blue
        light : (i : ℕ) → uses (circuit cs j₀) i ≡ true → at s.colours i ≢ taken
        light i u = ⊎_elim (λ r. omega (arith, run_open n s.colours i r)) (λ r. omega arith) (fits_each n s.colours (circuit cs j₀) fit i u)

        -- the new circuit has a link of its own
        own_new : (i : ℕ) × Own cs s' j₀ i × (row_of s' j₀ ≡ k → at s'.colours i ≡ taken)
        own_new =
            let m = fits_meets n s.colours (circuit cs j₀) l (proper n cs lies j₀ below (fits_real n s.colours (circuit cs j₀) fit)) fit in
            let b = on_line n cs lies j₀ m.0 m.1 in (
              m.0,
              record {
                used = m.1;
                alone = λ d e u. by_eq d j₀ (λ q. q) (λ q. absurd (y.dull d (sym (old_row n cs k s j₀ d q) ∙ e ∙ marked) m.0 u (run_open n s.colours m.0 m.2)));
              },
              λ e. took n cs k s m.0 b.0 b.1 j₀ m.2 m.1,
            )

        -- the others keep theirs
        own_old : (j : ℕ) → j ≢ j₀ → row_of s j ≢ 0 → (i : ℕ) × Own cs s' j i × (row_of s' j ≡ k → at s'.colours i ≡ taken)
        own_old j q h =
            let o = y.own j h in
            let b = on_line n cs lies j o.0 o.1.used in
            let same = old_row n cs k s j₀ j q in (
              o.0,
              record {
                used = o.1.used;
                alone = λ d e u.
                    by_eq d j₀
                    (λ t. absurd (light o.0 (rw t at u) (o.2 (sym same ∙ sym e ∙ ap (row_of s') t ∙ marked))))
                    (λ t. o.1.alone d (sym (old_row n cs k s j₀ d t) ∙ e ∙ same) u);
              },
              λ e. let e' : at s.colours o.0 ≡ taken = o.2 (sym same ∙ e) in
                  on (in_run n s.colours o.0) (λ r. absurd (omega (arith, run_open n s.colours o.0 r))) (λ r. untook n cs k s o.0 b.0 b.1 j₀ r ∙ e'),
            )

        -- the new circuit uses no open link
        dull_new : (i : ℕ) → uses (circuit cs j₀) i ≡ true → at s'.colours i ≢ open'
        dull_new i u =
            let b = on_line n cs lies j₀ i u in
            on (in_run n s.colours i) (λ r. omega (arith, took n cs k s i b.0 b.1 j₀ r u))
            (λ r.
            ⊎_elim (λ t. clash (in_run n s.colours i) t r) (λ t. omega (arith, untook n cs k s i b.0 b.1 j₀ r))
            (fits_each n s.colours (circuit cs j₀) fit i u))

        -- nor do the others
        dull_old : (j i : ℕ) → uses (circuit cs j) i ≡ true → row_of s j ≡ k → at s'.colours i ≢ open'
        dull_old j i u e =
            let b = on_line n cs lies j i u in
            let q : at s.colours i ≢ open' = y.dull j e i u in
            on (in_run n s.colours i) (λ r. absurd (q (run_open n s.colours i r))) (λ r. omega (arith, untook n cs k s i b.0 b.1 j₀ r))

    -- so it holds after any number of steps of the row
    pub row_own : (f : ℕ) (s : State) → Owned cs k s → Owned cs k (steps n cs f k s)
    row_own = steps_keep n cs k (Owned cs k) painted_own placed_own
