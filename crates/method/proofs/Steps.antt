-- What one step of a row does. Assumes nothing.
use Prim.Native.Nat.{◌<◌, ◌≤◌, suc, zero, ℕ}
use borrow.Author.Tests.{eq-eqb, eqb-true, leb-false, leb-true}
use lib.Dec.{eqb, leb}
use lib.ListN.{length, length-set}
use lib.Seq.{get_or-set_other, get_or-set_same}
use mathlib.Core.Bool.{◌&&◌, false, true}
use mathlib.Core.List.{List}
use mathlib.Core.Logic.{◌≢◌, ◌⊎◌, inl, inr}
use mathlib.Core.Option.{Option, none, some}
use mathlib.Core.Path.{◌≡◌, refl}
use Rattle.basics.proofs.Bools.{and_l, and_of, and_r, clash, on}
use Rattle.basics.proofs.Searches.{IsLowest, lowest_none, lowest_some}
use Rattle.records.specs.declared.Circuit.{Circuit}
use Rattle.method.specs.Line.{circuit, uses}
use Rattle.method.specs.Sheet.{State, act, at, blue, chosen, fits, in_run, open', row_of, run_from, step, steps, taken}
use Rattle.method.proofs.Colours.{at_paint, run_open}

module _ (n : ℕ) (cs : List Circuit) where
  -- THE STATE AFTER A STEP, by what it shows
  module _ (k : ℕ) (s : State) (i : ℕ) (l : 1 ≤ i) (h : i ≤ n) where
    -- a link of the run turned blue
    pub blued : in_run n s.colours i ≡ true → at (act n cs k s none).colours i ≡ blue
    unfolding act
    blued r = rw (at_paint n (in_run n s.colours) blue s.colours i l h, r)

    -- a link outside keeps its colour
    pub unblued : in_run n s.colours i ≡ false → at (act n cs k s none).colours i ≡ at s.colours i
    unfolding act
    unblued r = rw (at_paint n (in_run n s.colours) blue s.colours i l h, r)

    module _ (j : ℕ) where
      -- a link of the run that circuit j uses is taken
      pub took : in_run n s.colours i ≡ true → uses (circuit cs j) i ≡ true → at (act n cs k s (some j)).colours i ≡ taken
      unfolding act
      took r u = rw (at_paint n (λ x. in_run n s.colours x && uses (circuit cs j) x) taken s.colours i l h, r, u)

      -- a link outside the run keeps its colour
      pub untook : in_run n s.colours i ≡ false → at (act n cs k s (some j)).colours i ≡ at s.colours i
      unfolding act
      untook r = rw (at_paint n (λ x. in_run n s.colours x && uses (circuit cs j) x) taken s.colours i l h, r)

      -- and so does one that j does not use
      pub unused : uses (circuit cs j) i ≡ false → at (act n cs k s (some j)).colours i ≡ at s.colours i
      unfolding act
      unused u =
          rw (at_paint n (λ x. in_run n s.colours x && uses (circuit cs j) x) taken s.colours i l h)
          (on (in_run n s.colours i) (λ r. rw (r, u)) (λ r. rw r))

  -- circuit j is now of row k
  pub new_row : (k : ℕ) (s : State) (j : ℕ) → j < length s.rows → row_of (act n cs k s (some j)) j ≡ k
  unfolding act
  new_row k s j h = get_or-set_same s.rows j k 0 h

  -- the others keep their row
  pub old_row : (k : ℕ) (s : State) (j d : ℕ) → d ≢ j → row_of (act n cs k s (some j)) d ≡ row_of s d
  unfolding act
  old_row k s j d h = get_or-set_other s.rows j d k 0 h

  -- no circuit is lost
  pub some_length : (k : ℕ) (s : State) (j : ℕ) → length (act n cs k s (some j)).rows ≡ length s.rows
  unfolding act
  some_length k s j = length-set s.rows j k

  -- THE CASES OF A STEP: no link is open; nobody fits; circuit j is placed
  pub step_cases : (k : ℕ) (s : State) (P : State → Type 0)
      → (n < run_from n s.colours → P s)
      → (run_from n s.colours ≤ n → ((j : ℕ) → j < length cs → row_of s j ≡ 0 → fits n s.colours (circuit cs j) ≡ true → ⊥) → P (act n cs k s none))
      → ((j : ℕ) → run_from n s.colours ≤ n → j < length cs → row_of s j ≡ 0 → fits n s.colours (circuit cs j) ≡ true → P (act n cs k s (some j)))
      → P (step n cs k s)
  unfolding step chosen
  step_cases k s P idle painted placed =
      on (leb (run_from n s.colours) n)
      (λ e. rw e (go (leb-true _ _ e) (chosen n cs s) refl))
      (λ e. rw e (idle (leb-false _ _ e)))
    where
      go : run_from n s.colours ≤ n → (o : Option ℕ) → chosen n cs s ≡ o → P (act n cs k s o)
      go l none e =
          painted l
          (λ j b m f. clash (eqb (row_of s j) 0 && fits n s.colours (circuit cs j)) (and_of _ _ (eq-eqb _ _ m) f) (lowest_none _ _ (length cs) e j b))
      go l (some j) e =
          let y : IsLowest (λ j. eqb (row_of s j) 0 && fits n s.colours (circuit cs j)) (λ j. (circuit cs j).number) (length cs) j = lowest_some _ _ (length cs) j e in
          placed j l y.below (eqb-true _ _ (and_l _ _ y.passes)) (and_r (eqb (row_of s j) 0) _ y.passes)

  -- WHAT A STEP KEEPS. To show that a step keeps P, show it for a run that is painted blue and for a circuit that is placed
  module _ (k : ℕ) (P : State → Type 0) where
    -- painting the run keeps P
    abbrev pub Kept_painted : Type 0
    Kept_painted = (s : State) → P s → run_from n s.colours ≤ n → ((j : ℕ) → j < length cs → row_of s j ≡ 0 → fits n s.colours (circuit cs j) ≡ true → ⊥) → P (act n cs k s none)

    -- placing a circuit keeps P
    abbrev pub Kept_placed : Type 0
    Kept_placed = (s : State) (j : ℕ) → P s → run_from n s.colours ≤ n → j < length cs → row_of s j ≡ 0 → fits n s.colours (circuit cs j) ≡ true → P (act n cs k s (some j))

    -- so a step keeps P
    pub step_keeps : Kept_painted → Kept_placed → (s : State) → P s → P (step n cs k s)
    step_keeps painted placed s h = step_cases k s P (λ l. h) (painted s h) (λ j. placed s j h)

    -- and any number of steps
    pub steps_keep : Kept_painted → Kept_placed → (f : ℕ) (s : State) → P s → P (steps n cs f k s)
    unfolding steps
    steps_keep painted placed zero s h = h
    steps_keep painted placed (suc f) s h = steps_keep painted placed f (step n cs k s) (step_keeps painted placed s h)

  -- THE COLOUR OF A LINK AFTER A STEP
  module _ (k : ℕ) (s : State) (i : ℕ) (l : 1 ≤ i) (h : i ≤ n) where
    -- where nobody fits it was open and is blue, or is as it was
    pub painted_cell : ((at s.colours i ≡ open') × (at (act n cs k s none).colours i ≡ blue)) ⊎ (at (act n cs k s none).colours i ≡ at s.colours i)
    painted_cell =
        on (in_run n s.colours i) (λ r. inl (run_open n s.colours i r, blued k s i l h r))
        (λ r. inr (unblued k s i l h r))

    -- where circuit j is placed it was open and is taken by j, or is as it was
    pub placed_cell : (j : ℕ) → ((at s.colours i ≡ open') × (at (act n cs k s (some j)).colours i ≡ taken) × (uses (circuit cs j) i ≡ true)) ⊎ (at (act n cs k s (some j)).colours i ≡ at s.colours i)
    placed_cell j =
        on (in_run n s.colours i)
        (λ r.
        on (uses (circuit cs j) i) (λ u. inl (run_open n s.colours i r, took k s i l h j r u, u))
        (λ u. inr (unused k s i l h j u)))
        (λ r. inr (untook k s i l h j r))
