-- What the tests of a check leave, and what passes them. Assumes nothing.
use Prim.Native.Nat.{ℕ, ◌*◌, ◌/◌, ◌%◌, ◌≤◌}
use mathlib.Core.Path.{◌≡◌, refl}
use mathlib.Core.Bool.{Bool, true, false, not, ◌||◌, cond}
use mathlib.Core.List.{List}
use mathlib.Core.Option.{none, some}
use native.Mathlib.Omega.{arith}
use lib.Dec.{eqb, ltb}
use borrow.Author.Tests.{eqb-true, eq-eqb, le-ltb, ltb-false, not-false}
use Rattle.basics.proofs.Bools.{or_false_l, or_false_r}
use Rattle.records.specs.declared.Line.{Line}
use Rattle.refusals.specs.declared.Reason.TheVariants.{PartList}
use Rattle.refusals.specs.Given.{NoneApplies}
use Rattle.refusals.specs.Table.{no_end, circuit_rows}
use Rattle.refusals.proofs.Passed.{wherever_none}
use Rattle.refusals.proofs.Pieces.{none_both, none_end, none_first, none_left, none_more, none_rest, none_right}
use Rattle.checker.specs.Checked.{bad_list, row16, list_rows, check_table}

-- whole records, not more than the limit, are not refused
passes16 : (place limit has k : ℕ) → has ≡ 8 * k → k ≤ limit → row16 place limit has ≡ none
passes16 place limit has k e l =
    let a : has % 8 ≡ 0 = omega arith in
    let b : has / 8 ≤ limit = omega arith in
    rw (eq-eqb (has % 8) 0 a, le-ltb limit (has / 8) b)

-- nothing is told, so the test failed
untold : (b : Bool) (place : ℕ) → cond b (some place) none ≡ none → b ≡ false
untold true place e = cc
untold false place e = refl

-- what is not refused is whole records, not more than the limit
passed16 : (place limit has : ℕ) → row16 place limit has ≡ none → (8 * (has / 8) ≡ has) × (has / 8 ≤ limit)
passed16 place limit has e =
    let t = untold (not (eqb (has % 8) 0) || ltb limit (has / 8)) place (wherever_none PartList no_end (bad_list place limit has) e) in
    let a : has % 8 ≡ 0 = eqb-true (has % 8) 0 (not-false (eqb (has % 8) 0) (or_false_l (not (eqb (has % 8) 0)) _ t)) in
    (omega arith, ltb-false limit (has / 8) (or_false_r (not (eqb (has % 8) 0)) _ t))

module _ (line : Line) (s : List ℕ) where
  -- circuits that pass their tests, with two lists of whole records that are not too long, pass those of a check
  pub check_passes : NoneApplies (circuit_rows line s) → (k l fibres assigns : ℕ) → k ≤ 4096 → l ≤ 2048 → fibres ≡ 8 * k → assigns ≡ 8 * l → NoneApplies (check_table line s fibres assigns)
  unfolding check_table list_rows
  check_passes p k l fibres assigns a b e g =
      none_both (circuit_rows line s) _ p (none_more _ _ (passes16 1 4096 fibres k e a) (none_more _ _ (passes16 2 2048 assigns l g b) none_end))

  module _ (fibres assigns : ℕ) (passed : NoneApplies (check_table line s fibres assigns)) where
    -- no test of the circuits applies: these tests are those of `plan`
    pub of_circuits : NoneApplies (circuit_rows line s)
    unfolding check_table
    of_circuits = none_left (circuit_rows line s) _ passed

    -- no test of the lists
    of_lists : NoneApplies (list_rows fibres assigns)
    unfolding check_table
    of_lists = none_left (list_rows fibres assigns) _ (none_right (circuit_rows line s) _ passed)

    -- the fibre list is whole records, and not too long
    pub fibres_whole : (8 * (fibres / 8) ≡ fibres) × (fibres / 8 ≤ 4096)
    unfolding list_rows
    fibres_whole = passed16 1 4096 fibres (none_first _ _ of_lists)

    -- and so is the assignment list
    pub assigns_whole : (8 * (assigns / 8) ≡ assigns) × (assigns / 8 ≤ 2048)
    unfolding list_rows
    assigns_whole = passed16 2 2048 assigns (none_first _ _ (none_rest _ _ of_lists))
