-- What the code of an addition asks and answers, from its tests. Assumes nothing.
use Prim.Native.Nat.{ℕ, ◌+◌, ◌*◌, ◌/◌}
use mathlib.Core.Path.{◌≡◌, refl, subst}
use mathlib.Core.Bool.{true, false}
use mathlib.Core.List.{List}
use mathlib.Core.Option.{Option, none, some}
use native.Mathlib.Omega.{arith}
use lib.ListN.{length}
use Rattle.std.specs.Prelude.{Some, None, Ok}
use Rattle.records.specs.Records.{circuits_of}
use Rattle.records.specs.declared.Line.{Line}
use Rattle.records.proofs.Files.{length_circuits_in}
use Rattle.method.specs.Line.{Plan, Valid}
use Rattle.refusals.specs.declared.Reason.TheVariants.{FibreRoom, AssignmentRoom}
use Rattle.refusals.specs.Given.{NoneApplies}
use Rattle.refusals.specs.Table.{verdict, line_rows, circuit_rows}
use Rattle.refusals.proofs.First.{verdict_passed}
use Rattle.refusals.proofs.Passed.{passed_room}
use Rattle.refusals.proofs.Pieces.{none_first, none_rest}
use Rattle.register.specs.Areas.{Areas}
use Rattle.register.specs.Plans.{plan_in}
use Rattle.planner.proofs.Accepting.{accepted}
use Rattle.checker.specs.Rules.{Breach, is_broken}
use Rattle.checker.specs.Checked.{fault_of}
use Rattle.checker.specs.declared.rules.Fault.{Fault}
use Rattle.two_files.specs.Rows.{two_file_rows, two_record_rows}
use Rattle.two_files.proofs.Told.{both_few, both_numbered, both_on_line, both_unlike, new_whole, old_whole}
use Rattle.adder.specs.Table.{room_rows, add_table}
use Rattle.adder.specs.declared.Named.{Named}
use Rattle.adder.specs.inner.Asking.{OldAsked}
use Rattle.adder.specs.inner.Growing.{GrowAsked}
use Rattle.adder.proofs.Joined.{file_passes, new_pass, old_pass, once}
use Rattle.adder.proofs.Leaves.{both_pass, fit, from_one, new_records, of_files, old_records, old_valid, one_each, rooms}

-- the old file passes the tests of circuits by itself
old_alone : (line : Line) (old new : List ℕ) → NoneApplies (two_file_rows old new) → NoneApplies (line_rows line)
    → NoneApplies (two_record_rows line.links (length old / 8) (length new / 8) old new) → NoneApplies (circuit_rows line old)
old_alone line old new files drawn each =
    let k = length old / 8 in
    let m = length new / 8 in
    let whole = old_whole old new files in
    let few = both_few old new files in
    file_passes line old k whole (omega arith) drawn
    (both_numbered line.links k m old new each whole).0 (both_on_line line.links k m old new each whole).0 (both_unlike line.links k m old new each).in_old

-- what is told of the first broken rule is a fault exactly if one is broken
pub fault_broken : (o : Option Breach) (d : Fault) → fault_of o ≡ Some d → is_broken o ≡ true
fault_broken none d e = cc
fault_broken (some b) d e = refl

pub fault_none : (o : Option Breach) → fault_of o ≡ None → is_broken o ≡ false
fault_none none e = refl
fault_none (some b) e = cc

-- all that the addition asks
pub grow_asked : (line : Line) (old new : List ℕ) (named : Named) (lent : Areas) → NoneApplies (add_table line old new named lent)
    → GrowAsked line.links line.wavelengths (length old / 8) (length new / 8) named.fibres old new lent
grow_asked line old new named lent passed =
    let o = old_records line old new named lent passed in
    let q = new_records line old new named lent passed in
    let both = both_pass line old new named lent passed in
    let f = fit line old new named lent passed in
    let r = rooms line old new named lent passed in
    let plan : ℕ → Plan = λ x. plan_in named.fibres x lent.fibres lent.assigns in
    record {
      olds = accepted line old (old_pass old new o q line both);
      news = accepted line new (new_pass old new o q line both);
      few = both_few old new (of_files line old new named lent passed);
      once = once old new o q line both;
      from_one = λ j h. from_one line old new named lent passed j (omega (arith, length_circuits_in (length new / 8) new));
      few_fibres = f.few;
      old_valid = subst (λ (x : ℕ). Valid line.wavelengths (circuits_of old) (plan x)) (one_each line old named lent f) (old_valid line old named lent f);
      fibre_room = r.0;
      assign_room = r.1;
      work_room = r.2;
    }

-- IN THE CHAIN. The files, the line, the records and the lent areas passed: what the tests behind them ask
pub old_asked : (line : Line) (old new : List ℕ) (named : Named) (fibres assigns : List ℕ) (work a b c d a' b' c' d' : ℕ)
    → verdict (two_file_rows old new) a ≡ Ok a' → verdict (line_rows line) b ≡ Ok b'
    → verdict (two_record_rows line.links (length old / 8) (length new / 8) old new) c ≡ Ok c'
    → verdict (room_rows line.links (length old / 8) (length new / 8) named (length fibres) (length assigns) work) d ≡ Ok d'
    → OldAsked line old new named fibres assigns
unfolding room_rows
old_asked line old new named fibres assigns work a b c d a' b' c' d' e f g h =
    let k = length old / 8 in
    let m = length new / 8 in
    let files = (verdict_passed (two_file_rows old new) a a' e).1 in
    let drawn = (verdict_passed (line_rows line) b b' f).1 in
    let each = (verdict_passed (two_record_rows line.links k m old new) c c' g).1 in
    let room = (verdict_passed (room_rows line.links k m named (length fibres) (length assigns) work) d d' h).1 in
    let p = passed_room FibreRoom (8 * (named.fibres + m)) (length fibres) (none_first _ _ room) in
    let q = passed_room AssignmentRoom (8 * (named.assignments + m)) (length assigns) (none_first _ _ (none_rest _ _ room)) in
    record {
      olds = accepted line old (old_alone line old new files drawn each);
      old_whole = old_whole old new files;
      new_whole = new_whole old new files;
      few = both_few old new files;
      unlike = both_unlike line.links k m old new each;
      fibre_room = omega arith;
      assign_room = omega arith;
    }
