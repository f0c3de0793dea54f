-- `strands::lay` meets its contract: the parts, put together by proofs/Laying.antt. Assumes nothing.
use Rattle.std.proofs.Common.{◌*◌, ◌∙◌, arith, rules}
use lib.ListN.{length-take}
use Rattle.strands.proofs.Readies.{few_there, lies, one_end, pairs_few, pairs_room, parts_ready, sources}
use Rattle.strands.proofs.Laying.{all_held, all_laid, rest_left}
use Rattle.strands.proofs.lay.Goals as goal

pub of_layers-pairs-requires-clause-has_parts : goal.of_layers-pairs-requires-clause-has_parts
of_layers-pairs-requires-clause-has_parts c = parts_ready c.requires

pub of_layers-pairs-requires-clause-has_room : goal.of_layers-pairs-requires-clause-has_room
of_layers-pairs-requires-clause-has_room c = pairs_room c.requires

pub write_halves-requires-clause-halvable : goal.write_halves-requires-clause-halvable
write_halves-requires-clause-halvable c =
    let p = c.of_layers-pairs.ensures in
    (lies c.requires, (few_there c.requires p, one_end c.requires p))

-- what the assignments are read from
pub write_assignments-requires-clause-sources : goal.write_assignments-requires-clause-sources
write_assignments-requires-clause-sources c = sources c.requires c.of_layers-pairs.ensures c.of_layers-pairs.auto.work c.write_halves.ensures.0 c.write_halves.ensures.2

pub trim-t-requires : goal.trim-t-requires
trim-t-requires c =
    let rd = c.requires in
    let acc = rd.accepted in
    let src = sources c.requires c.of_layers-pairs.ensures c.of_layers-pairs.auto.work c.write_halves.ensures.0 c.write_halves.ensures.2 in
    let l = src.marked.long in
    let p = pairs_few rd in
    let e = c.of_layers-pairs.ensures.pairs_are in
    record {
      line = omega arith;
      waves = omega arith;
      few = omega arith;
      file = omega arith;
      lies = lies rd;
      area = omega arith;
      fibre_room = rd.fibre_room;
      assign_room = search rules;
      number_room = rd.number_room;
      fibres_few = omega arith;
      plan = _;
      -- the method's plan is held
      held = all_held _ src c.write_assignments.ensures;
    }

pub returns : goal.returns
returns c =
    let a = c.args in
    let m = a.job.circuits in
    let rd = c.requires in
    let r = rd.assign_room in
    let src = sources c.requires c.of_layers-pairs.ensures c.of_layers-pairs.auto.work c.write_halves.ensures.0 c.write_halves.ensures.2 in
    all_laid rd _ c.floor_of-floor.ensures.0
    (rest_left (2 * m) (8 * m) a.assigns.now c.write_halves.new.before (omega arith) (c.write_halves.ensures.1 ∙ simp length-take (omega arith)))
    c.write_assignments.ensures (c.trim-t.ensures _ (all_held _ src c.write_assignments.ensures)) (c.write_halves.ensures.0 ∙ c.of_layers-pairs.auto.work)
