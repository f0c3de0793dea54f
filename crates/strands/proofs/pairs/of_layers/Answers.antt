-- `strands::pairs::of_layers` meets its contract: the loop stands as `Layering` says, and its turns are the laws of proofs/Layering.antt. Assumes nothing.
use Rattle.std.proofs.Common.{arith}
use Rattle.strands.proofs.Layering.{layering_start, layer_room, layering_turn, layering_end}
use Rattle.strands.proofs.pairs.of_layers.Goals as goal

pub loop-h-init : goal.loop-h-init
loop-h-init c = layering_start c.requires.has_parts

pub add_layer-requires-clause-has_room : goal.add_layer-requires-clause-has_room
add_layer-requires-clause-has_room c =
    let p = c.requires.has_parts in
    let r = layer_room p c.loop-h.invariant (omega arith) c.put.ensures in
    omega (arith, c.requires.has_room)

pub loop-h-preserved : goal.loop-h-preserved
loop-h-preserved c =
    layering_turn c.requires.has_parts c.loop-h.invariant (omega arith) c.put.ensures c.put.auto.work c.add_layer.ensures

pub returns : goal.returns
returns c = layering_end c.requires.has_parts (omega arith) c.loop-h.invariant (omega arith)
