-- `fill`: one link more. Assumes nothing.
use mathlib.Core.Path.{refl}
use native.Mathlib.Omega.{arith}
use Rattle.riders.proofs.FillLaws.{loop_near, loop_start, loop_done, link_room, link_fits, link_cell, link_turn}
use Rattle.riders.proofs.PickLaws.{near_on}
use Rattle.riders.proofs.stretches.fill.Goals as goal

pub loop-link-init : goal.loop-link-init
loop-link-init c = let a = c.args in
    let room = c.requires.rises.2 in
    (loop_near a.links a.columns.now a.index.now room _ refl c.requires.rises.1, loop_start a.links a.columns.now a.index.now room)

pub put_stretch-at-requires-clause-room : goal.put_stretch-at-requires-clause-room
put_stretch-at-requires-clause-room c = let a = c.args in
    link_room a.links a.columns.now a.index.now c.requires.rises.2 _ _ _ _ (omega arith) (omega arith) c.go_on.ensures c.loop-link.invariant.1

pub overflow_cast-index-in-loop-link : goal.overflow_cast-index-in-loop-link
overflow_cast-index-in-loop-link c = let a = c.args in
    let low = link_fits a.links a.columns.now a.index.now c.requires.rises.2 _ _ _ _ (omega arith) (omega arith) c.go_on.ensures c.loop-link.invariant.1 _ _ c.put_stretch-at.ensures c.requires.links_value in
    omega (arith, low)

pub bounds-index-link : goal.bounds-index-link
bounds-index-link c = let a = c.args in
    link_cell a.links a.columns.now a.index.now c.requires.rises.2 _ _ _ _ (omega arith) (omega arith) c.go_on.ensures c.loop-link.invariant.1 _ _ c.put_stretch-at.ensures

pub loop-link-preserved : goal.loop-link-preserved
loop-link-preserved c = let a = c.args in
    let turn = link_turn a.links a.columns.now a.index.now c.requires.rises.2 _ _ _ _ (omega arith) (omega arith) c.go_on.ensures c.loop-link.invariant.1 _ _ c.put_stretch-at.ensures c.requires.rises.0 _ _ refl refl in
    (near_on _ _ _ _ c.go_on.ensures, turn)

pub returns : goal.returns
returns c = let a = c.args in loop_done a.links a.columns.now a.index.now c.requires.rises.2 _ _ _ (omega arith) c.loop-link.invariant.1
