-- `all_light`: the links before i are in the run or blue. Assumes nothing.
use borrow.Author.Rules.{rules}
use mathlib.Core.Path.{◌∙◌, sym}
use native.Mathlib.Omega.{arith}
use Rattle.whole_sheet.proofs.Everys.{every_onward, every_stop, every_over}
use Rattle.whole_sheet.specs.inner.Board.{light}
use Rattle.whole_sheet.proofs.colours.all_light.Goals as goal

pub returns-then-not-is_light : goal.returns-then-not-is_light
returns-then-not-is_light c =
    let loop = c.loop-i in
    let a = c.args in
    sym (every_stop (light a.run a.row.now) loop.i a.last (omega arith) (sym c.is_light.ensures ∙ c.if-not-is_light.true))
    ∙ loop.invariant.1

pub loop-i-preserved : goal.loop-i-preserved
loop-i-preserved c =
    let loop = c.loop-i in
    let a = c.args in (
      search rules,
      sym (every_onward (light a.run a.row.now) loop.i a.last (omega arith) (sym c.is_light.ensures ∙ c.if-not-is_light.false))
          ∙ loop.invariant.1,
    )

pub returns : goal.returns
returns c =
    let loop = c.loop-i in
    let a = c.args in
    sym (every_over (light a.run a.row.now) loop.i a.last (omega arith)) ∙ loop.invariant.1
