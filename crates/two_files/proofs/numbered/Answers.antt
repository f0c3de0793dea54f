-- `numbered`: the test of the old file, and else that of the new one, counted on. Assumes nothing.
use mathlib.Core.Path.{◌∙◌, sym}
use native.Mathlib.Omega.{arith}
use lib.Dec.{eqb}
use Rattle.records.specs.Records.{number_in}
use Rattle.std.proofs.lemmas.Grind.{common_steps}
use Rattle.refusals.specs.Table.{no_end, row5}
use Rattle.refusals.specs.declared.Reason.TheVariants.{NumberZero}
use Rattle.two_files.proofs.LaterLaws.{place_low, old_gives, new_gives}
use Rattle.two_files.proofs.JoinLaws.{joined5}
use Rattle.two_files.proofs.numbered.Goals as goal

pub returns-in_err-numbered : goal.returns-in_err-numbered
returns-in_err-numbered c =
    let a = c.args in
    let e = old_gives a.k _ (row5 a.old.now a.k) (row5 a.new.now a.m) a.m a.k _ (joined5 a.old.now a.new.now a.k a.m c.requires.0) (sym c.numbered.ensures ∙ c.in_err-numbered.was) in
    grind (arith, common_steps, e)

pub counted_on-requires : goal.counted_on-requires
counted_on-requires c =
    let a = c.args in
    (omega (arith, place_low (λ i. eqb (number_in a.new.now i) 0) no_end a.m NumberZero a.m _ c.numbered-2.ensures, c.requires.2), omega (arith, c.requires.2))

pub returns : goal.returns
returns c =
    let a = c.args in
    let e = new_gives a.k _ (row5 a.old.now a.k) (row5 a.new.now a.m) a.m a.k _ (joined5 a.old.now a.new.now a.k a.m c.requires.0) (sym c.numbered.ensures ∙ c.in_ok-numbered.was) in
    cc
