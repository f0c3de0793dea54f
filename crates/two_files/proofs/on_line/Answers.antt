-- `on_line`: the test of the old file, and else that of the new one, counted on. Assumes nothing.
use mathlib.Core.Path.{◌∙◌, sym}
use native.Mathlib.Omega.{arith}
use Rattle.records.specs.Records.{record_at, circuit_of}
use Rattle.std.proofs.lemmas.Grind.{common_steps}
use Rattle.refusals.specs.Table.{bad_ends, wrong_end, row6}
use Rattle.refusals.specs.declared.Reason.TheVariants.{WrongEnd}
use Rattle.two_files.proofs.LaterLaws.{place_low, old_gives, new_gives}
use Rattle.two_files.proofs.JoinLaws.{joined6}
use Rattle.two_files.proofs.on_line.Goals as goal

pub returns-in_err-on_line : goal.returns-in_err-on_line
returns-in_err-on_line c =
    let a = c.args in
    let e = old_gives a.k _ (row6 a.n a.old.now a.k) (row6 a.n a.new.now a.m) a.m a.k _ (joined6 a.old.now a.new.now a.k a.m c.requires.0 a.n) (sym c.on_line.ensures ∙ c.in_err-on_line.was) in
    grind (arith, common_steps, e)

pub counted_on-requires : goal.counted_on-requires
counted_on-requires c =
    let a = c.args in
    (omega (arith, place_low (λ i. bad_ends a.n (circuit_of (record_at a.new.now i))) (λ i. wrong_end a.n (circuit_of (record_at a.new.now i))) a.m WrongEnd a.m _ c.on_line-2.ensures, c.requires.2), omega (arith, c.requires.2))

pub returns : goal.returns
returns c =
    let a = c.args in
    let e = new_gives a.k _ (row6 a.n a.old.now a.k) (row6 a.n a.new.now a.m) a.m a.k _ (joined6 a.old.now a.new.now a.k a.m c.requires.0 a.n) (sym c.on_line.ensures ∙ c.in_ok-on_line.was) in
    cc
