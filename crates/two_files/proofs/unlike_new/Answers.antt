-- `unlike_new`: the test of that file alone, counted on. Assumes nothing.
use native.Mathlib.Omega.{arith}
use Rattle.refusals.specs.Table.{no_end, repeats}
use Rattle.refusals.specs.declared.Reason.TheVariants.{NumberTwice}
use Rattle.two_files.proofs.LaterLaws.{place_low}
use Rattle.two_files.proofs.unlike_new.Goals as goal

pub counted_on-requires : goal.counted_on-requires
counted_on-requires c =
    let a = c.args in
    (omega (arith, place_low (repeats a.new.now) no_end a.m NumberTwice a.m _ c.unlike.ensures, c.requires.1), omega (arith, c.requires.1))
