-- `unlike_old` meets its contract: 7 of the joined file has the places of 14. Assumes nothing.
use native.Mathlib.Omega.{arith}
use Rattle.std.proofs.lemmas.Grind.{common_steps}
use Rattle.two_files.proofs.OldLaws.{old_told}
use Rattle.two_files.proofs.unlike_old.Goals as goal

pub returns-in_err-map_err : goal.returns-in_err-map_err
returns-in_err-map_err c =
    let a = c.args in
    let p = c.requires in
    let e = old_told _ a.old.now a.new.now _ a.k a.m c.join.ensures.1 p.k_value.0 p.k_value.1 p.unlike _ a.m c.unlike.result c.unlike.ensures in
    grind (arith, common_steps, e)

pub returns : goal.returns
returns c =
    let a = c.args in
    let p = c.requires in
    let e = old_told _ a.old.now a.new.now _ a.k a.m c.join.ensures.1 p.k_value.0 p.k_value.1 p.unlike _ a.m c.unlike.result c.unlike.ensures in
    grind (arith, common_steps, e)
