-- `write_line` meets its contract: its three stores fill the 12 bytes. Assumes nothing.
use Rattle.mender.proofs.Lining.{line_written}
use Rattle.mender.proofs.lines.write_line.Goals as goal

pub returns : goal.returns
returns c =
    let put-assignment = c.put_record in
    let put = c.put in
    let put2 = c.put-2 in
    line_written _ _ _ _ _ _ c.requires put-assignment.ensures put.ensures put2.ensures
