-- `line_up`: all are listed, and wait. Assumes nothing.
use Rattle.queue.proofs.LinedUp.{all_wait}
use Rattle.queue.proofs.line_up.Goals as goal

pub returns : goal.returns
returns c =
    let listed = c.list_by_number.ensures in
    (listed.0, all_wait _ _ _ listed.1)
