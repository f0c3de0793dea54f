-- `line_end` meets its contract: it is the place that is sought. Assumes nothing.
use Rattle.std.proofs.Common.{length}
use lib.Dec.{eqb}
use Rattle.entry_text.specs.Entries.{byte, line_end}
use Rattle.entry_text.proofs.Places.{sought}
use Rattle.entry_text.proofs.words.line_end.Goals as goal

pub returns : goal.returns
unfolding line_end
returns c =
    let s = c.args.text.now in
    let f = c.first_place.ensures in
    (sought (λ x. eqb (byte s x) 10) c.args.start (length s) c.first_place.result f.bounds.0 f.bounds.1 f.before f.here, f.bounds.0, f.bounds.1)
