-- `digits_to` meets its contract: it is the place that is sought. Assumes nothing.
use mathlib.Core.Bool.{not}
use Rattle.entry_text.specs.Entries.{byte, is_digit}
use Rattle.entry_text.specs.Faults.{digits_to}
use Rattle.entry_text.proofs.Places.{sought}
use Rattle.entry_text.proofs.faults.digits_to.Goals as goal

pub returns : goal.returns
unfolding digits_to
returns c =
    let s = c.args.text.now in
    let f = c.first_place.ensures in
    sought (λ x. not (is_digit (byte s x))) c.args.start (c.args.e) c.first_place.result f.bounds.0 f.bounds.1 f.before f.here
