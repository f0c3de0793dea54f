-- `word_from` meets its contract: it is the place that is sought. Assumes nothing.
use mathlib.Core.Bool.{not}
use Rattle.entry_text.specs.Entries.{byte, is_space, word_from}
use Rattle.entry_text.proofs.Places.{sought}
use Rattle.entry_text.proofs.words.word_from.Goals as goal

pub returns : goal.returns
unfolding word_from
returns c =
    let s = c.args.text.now in
    let f = c.first_place.ensures in
    (sought (λ x. not (is_space (byte s x))) c.args.start (c.args.e) c.first_place.result f.bounds.0 f.bounds.1 f.before f.here, f.bounds.0, f.bounds.1)
