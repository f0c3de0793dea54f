-- `note_spans`: the first i entries are filled. Assumes nothing.
use Prim.Native.Nat.{ℕ, ◌<◌}
use lib.ListN.{get_or}
use mathlib.Core.Path.{◌≡◌}
use Rattle.records.specs.Records.{fibre_of, record_at}
use Rattle.placing.proofs.search.note_spans.Given as goal

abbrev pub invariant-loop-i : goal.invariant-loop-i
invariant-loop-i l = ((d : ℕ) → d < l.i → get_or l.spans.firsts d 0 ≡ (fibre_of (record_at l.fibres d)).first) × ((d : ℕ) → d < l.i → get_or l.spans.lasts d 0 ≡ (fibre_of (record_at l.fibres d)).last)
