-- `entry_text::words::spell` meets its contract. Assumes nothing.
use Prim.Native.Nat.{◌-◌, ◌<◌}
use mathlib.Core.Path.{◌≡◌}
use Rattle.entry_text.specs.Entries.{spelt, below}
use Rattle.entry_text.proofs.words.spell.Given as goal

abbrev pub invariant-loop-i : goal.invariant-loop-i
invariant-loop-i l = (l.v < l.limit) × (below l.limit (spelt l.text l.i (l.e - l.i) l.v) ≡ below l.limit (spelt l.text l.start (l.e - l.start) 0))
