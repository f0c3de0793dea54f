-- `on_line` meets its contract: no record before the one that is read has bad ends. Assumes nothing.
use Prim.Native.Nat.{ℕ, ◌<◌}
use mathlib.Core.Path.{◌≡◌}
use mathlib.Core.Bool.{Bool, false}
use mathlib.Core.List.{List}
use Rattle.records.specs.Records.{record_at, circuit_of}
use Rattle.refusals.specs.Table.{bad_ends}
use Rattle.refusals.proofs.on_line.Given as goal

-- the ends of record i are bad
abbrev pub isBad : ℕ → List ℕ → ℕ → Bool
isBad n s i = bad_ends n (circuit_of (record_at s i))

abbrev pub invariant-loop-j : goal.invariant-loop-j
invariant-loop-j l = (i : ℕ) → i < l.j → isBad l.n l.circuits i ≡ false
