-- `fill_lines` meets its contract: line by line. Assumes nothing.
use Prim.Native.Nat.{ℕ, ◌+◌, ◌*◌, ◌<◌, ◌≤◌}
use mathlib.Core.Path.{◌≡◌}
use mathlib.Core.List.{List, ◌++◌, map}
use lib.ListN.{length, get_or}
use Rattle.mender.specs.Report.{report_bytes}
use Rattle.mender.specs.inner.Lines.{begun_line}
use Rattle.mender.proofs.Lining.{Filling}
use Rattle.mender.proofs.lines.fill_lines.Given as goal

abbrev pub invariant-loop-t : goal.invariant-loop-t
invariant-loop-t l = (s before js rest : List ℕ) → length js ≡ l.k → ((r : ℕ) → r < l.k → 8 * get_or js r 0 + 8 ≤ length l.assigns)
    → l.initial.report ≡ report_bytes (map (begun_line s before) js) ++ rest → Filling s before l.assigns js rest l.t l.report
