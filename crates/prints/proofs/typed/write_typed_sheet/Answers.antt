-- `write_typed_sheet`: the sheet in the first bytes, and the rest after it. Assumes nothing.
use Rattle.std.proofs.Common.{ℕ, ◌≤◌, ◌≡◌, List, length}
use mathlib.Core.Path.{sym}
use native.Mathlib.Omega.{arith}
use lib.ListN.{take}
use lib.Seq.{length-take-le}
use Rattle.records.specs.declared.Line.{Line}
use Rattle.text.specs.Wrote.{Wrote}
use Rattle.prints.specs.Sheets.{sheet_of}
use Rattle.prints.proofs.TypedLaws.{front_within, sheet_then}
use Rattle.prints.proofs.typed.write_typed_sheet.Goals as goal

-- the sheet ends within the first bytes
ends : (line : Line) (s out part : List ℕ) (k : ℕ) → 147664 ≤ length out → length part ≡ length (take 147536 out) → Wrote (sheet_of line s) k (take 147536 out) part → k ≤ 147536
ends line s out part k h l w = front_within (sheet_of line s) out _ k 147536 (omega arith) l w

pub slice_bounds-write_sheet-end-2 : goal.slice_bounds-write_sheet-end-2
slice_bounds-write_sheet-end-2 c = sym (length-take-le 147536 c.args.out.now (omega (arith, c.requires.1)))

pub write_sheet-a-requires : goal.write_sheet-a-requires
write_sheet-a-requires c = omega (arith, length-take-le 147536 c.args.out.now (omega (arith, c.requires.1)))

pub write_explained-requires : goal.write_explained-requires
write_explained-requires c =
    let x = c.args in
    let t = c.write_sheet-a in (
      c.requires.0,
      omega (arith, ends x.line x.circuits.now x.out.now _ t.result c.requires.1 t.auto.out t.ensures),
    )

pub returns : goal.returns
returns c =
    let x = c.args in
    let t = c.write_sheet-a in
    sheet_then x.text.now x.line x.circuits.now x.out.now _ _ _ t.result 147536 _ t.auto.out t.ensures c.of_circuits-v.ensures c.write_explained.ensures
