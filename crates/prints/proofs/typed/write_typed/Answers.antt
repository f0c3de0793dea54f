-- `write_typed`: what is wrong with the text, or the sheet of its circuits. Assumes nothing.
use Prim.Native.Nat.{ℕ, ◌/◌}
use mathlib.Core.Path.{◌≡◌, ap, sym}
use native.Mathlib.Omega.{arith}
use lib.ListN.{length}
use lib.Seq.{length-take-le}
use Rattle.std.specs.Prelude.{Option, Some, None}
use Rattle.std.specs.Option.{MatchOption}
use Rattle.entry_text.specs.Pair.{grid_of}
use Rattle.entry_text.proofs.PairLaws.{held}
use Rattle.prints.proofs.TypedLaws.{entered_typed, not_long, wrong_typed}
use Rattle.prints.proofs.typed.write_typed.Goals as goal

-- the grid that is named, or 1
told : (named : Option ℕ) (grid : ℕ) → MatchOption named (grid ≡ 1) (λ x. grid ≡ x) → grid ≡ grid_of named
told None grid e = e
told (Some x) grid e = e

-- the records that were entered lie within the buffer
pub overflow_mul-k : goal.overflow_mul-k
overflow_mul-k c = let t = c.enter-answer in omega (arith, held c.args.text.now c.args.circuits.now t.new.out (length c.args.circuits.now / 8) _ _ t.result t.ensures c.in-Ok.is, t.auto.out, c.requires.0)

pub slice_bounds-write_typed_sheet-end : goal.slice_bounds-write_typed_sheet-end
slice_bounds-write_typed_sheet-end c = let t = c.enter-answer in held c.args.text.now c.args.circuits.now t.new.out (length c.args.circuits.now / 8) _ _ t.result t.ensures c.in-Ok.is

pub slice_bounds-write_typed_sheet-end-2 : goal.slice_bounds-write_typed_sheet-end-2
slice_bounds-write_typed_sheet-end-2 c =
    let t = c.enter-answer in sym (length-take-le _ t.new.out (held c.args.text.now c.args.circuits.now t.new.out (length c.args.circuits.now / 8) _ _ t.result t.ensures c.in-Ok.is))

pub write_typed_sheet-requires : goal.write_typed_sheet-requires
write_typed_sheet-requires c = let t = c.enter-answer in (not_long _ _ _ t.result t.ensures.0 c.in-Ok.is, c.requires.1)

pub returns-in_default : goal.returns-in_default
returns-in_default c =
    let t = c.enter-answer in
    wrong_typed c.args.text.now t.result (length c.args.circuits.now / 8) _ _ _ _ (ap (λ n. n / 8) c.requires.0) t.ensures.0 c.in_default.is c.write_message.ensures

pub returns : goal.returns
returns c =
    let t = c.enter-answer in
    entered_typed c.args.text.now c.args.circuits.now t.new.out _ _ _ t.result (length c.args.circuits.now / 8) c.in-Ok.entry _
    (ap (λ n. n / 8) c.requires.0) t.ensures c.in-Ok.is c.from.ensures c.from-2.ensures (told _ _ c.map_or.ensures) c.write_typed_sheet.ensures
