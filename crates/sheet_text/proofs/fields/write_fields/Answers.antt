-- `write_fields` meets its contract: each turn writes a field more. Assumes nothing.
use Rattle.std.proofs.Common.{rules, arith, [], ◌∷◌, ◌++◌, ◌+◌, take, get_or, append_assoc, ◌∙◌}
use Rattle.sheet_text.specs.Text.{fields}
use Rattle.sheet_text.proofs.Writing.{fields_more, fields_room}
use Rattle.text.specs.Decimals.{decimal}
use Rattle.text.proofs.Writing.{then_part, by_name}
use Rattle.sheet_text.proofs.fields.write_fields.Goals as goal

pub loop-x-init : goal.loop-x-init
unfolding fields
loop-x-init c = search rules

pub write_byte-requires : goal.write_byte-requires
write_byte-requires c = omega (arith, c.loop-x.invariant, fields_room c.args.xs.now c.loop-x.x-index c.loop-x-test.true)

pub write_decimal-at-requires : goal.write_decimal-at-requires
write_decimal-at-requires c = omega (arith, c.loop-x.invariant, fields_room c.args.xs.now c.loop-x.x-index c.loop-x-test.true)

pub loop-x-preserved : goal.loop-x-preserved
loop-x-preserved c =
    let l = c.loop-x in
    let xs = c.args.xs.now in
    let b = c.args.out.now in
    let d = fields (take l.x-index xs) in
    let x = decimal (get_or xs l.x-index 0) in
    let w = then_part d (32 ∷ []) b _ _ l.at 1 l.invariant.1 c.write_byte.ensures in (
      search rules,
      by_name (d ++ (32 ∷ []) ++ x) _ b _ _ (append_assoc d (32 ∷ []) x ∙ fields_more xs l.x-index c.loop-x-test.true)
          (then_part (d ++ (32 ∷ [])) x b _ _ (l.at + 1) _ w c.write_decimal-at.ensures),
    )
