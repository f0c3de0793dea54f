-- `write_decimal` meets its contract: the number falls with each call of itself. Assumes nothing.
use Rattle.std.proofs.Common.{arith, ◌<◌, ◌^◌}
use Rattle.text.proofs.Digits.{length_one, length_more}
use Rattle.text.proofs.Writing.{digit_written, digits_written}
use Rattle.text.proofs.+write_decimal.Goals as goal

pub bounds-out-0 : goal.bounds-out-0
bounds-out-0 t c = omega (arith, length_one c.args.x (omega arith))

pub returns-then-x-lt10 : goal.returns-then-x-lt10
returns-then-x-lt10 t c = digit_written c.args.x c.args.out.now (omega arith) c.requires

pub write_decimal-n-requires : goal.write_decimal-n-requires
write_decimal-n-requires t c =
    let x = c.args.x in
    let h : x < 10 ^ 20 = omega arith in
    (omega arith, omega (arith, length_more x (omega arith) h))

pub bounds-out-n : goal.bounds-out-n
bounds-out-n t c =
    let x = c.args.x in
    let h : x < 10 ^ 20 = omega arith in
    omega (arith, length_more x (omega arith) h)

pub returns : goal.returns
returns t c =
    let h : c.args.x < 10 ^ 20 = omega arith in
    digits_written c.args.x c.write_decimal-n.result c.args.out.now _ (omega arith) h (omega arith) c.write_decimal-n.ensures
