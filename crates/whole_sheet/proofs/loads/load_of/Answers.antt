-- `load_of`: how many of the circuits before j use the link. Assumes nothing.
use Prim.Native.Nat.{◌≤◌}
use mir.Val.{bool_byte}
use mathlib.Core.Bool.{Bool, true, false, cond}
use mathlib.Core.Path.{◌≡◌, refl, ap, ◌∙◌, sym}
use native.Mathlib.Omega.{arith}
use lib.ListN.{length}
use Rattle.basics.specs.Tools.{count}
use Rattle.basics.proofs.Counts.{count_turn, count_below}
use Rattle.records.specs.Records.{circuits_in}
use Rattle.records.proofs.Files.{length_circuits_in}
use Rattle.method.specs.Line.{circuit, uses}
use Rattle.method.specs.Sheet.{load}
use Rattle.method.proofs.Circuits.{circuit_in_lem}
use Rattle.records.specs.declared.Circuit.{Circuit}
use Rattle.whole_sheet.proofs.loads.load_of.Goals as goal

pub loop-j-init : goal.loop-j-init
unfolding count
loop-j-init c = refl

-- a test as a number
as_number : (t : Bool) → bool_byte t ≡ cond t 1 0
as_number true = refl
as_number false = refl

-- which is at most 1
at_most : (t : Bool) → bool_byte t ≤ 1
at_most true = omega arith
at_most false = omega arith

pub overflow_add-many : goal.overflow_add-many
overflow_add-many c =
    let l = c.loop-j in
    let y = count_below (λ d. uses (circuit (circuits_in c.args.m c.args.circuits.now) d) c.args.i) l.j in
    omega (arith, at_most c.is_used.result, y)

pub loop-j-preserved : goal.loop-j-preserved
loop-j-preserved c =
    let l = c.loop-j in
    count_turn _ _ _ _ c.is_used.result l.invariant (c.from-many.ensures ∙ as_number _)
    (c.is_used.ensures ∙ ap (λ (d : Circuit). uses d c.args.i) (c.record_at.ensures ∙ sym (circuit_in_lem c.args.m c.args.circuits.now l.j (omega arith))))

pub returns : goal.returns
unfolding load
returns c =
    let loop = c.loop-j in
    let e : loop.j ≡ length (circuits_in c.args.m c.args.circuits.now) = omega (arith, length_circuits_in c.args.m c.args.circuits.now) in
    loop.invariant ∙ ap (count _) e
