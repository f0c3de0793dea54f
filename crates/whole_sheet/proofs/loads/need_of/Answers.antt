-- `need_of`: a load is at most the number of circuits. Assumes nothing.
use Prim.Native.Nat.{ℕ, ◌+◌, ◌-◌, ◌/◌, ◌%◌, ◌≤◌, min}
use mathlib.Core.Path.{◌≡◌, ap, ◌∙◌}
use native.Mathlib.Omega.{arith}
use native.Mathlib.Nat.{div-le_self}
use Rattle.std.proofs.lemmas.Grind.{common_steps}
use Rattle.records.specs.Records.{circuits_in}
use Rattle.records.proofs.Files.{length_circuits_in}
use Rattle.method.specs.Sheet.{need}
use Rattle.rows.proofs.LoadLaws.{load_few}
use Rattle.whole_sheet.proofs.loads.need_of.Goals as goal

-- a load over w, rounded up
rounded_up : (l w : ℕ) → 1 ≤ w → l / w + min 1 (l % w) ≡ (l + (w - 1)) / w
rounded_up l w h = grind (arith, common_steps)

pub returns : goal.returns
unfolding need
returns c =
    let a = c.args in
    let w = a.job.wavelengths in
    let cs = circuits_in a.job.circuits a.circuits.now in
    let e = c.div_ceil.ensures ∙ rounded_up c.load_of.result w (omega arith) in
    (e ∙ ap (λ (l : ℕ). (l + (w - 1)) / w) c.load_of.ensures, omega (arith, e, c.load_of.ensures, div-le_self (c.load_of.result + (w - 1)) w, load_few cs a.i, length_circuits_in a.job.circuits a.circuits.now))
