-- `read_list`: no more is read than was lent. Assumes nothing.
use Prim.Native.Nat.{ℕ, ◌≤◌}
use mathlib.Core.Path.{◌≡◌, subst, sym}
use mathlib.Core.List.{List}
use native.Mathlib.Omega.{arith}
use lib.ListN.{length, take}
use lib.Seq.{length-take-le}
use Rattle.std.specs.Prelude.{Option, IfSome, Result, Ok, Err, IfOk}
use Rattle.std.specs.Result.{result_ok}
use Rattle.adds.proofs.read_list.Goals as goal

-- what is told lies within what was lent
bounded : {E : Type 0} (r : Result ℕ E) (o : Option ℕ) (xs : List ℕ) → o ≡ result_ok r → IfOk r (λ k. (k ≤ length xs) × (k ≡ length (take k xs))) → length xs ≡ 16392 → IfSome o (λ k. k ≤ 16392)
bounded (Ok k) o xs e h l = subst (λ (x : Option ℕ). IfSome x (λ k. k ≤ 16392)) (sym e) (omega (arith, h.0, l))
bounded (Err x) o xs e h l = subst (λ (x : Option ℕ). IfSome x (λ k. k ≤ 16392)) (sym e) tt

pub returns : goal.returns
returns g c =
    let lent : length c.read_start.new.buf ≡ 16392 = omega (arith, c.read_start.auto.buf, length-take-le 16392 c.args.list.now c.requires) in
    bounded c.read_start.result _ _ c.ok.ensures.value c.read_start.ensures lent
