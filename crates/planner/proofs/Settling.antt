-- From phase one to phase two, and the lent areas when both are done. Assumes nothing.
use Prim.Native.Nat.{ℕ, ◌+◌, ◌-◌, ◌*◌, ◌≤◌}
use mathlib.Core.Path.{◌≡◌, ap, ◌∙◌, sym, subst}
use mathlib.Core.List.{List, ◌++◌}
use lib.ListN.{length, drop, replicate}
use lib.Seq.{drop_at, take_at}
use borrow.Rule.Slice.PartMut.{mid_of, post_of, put_mid, same_len_mid, mid_len}
use Rattle.records.specs.Records.{circuits_in}
use Rattle.records.proofs.Files.{length_circuits_in}
use Rattle.method.specs.Line.{Assignment}
use Rattle.rows.specs.Filled.{Filled}
use Rattle.register.specs.Areas.{zeroed_to}
use Rattle.register.specs.Lists.{assignment_list, assignment_records}

-- the first k bytes, when they are back, are what came back
back_again : (k : ℕ) (xs ys : List ℕ) → length ys ≡ k - 0 → mid_of 0 (k - 0) (put_mid 0 (k - 0) xs ys) ≡ ys
back_again k xs ys l = take_at ys (post_of 0 (k - 0) xs) (k - 0) l

-- what phase one left in the work area is there when it is lent again
pub lent_on : (n w m : ℕ) (s work ys : List ℕ) → length ys ≡ 4 * n + 4 * m - 0 → Filled n w m s ys → Filled n w m s (mid_of 0 (4 * n + 4 * m - 0) (put_mid 0 (4 * n + 4 * m - 0) work ys))
lent_on n w m s work ys l f = subst (Filled n w m s) (sym (back_again (4 * n + 4 * m) work ys l)) f

-- an area keeps its length
pub long_back : (k : ℕ) (xs ys : List ℕ) → k ≤ length xs → length ys ≡ k - 0 → length (put_mid 0 (k - 0) xs ys) ≡ length xs
long_back k xs ys h l = same_len_mid 0 (k - 0) xs ys (l ∙ sym (mid_len 0 k xs h))

-- the assignment list is written over what phase one left of it
pub assigned_is : (m from : ℕ) (s : List ℕ) (gs : List Assignment) (assigns ys after : List ℕ) → length ys ≡ 8 * m
    → after ≡ assignment_list from (circuits_in m s) gs (ys ++ drop (8 * m) assigns) → after ≡ assignment_list from (circuits_in m s) gs assigns
unfolding assignment_list
assigned_is m from s gs assigns ys after l e =
    let k : 8 * length (circuits_in m s) ≡ 8 * m = ap (λ (z : ℕ). 8 * z) (length_circuits_in m s) in
    e ∙ ap (λ (t : List ℕ). assignment_records from (circuits_in m s) gs ++ t)
    (ap (λ (z : ℕ). drop z (ys ++ drop (8 * m) assigns)) k ∙ drop_at ys (drop (8 * m) assigns) (8 * m) l ∙ ap (λ (z : ℕ). drop z assigns) (sym k))

-- the first k bytes were lent twice, and then zeroed: they are zero, and the rest is as it was
pub cleared_is : (k : ℕ) (work ys zs zeros : List ℕ) → length ys ≡ k → length zs ≡ k → zeros ≡ replicate k 0
    → zeros ++ drop k (zs ++ drop k (ys ++ drop k work)) ≡ zeroed_to k work
unfolding zeroed_to
cleared_is k work ys zs zeros l l' e =
    (λ i. e i ++ drop_at zs (drop k (ys ++ drop k work)) k l' i) ∙ ap (λ (t : List ℕ). replicate k 0 ++ t) (drop_at ys (drop k work) k l)
