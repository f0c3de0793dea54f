-- Last rows that are painted, as the colours of a row show them. Assumes nothing.
use Rattle.std.proofs.Common.{◌≡◌, ℕ, ◌+◌, ◌-◌, ◌<◌, ◌≤◌, Bool, true, false, cond, eqb, ltb, ◌≢◌, List, sym, ap, ◌∙◌, arith, ltb-false, ltb-true, eq-eqb}
use Rattle.basics.specs.Tools.{seek}
use Rattle.basics.proofs.Bools.{on}
use Rattle.basics.proofs.Searches.{seek_miss, seek_later}
use Rattle.method.specs.Sheet.{at, red, taken, open', run_from, paint}
use Rattle.method.proofs.Colours.{at_paint, from_pos}
use Rattle.rows.specs.inner.Colours.{blue_row, shown_as, shown, alike, LastsMoved}
use Rattle.rows.proofs.ShownLaws.{shown_at, shown_opens}
use Rattle.rows.proofs.PlainLaws.{shown_tone, shown_is}

-- painted with last row v, links get the colour that v shows
pub shown_paint : (n k v colour : ℕ) (p : ℕ → Bool) (D : List ℕ) → shown_as k v ≡ cond (eqb colour taken) red colour
    → shown n k (paint n p v D) ≡ alike n (paint n p colour (shown n k D))
shown_paint n k v colour p D e =
    let K : List ℕ = shown n k D in
    shown_is n k (paint n p v D) (paint n p colour K)
    (λ x a b.
    let f : at (paint n p v D) x ≡ cond (p x) v (at D x) = at_paint n p v D x a b in
    let g : at (paint n p colour K) x ≡ cond (p x) colour (shown_as k (at D x)) = at_paint n p colour K x a b ∙ ap (cond (p x) colour) (shown_at n k D x a b) in
    rw (f, g) (on (p x) (λ t. rw t e) (λ t. rw t (sym (shown_tone k (at D x))))))

-- a painted link
at_in : (n v : ℕ) (p : ℕ → Bool) (D : List ℕ) (x : ℕ) → 1 ≤ x → x ≤ n → p x ≡ true → at (paint n p v D) x ≡ v
at_in n v p D x a b t = at_paint n p v D x a b ∙ ap (λ (z : Bool). cond z v (at D x)) t

-- a link that is not
at_out : (n v : ℕ) (p : ℕ → Bool) (D : List ℕ) (x : ℕ) → 1 ≤ x → x ≤ n → p x ≡ false → at (paint n p v D) x ≡ at D x
at_out n v p D x a b t = at_paint n p v D x a b ∙ ap (λ (z : Bool). cond z v (at D x)) t

-- open links may be painted in row k
pub paint_moved : (n k v : ℕ) (p : ℕ → Bool) (D : List ℕ) → (v ≢ blue_row → v ≤ k) → ((x : ℕ) → 1 ≤ x → x ≤ n → p x ≡ true → at D x < k) → LastsMoved n k D (paint n p v D)
paint_moved n k v p D c f =
    record {
      stays = λ x a b h. on (p x) (λ t. absurd (let z : at D x < k = f x a b t in omega arith)) (λ t. at_out n v p D x a b t);
      low = λ x a b h g.
          on (p x)
          (λ t. let e = at_in n v p D x a b t in let z : v ≤ k = c (λ q. g (e ∙ q)) in omega arith)
          (λ t. let e = at_out n v p D x a b t in omega arith);
    }

-- whether a link is open, by its last row
open_is : (n k : ℕ) (D : List ℕ) (x : ℕ) → 1 ≤ x → x ≤ n → eqb (at (shown n k D) x) open' ≡ ltb (at D x) k
open_is n k D x a b = ap (λ (z : ℕ). eqb z open') (shown_at n k D x a b) ∙ shown_opens k (at D x)

-- the last row of an open link is over
pub open_over : (n k : ℕ) (D : List ℕ) (x : ℕ) → 1 ≤ x → x ≤ n → at (shown n k D) x ≡ open' → at D x < k
open_over n k D x a b e = ltb-true (at D x) k (sym (open_is n k D x a b) ∙ eq-eqb (at (shown n k D) x) open' e)

-- a link that is not open stays so
closed_stays : (n k : ℕ) (D D' : List ℕ) (x : ℕ) → LastsMoved n k D D' → 1 ≤ x → x ≤ n → eqb (at (shown n k D) x) open' ≡ false → eqb (at (shown n k D') x) open' ≡ false
closed_stays n k D D' x y a b e =
    let f : ltb (at D x) k ≡ false = sym (open_is n k D x a b) ∙ e in
    open_is n k D' x a b ∙ ap (λ (z : ℕ). ltb z k) (y.stays x a b (ltb-false (at D x) k f)) ∙ f

-- so the next search for an open link may start where the last one ended
pub next_from : (n k l r : ℕ) (D D' : List ℕ) → l ≤ n → l ≡ run_from n (shown n k D) → LastsMoved n k D D' → r ≡ seek (λ x. eqb (at (shown n k D') x) open') l (n + 1 - l)
    → r ≡ run_from n (shown n k D')
unfolding run_from
next_from n k l r D D' h e y q =
    let p : ℕ → Bool = λ x. eqb (at (shown n k D') x) open' in
    let z : n + 1 - 1 ≡ n = omega arith in
    let f : 1 ≤ l = omega (arith, from_pos n (shown n k D)) in
    q
    ∙ sym (seek_later p 1 l (n + 1) f (omega arith)
    (λ x a b. closed_stays n k D D' x y a (omega arith) (seek_miss (λ i. eqb (at (shown n k D) i) open') 1 n x a (omega arith))))
    ∙ ap (seek p 1) z

-- the first search starts at link 1
pub first_from : (n r : ℕ) (K : List ℕ) → r ≡ seek (λ x. eqb (at K x) open') 1 (n + 1 - 1) → r ≡ run_from n K
unfolding run_from
first_from n r K e = let k : n + 1 - 1 ≡ n = omega arith in e ∙ ap (seek (λ x. eqb (at K x) open') 1) k
