-- What `every`, `any`, `seek` and `lowest` find. Assumes nothing.
use Prim.Native.Nat.{◌+◌, ◌-◌, ◌<◌, ◌≤◌, suc, zero, ℕ}
use borrow.Author.Tests.{eq-eqb, eqb-false, eqb-true, ltb-false, ltb-true, ne_eqb}
use lib.Dec.{eqb, ltb}
use mathlib.Core.Bool.{Bool, cond, false, not, true}
use mathlib.Core.Logic.{◌≢◌}
use mathlib.Core.Option.{Option, none, some}
use mathlib.Core.Path.{◌∙◌, ◌≡◌, ap, refl, sym}
use native.Mathlib.Nat.{add-zero}
use native.Mathlib.Numerals.{add-one}
use native.Mathlib.Omega.{arith}
use Rattle.basics.specs.Tools.{any, better, count, every, lowest, seek}
use Rattle.basics.proofs.Bools.{and_l, and_of, and_r, by_eq, by_le, clash, never, on, or_false_l, or_false_r}
use Rattle.basics.proofs.Counts.{count_none, count_some}

-- each passes, so the one at x does
pub every_at : (p : ℕ → Bool) (i k : ℕ) → every p i k ≡ true → (x : ℕ) → i ≤ x → x < i + k → p x ≡ true
unfolding every
every_at p i zero e x l h = absurd (omega arith)
every_at p i (suc k) e x l h =
    on (eqb i x) (λ q. let q' : i ≡ x = eqb-true i x q in rw (← q') (and_l _ _ e))
    (λ q. every_at p (suc i) k (and_r (p i) _ e) x (let q' : i ≢ x = eqb-false i x q in omega arith) (omega arith))

-- each of them passes
pub every_of : (p : ℕ → Bool) (i k : ℕ) → ((x : ℕ) → i ≤ x → x < i + k → p x ≡ true) → every p i k ≡ true
unfolding every
every_of p i zero h = refl
every_of p i (suc k) h =
    and_of (p i) _ (h i (omega arith) (omega arith))
    (every_of p (suc i) k (λ x l m. h x (omega arith) (omega arith)))

-- not every one passes, so one does not
pub every_false : (p : ℕ → Bool) (i k : ℕ) → every p i k ≡ false → (x : ℕ) × (i ≤ x) × (x < i + k) × (p x ≡ false)
unfolding every
every_false p i zero e = clash true refl e
every_false p i (suc k) e =
    on (p i)
    (λ q. let e' : every p (suc i) k ≡ false = rw q at e in
    let r = every_false p (suc i) k e' in
    let a = r.1 in
    let b = r.2 in
    (r.0, omega arith, omega arith, r.3))
    (λ q. (i, omega arith, omega arith, q))

-- two tests that agree on the places asked are passed alike
pub every_same : (p q : ℕ → Bool) (i k : ℕ) → ((x : ℕ) → i ≤ x → x < i + k → p x ≡ q x) → every p i k ≡ every q i k
unfolding every
every_same p q i zero h = refl
every_same p q i (suc k) h = rw (h i (omega arith) (omega arith), every_same p q (suc i) k (λ x a b. h x (omega arith) (omega arith)))

-- the place found is not before the start
pub seek_ge : (p : ℕ → Bool) (i k : ℕ) → i ≤ seek p i k
unfolding seek
seek_ge p i zero = omega arith
seek_ge p i (suc k) = on (p i) (λ e. rw e (omega arith)) (λ e. rw e (omega (arith, seek_ge p (suc i) k)))

-- and not past the end
pub seek_le : (p : ℕ → Bool) (i k : ℕ) → seek p i k ≤ i + k
unfolding seek
seek_le p i zero = omega arith
seek_le p i (suc k) = on (p i) (λ e. rw e (omega arith)) (λ e. rw e (omega (arith, seek_le p (suc i) k)))

-- what is found passes
pub seek_hit : (p : ℕ → Bool) (i k : ℕ) → seek p i k < i + k → p (seek p i k) ≡ true
unfolding seek
seek_hit p i zero h = absurd (omega arith)
seek_hit p i (suc k) h =
    on (p i) (λ e. rw e e)
    (λ e. rw e (seek_hit p (suc i) k (let h' : seek p (suc i) k < i + suc k = rw e at h in omega arith)))

-- what stands before it does not
pub seek_miss : (p : ℕ → Bool) (i k : ℕ) (x : ℕ) → i ≤ x → x < seek p i k → p x ≡ false
unfolding seek
seek_miss p i zero x l h = absurd (omega arith)
seek_miss p i (suc k) x l h =
    on (p i) (λ e. absurd (let h' : x < i = rw e at h in omega arith))
    (λ e. let h' : x < seek p (suc i) k = rw e at h in
    on (eqb i x) (λ q. let q' : i ≡ x = eqb-true i x q in rw (← q') e)
    (λ q. let q' : i ≢ x = eqb-false i x q in seek_miss p (suc i) k x (omega arith) h'))

-- some passes: which
pub any_true : (p : ℕ → Bool) (m : ℕ) → any p m ≡ true → (j : ℕ) × (j < m) × (p j ≡ true)
unfolding any
any_true p zero e = clash false e refl
any_true p (suc m) e =
    on (p m) (λ q. (m, omega arith, q))
    (λ q. let r = any_true p m (rw q at e) in let r₁ = r.1 in (r.0, omega arith, r.2))

-- none passes
pub any_false : (p : ℕ → Bool) (m : ℕ) → any p m ≡ false → (j : ℕ) → j < m → p j ≡ false
unfolding any
any_false p zero e j h = absurd (omega arith)
any_false p (suc m) e j h =
    by_eq j m (λ q. rw q (or_false_l (p m) _ e)) (λ q. any_false p m (or_false_r (p m) _ e) j (omega arith))

-- nothing was found, so none passes
pub lowest_none : (ok : ℕ → Bool) (num : ℕ → ℕ) (m : ℕ) → lowest ok num m ≡ none → (j : ℕ) → j < m → ok j ≡ false
unfolding lowest better
lowest_none ok num zero e j h = absurd (omega arith)
lowest_none ok num (suc m) e j h = go (ok m) refl (lowest ok num m) refl (lowest_none ok num m)
  where
    go : (b : Bool) → ok m ≡ b → (r : Option ℕ) → lowest ok num m ≡ r → (lowest ok num m ≡ none → (j : ℕ) → j < m → ok j ≡ false) → ok j ≡ false
    go false eb r er ih =
        on (eqb j m) (λ q. let q' : j ≡ m = eqb-true j m q in cc)
        (λ q. let q' : j ≢ m = eqb-false j m q in ih (rw eb at e) j (omega arith))
    go true eb none er ih = let z : some m ≡ none = rw (eb, er) at e in cc
    go true eb (some a) er ih =
        let z : cond (ltb (num m) (num a)) (some m) (some a) ≡ none = rw (eb, er) at e in
        on (ltb (num m) (num a)) (λ q. let y : some m ≡ none = rw q at z in cc) (λ q. let y : some a ≡ none = rw q at z in cc)

-- a passes, and has the lowest number of those that pass
pub record IsLowest (ok : ℕ → Bool) (num : ℕ → ℕ) (m a : ℕ) : Type 0 where
  pub below : a < m
  pub passes : ok a ≡ true
  pub least : (j : ℕ) → j < m → ok j ≡ true → num a ≤ num j

-- what was found is the lowest
pub lowest_some : (ok : ℕ → Bool) (num : ℕ → ℕ) (m a : ℕ) → lowest ok num m ≡ some a → IsLowest ok num m a
unfolding lowest better
lowest_some ok num zero a e = let z : ◌≡◌ {A = ℕ} 0 1 = cc in absurd (omega arith)
lowest_some ok num (suc m) a e = go (ok m) refl (lowest ok num m) refl (lowest_some ok num m)
  where
    go : (b : Bool) → ok m ≡ b → (r : Option ℕ) → lowest ok num m ≡ r → ((a : ℕ) → lowest ok num m ≡ some a → IsLowest ok num m a) → IsLowest ok num (suc m) a
    go false eb r er ih =
        let y : IsLowest ok num m a = ih a (rw eb at e) in
        record {
          below = omega arith;
          passes = y.passes;
          least = λ j h q. on (eqb j m) (λ t. let t' : j ≡ m = eqb-true j m t in clash (ok m) (rw (← t') q) eb) (λ t. let t' : j ≢ m = eqb-false j m t in y.least j (omega arith) q);
        }
    go true eb none er ih =
        let z : some m ≡ some a = rw (eb, er) at e in
        let y : a ≡ m = cc in
        record {
          below = omega arith;
          passes = rw y eb;
          least = λ j h q. on (eqb j m) (λ t. let t' : j ≡ m = eqb-true j m t in let g : num a ≡ num j = cc in omega arith) (λ t. let t' : j ≢ m = eqb-false j m t in clash (ok j) q (lowest_none ok num m er j (omega arith)));
        }
    go true eb (some b) er ih =
        let z : cond (ltb (num m) (num b)) (some m) (some b) ≡ some a = rw (eb, er) at e in
        let y : IsLowest ok num m b = ih b er in
        on (ltb (num m) (num b))
        (λ q.
        let z' : some m ≡ some a = rw q at z in
        let t : a ≡ m = cc in
        record {
          below = omega arith;
          passes = rw t eb;
          least = λ j h u.
              by_eq j m (λ v. let g : num a ≡ num j = cc in omega arith) (λ v. omega (arith, ltb-true, y.least j (omega arith) u, ap num t));
        })
        (λ q.
        let z' : some b ≡ some a = rw q at z in
        let t : a ≡ b = cc in
        record {
          below = omega arith;
          passes = rw t y.passes;
          least = λ j h u.
              by_eq j m (λ v. omega (arith, ltb-false, ap num t, ap num v)) (λ v. omega (arith, y.least j (omega arith) u, ap num t));
        })

-- two searches find nothing, or the same number
pub data SameLowest (ok ok' : ℕ → Bool) (num num' : ℕ → ℕ) (m k : ℕ) : Type 0 where
  -- nothing
  none_found : lowest ok num m ≡ none → lowest ok' num' k ≡ none → SameLowest ok ok' num num' m k
  -- the same number
  both_found : (i j : ℕ) → IsLowest ok num m i → IsLowest ok' num' k j → num i ≡ num' j → lowest ok num m ≡ some i → lowest ok' num' k ≡ some j → SameLowest ok ok' num num' m k

-- that is so if what passes in one has a twin with its number that passes in the other, both ways
pub lowest_both : (ok ok' : ℕ → Bool) (num num' : ℕ → ℕ) (m k : ℕ)
    → ((i : ℕ) → i < m → ok i ≡ true → (j : ℕ) × (j < k) × (ok' j ≡ true) × (num' j ≡ num i))
    → ((j : ℕ) → j < k → ok' j ≡ true → (i : ℕ) × (i < m) × (ok i ≡ true) × (num i ≡ num' j))
    → SameLowest ok ok' num num' m k
lowest_both ok ok' num num' m k to fro = go (lowest ok num m) refl (lowest ok' num' k) refl
  where
    go : (o : Option ℕ) → lowest ok num m ≡ o → (p : Option ℕ) → lowest ok' num' k ≡ p → SameLowest ok ok' num num' m k
    go none e none f = none_found e f
    go none e (some j) f =
        let y = lowest_some ok' num' k j f in
        let b = fro j y.below y.passes in
        clash (ok b.0) b.2 (lowest_none ok num m e b.0 b.1)
    go (some i) e none f =
        let y = lowest_some ok num m i e in
        let b = to i y.below y.passes in
        clash (ok' b.0) b.2 (lowest_none ok' num' k f b.0 b.1)
    go (some i) e (some j) f =
        let y = lowest_some ok num m i e in
        let z = lowest_some ok' num' k j f in
        let b = to i y.below y.passes in
        let c = fro j z.below z.passes in
        both_found i j y z (omega (arith, y.least c.0 c.1 c.2, z.least b.0 b.1 b.2, b.3, c.3)) e f

-- two tests that agree below m
pub any_eq : (p q : ℕ → Bool) (m : ℕ) → ((j : ℕ) → j < m → p j ≡ q j) → any p m ≡ any q m
unfolding any
any_eq p q zero h = refl
any_eq p q (suc m) h = rw (h m (omega arith), any_eq p q m (λ j l. h j (omega arith)))

-- what passes, with none before it that does, is what is found
pub seek_first : (p : ℕ → Bool) (i k x : ℕ) → i ≤ x → x < i + k → p x ≡ true → ((y : ℕ) → i ≤ y → y < x → p y ≡ false) → seek p i k ≡ x
seek_first p i k x a b t h =
    by_le (seek p i k) x
    (λ l. by_le x (seek p i k) (λ g. omega arith)
    (λ g. clash (p (seek p i k)) (seek_hit p i k (omega arith)) (h (seek p i k) (seek_ge p i k) g)))
    (λ l. clash (p x) t (seek_miss p i k x a l))

-- none passes, so the end is found
pub seek_none : (p : ℕ → Bool) (i k : ℕ) → ((y : ℕ) → i ≤ y → y < i + k → p y ≡ false) → seek p i k ≡ i + k
seek_none p i k h =
    by_le (i + k) (seek p i k) (λ l. omega (arith, seek_le p i k))
    (λ l. clash (p (seek p i k)) (seek_hit p i k l) (h (seek p i k) (seek_ge p i k) l))

-- one passes, so some does
pub any_hit : (p : ℕ → Bool) (m j : ℕ) → j < m → p j ≡ true → any p m ≡ true
any_hit p m j h t = on (any p m) (λ e. e) (λ e. clash (p j) t (any_false p m e j h))

-- some passes where the count of those that do is not zero
pub any_counted : (p : ℕ → Bool) (m : ℕ) → any p m ≡ not (eqb (count p m) 0)
any_counted p m =
    on (any p m)
    (λ e. let r = any_true p m e in e ∙ ap not (sym (ne_eqb (count p m) 0 (λ z. omega (arith, count_some p m r.0 r.1 r.2, z)))))
    (λ e. e ∙ ap not (sym (eq-eqb (count p m) 0 (count_none p m (any_false p m e)))))

-- none of them passes, so none does
pub any_none : (p : ℕ → Bool) (m : ℕ) → ((j : ℕ) → j < m → p j ≡ false) → any p m ≡ false
any_none p m h = on (any p m) (λ e. let r = any_true p m e in clash (p r.0) r.2 (h r.0 r.1)) (λ e. e)

-- some pass in both or in neither, if what passes in one has a twin that passes in the other, both ways
pub any_both : (p q : ℕ → Bool) (m k : ℕ) → ((i : ℕ) → i < m → p i ≡ true → (j : ℕ) × (j < k) × (q j ≡ true))
    → ((j : ℕ) → j < k → q j ≡ true → (i : ℕ) × (i < m) × (p i ≡ true)) → any p m ≡ any q k
any_both p q m k to fro =
    on (any p m)
    (λ u. let r = any_true p m u in let s = to r.0 r.1 r.2 in u ∙ sym (any_hit q k s.0 s.1 s.2))
    (λ u. u ∙ sym (any_none q k (λ j l. never (q j) (λ e. let r = fro j l e in clash (p r.0) r.2 (any_false p m u r.0 r.1)))))

-- place i does not pass: the search before e goes on at i + 1
pub seek_onward : (p : ℕ → Bool) (i e : ℕ) → i < e → p i ≡ false → seek p i (e - i) ≡ seek p (i + 1) (e - (i + 1))
unfolding seek
seek_onward p i e h q =
    let k : e - i ≡ suc (e - (i + 1)) = omega arith in
    rw (k, q, add-one i)

-- none of the k places from i on passes: the search before e goes on at i + k
pub seek_skip : (p : ℕ → Bool) (i k e : ℕ) → i + k ≤ e → any (λ x. p (i + x)) k ≡ false → seek p i (e - i) ≡ seek p (i + k) (e - (i + k))
unfolding any
seek_skip p i zero e h q = rw (add-zero i)
seek_skip p i (suc k) e h q =
    let t : i + suc k ≡ i + k + 1 = omega arith in
    rw t (seek_skip p i k e (omega arith) (or_false_r (p (i + k)) _ q) ∙ seek_onward p (i + k) e (omega arith) (or_false_l (p (i + k)) _ q))

-- place i passes: it is found, before e
pub seek_here : (p : ℕ → Bool) (i e : ℕ) → i < e → p i ≡ true → seek p i (e - i) ≡ i
unfolding seek
seek_here p i e h q =
    let k : e - i ≡ suc (e - (i + 1)) = omega arith in
    rw (k, q)

-- no place before e is left
pub seek_over : (p : ℕ → Bool) (i e : ℕ) → e ≤ i → seek p i (e - i) ≡ i
unfolding seek
seek_over p i e h = let k : e - i ≡ 0 = omega arith in rw k

-- place m does not pass: whether some place below m + 1 does is as below m
pub any_past : (p : ℕ → Bool) (m : ℕ) → p m ≡ false → any p (m + 1) ≡ any p m
unfolding any
any_past p m e = rw (add-one m, e)

-- two tests that agree on the places searched find the same
pub seek_same : (p q : ℕ → Bool) (i k : ℕ) → ((x : ℕ) → i ≤ x → x < i + k → p x ≡ q x) → seek p i k ≡ seek q i k
unfolding seek
seek_same p q i zero h = refl
seek_same p q i (suc k) h = rw (h i (omega arith) (omega arith), seek_same p q (suc i) k (λ x a b. h x (omega arith) (omega arith)))

-- two searches that agree, one of them a place on
pub seek_shift : (p q : ℕ → Bool) (i k : ℕ) → ((x : ℕ) → i ≤ x → x < i + k → p x ≡ q (suc x)) → suc (seek p i k) ≡ seek q (suc i) k
unfolding seek
seek_shift p q i zero h = refl
seek_shift p q i (suc k) h =
    let t : p i ≡ q (suc i) = h i (omega arith) (omega arith) in
    on (p i) (λ e. rw (← t, e))
    (λ e. rw (← t, e) (seek_shift p q (suc i) k (λ x a b. h x (omega arith) (omega arith))))

-- a search from place i on finds what one from a later place e on finds, where none from i to before e passes
pub seek_later : (p : ℕ → Bool) (i e to : ℕ) → i ≤ e → e ≤ to → ((x : ℕ) → i ≤ x → x < e → p x ≡ false) → seek p i (to - i) ≡ seek p e (to - e)
seek_later p i e to h l f =
    let k : i + (e - i) ≡ e = omega arith in
    seek_skip p i (e - i) to (omega arith) (any_none (λ x. p (i + x)) (e - i) (λ x b. f (i + x) (omega arith) (omega arith)))
    ∙ ap (λ (z : ℕ). seek p z (to - z)) k

-- two tests that agree have the same lowest
pub lowest_same : (p q : ℕ → Bool) (num : ℕ → ℕ) (m : ℕ) → ((j : ℕ) → j < m → p j ≡ q j) → lowest p num m ≡ lowest q num m
unfolding lowest
lowest_same p q num zero h = refl
lowest_same p q num (suc m) h = rw (h m (omega arith), lowest_same p q num m (λ j b. h j (omega arith)))
