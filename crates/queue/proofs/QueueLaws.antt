-- What the queue tells its caller: the first place that fits is the method's choice, and a circuit is taken out. Assumes nothing.
use Prim.Native.Nat.{ℕ, ◌+◌, ◌-◌, ◌*◌, ◌≤◌, ◌<◌}
use mathlib.Core.Bool.{Bool, true, false, ◌&&◌, cond}
use mathlib.Core.Path.{◌≡◌, refl, ap, ap₂, ◌∙◌, sym}
use mathlib.Core.List.{List}
use mathlib.Core.Option.{Option, none, some}
use native.Mathlib.Nat.{zero-add}
use native.Mathlib.Omega.{arith}
use lib.ListN.{length, get_or, set}
use lib.Seq.{get_or-set_same, get_or-set_other}
use lib.Dec.{eqb}
use borrow.Author.Tests.{eqb-true, eq-eqb, ne_eqb}
use Rattle.basics.specs.Tools.{count, seek, lowest, part}
use Rattle.basics.proofs.Bools.{on, by_eq, by_le, clash, and_l, and_r, and_of}
use Rattle.basics.proofs.Counts.{count_lt}
use Rattle.basics.proofs.Searches.{seek_hit, seek_miss, seek_same, lowest_none, lowest_some, IsLowest}
use Rattle.basics.proofs.Tables.{get_d_part}
use Rattle.records.specs.declared.Circuit.{Circuit}
use Rattle.method.specs.Line.{circuit, Distinct}
use Rattle.scans.specs.Scans.{within, cell_within, both_within}
use Rattle.scans.specs.declared.Bounds.{Bounds}
use Rattle.queue.specs.declared.Queue.{Queue}
use Rattle.queue.specs.Queued.{place_in, Queued, first_place}

-- whether circuit j waits and has ends that pass f
abbrev passing : List Circuit → List ℕ → (ℕ → ℕ → Bool) → ℕ → Bool
passing cs R f = λ j. eqb (get_or R j 0) 0 && f (circuit cs j).first (circuit cs j).last

-- the number of circuit j
abbrev numbers : List Circuit → ℕ → ℕ
numbers cs = λ j. (circuit cs j).number

-- whether the ends at place x of the list pass f
abbrev passing_in : ℕ → List ℕ → (ℕ → ℕ → Bool) → ℕ → Bool
passing_in m L f = λ x. f (get_or L x 0) (get_or L (m + x) 0)

-- the ends at a place of the list whose circuit waits are that circuit's
pub first_waiting : (m : ℕ) (cs : List Circuit) (R L : List ℕ) (q : Queue) (x j : ℕ) → Queued m cs R L q → x < q.to → place_in m L x ≡ j → eqb (get_or R j 0) 0 ≡ true
    → get_or L x 0 ≡ (circuit cs j).first
first_waiting m cs R L q x j Q h e w =
    Q.firsts x h ∙ ap (λ (i : ℕ). cond (eqb (get_or R i 0) 0) (circuit cs i).first 0) e ∙ ap (λ (b : Bool). cond b (circuit cs j).first 0) w

-- a circuit that waits and passes stands at a place of the list that passes
place_of : (m : ℕ) (cs : List Circuit) (R L : List ℕ) (q : Queue) (f : ℕ → ℕ → Bool) (j : ℕ) → Queued m cs R L q → j < m → passing cs R f j ≡ true
    → (x : ℕ) × (q.from ≤ x) × (x < q.to) × (place_in m L x ≡ j) × (passing_in m L f x ≡ true)
place_of m cs R L q f j Q h t =
    let w : eqb (get_or R j 0) 0 ≡ true = and_l _ _ t in
    let r = Q.all j h (eqb-true (get_or R j 0) 0 w) in
    let a = first_waiting m cs R L q r.0 j Q r.2 r.3 w in
    let b : get_or L (m + r.0) 0 ≡ (circuit cs j).last = Q.lasts r.0 r.2 ∙ ap (λ (i : ℕ). (circuit cs i).last) r.3 in
    (r.0, r.1, r.2, r.3, ap₂ f a b ∙ and_r (eqb (get_or R j 0) 0) _ t)

-- at a place of the list that passes stands a circuit that waits and passes
at_place : (m : ℕ) (cs : List Circuit) (R L : List ℕ) (q : Queue) (f : ℕ → ℕ → Bool) (x : ℕ) → Queued m cs R L q → ((b : ℕ) → f 0 b ≡ false) → x < q.to
    → passing_in m L f x ≡ true → passing cs R f (place_in m L x) ≡ true
at_place m cs R L q f x Q out h t =
    let j = place_in m L x in
    on (eqb (get_or R j 0) 0)
    (λ w. and_of _ _ w (sym (ap₂ f (first_waiting m cs R L q x j Q h refl w) (Q.lasts x h)) ∙ t))
    (λ w.
    let z : get_or L x 0 ≡ 0 = Q.firsts x h ∙ ap (λ (b : Bool). cond b (circuit cs j).first 0) w in
    clash (passing_in m L f x) t (ap (λ (v : ℕ). f v (get_or L (m + x) 0)) z ∙ out (get_or L (m + x) 0)))

-- no place before the first that passes does
not_before : (m : ℕ) (L : List ℕ) (q : Queue) (f : ℕ → ℕ → Bool) (p x : ℕ) → p ≡ first_place q (λ x. f (get_or L x 0) (get_or L (m + x) 0))
    → q.from ≤ x → passing_in m L f x ≡ true → p ≤ x
not_before m L q f p x e h t =
    by_le p x (λ l. l) (λ l. clash (passing_in m L f x) t (seek_miss (passing_in m L f) q.from (q.to - q.from) x h (omega arith)))

-- the circuit at the first place that passes waits and passes
first_passes : (m : ℕ) (cs : List Circuit) (R L : List ℕ) (q : Queue) (f : ℕ → ℕ → Bool) (p : ℕ) → Queued m cs R L q → ((b : ℕ) → f 0 b ≡ false)
    → p ≡ first_place q (λ x. f (get_or L x 0) (get_or L (m + x) 0)) → p < q.to → passing cs R f (place_in m L p) ≡ true
first_passes m cs R L q f p Q out e h =
    let z = Q.ends.0 in
    let t : passing_in m L f p ≡ true = ap (passing_in m L f) e ∙ seek_hit (passing_in m L f) q.from (q.to - q.from) (omega arith) in
    at_place m cs R L q f p Q out h t

-- the first place that fits, by the cells of the list
pub fit_is : (m from to : ℕ) (a b : Bounds) (L : List ℕ) → from ≤ to → to ≤ m
    → seek (both_within a b (part 0 m L) (part m m L)) from (to - from) ≡ seek (λ x. within a (get_or L x 0) && within b (get_or L (m + x) 0)) from (to - from)
unfolding both_within cell_within
fit_is m from to a b L h k =
    seek_same (both_within a b (part 0 m L) (part m m L)) (λ x. within a (get_or L x 0) && within b (get_or L (m + x) 0)) from (to - from)
    (λ x i j. ap₂ (λ (u v : ℕ). within a u && within b v)
    (get_d_part 0 m L x 0 (omega arith) ∙ ap (λ (y : ℕ). get_or L y 0) (zero-add x)) (get_d_part m m L x 0 (omega arith)))

-- the first place that fits is the lowest of the waiting circuits that fit
pub chosen_is : (m : ℕ) (cs : List Circuit) (R L : List ℕ) (q : Queue) (f : ℕ → ℕ → Bool) (p : ℕ)
    → length cs ≡ m → Distinct cs → Queued m cs R L q → ((b : ℕ) → f 0 b ≡ false)
    → p ≡ first_place q (λ x. f (get_or L x 0) (get_or L (m + x) 0)) → p < q.to
    → lowest (λ j. eqb (get_or R j 0) 0 && f (circuit cs j).first (circuit cs j).last) (λ j. (circuit cs j).number) m ≡ some (place_in m L p)
chosen_is m cs R L q f p l d Q out e h = go (lowest (passing cs R f) (numbers cs) m) refl
  where
    go : (o : Option ℕ) → lowest (passing cs R f) (numbers cs) m ≡ o → lowest (passing cs R f) (numbers cs) m ≡ some (place_in m L p)
    go none eo =
        clash (passing cs R f (place_in m L p)) (first_passes m cs R L q f p Q out e h) (lowest_none (passing cs R f) (numbers cs) m eo (place_in m L p) (Q.places p h))
    go (some a) eo =
        let y : IsLowest (passing cs R f) (numbers cs) m a = lowest_some (passing cs R f) (numbers cs) m a eo in
        let r = place_of m cs R L q f a Q y.below y.passes in
        let up : numbers cs (place_in m L p) ≤ numbers cs (place_in m L r.0) = Q.rising p r.0 (not_before m L q f p r.0 e r.1 r.4) r.2 in
        let down : numbers cs a ≤ numbers cs (place_in m L p) = y.least (place_in m L p) (Q.places p h) (first_passes m cs R L q f p Q out e h) in
        let at : numbers cs (place_in m L r.0) ≡ numbers cs a = ap (numbers cs) r.3 in
        let b = y.below in
        let k = Q.places p h in
        eo ∙ ap some (d a (place_in m L p) (omega arith) (omega arith) (omega arith))

-- where no place fits, no waiting circuit does
pub chosen_none : (m : ℕ) (cs : List Circuit) (R L : List ℕ) (q : Queue) (f : ℕ → ℕ → Bool) (p : ℕ)
    → Queued m cs R L q → p ≡ first_place q (λ x. f (get_or L x 0) (get_or L (m + x) 0)) → q.to ≤ p
    → lowest (λ j. eqb (get_or R j 0) 0 && f (circuit cs j).first (circuit cs j).last) (λ j. (circuit cs j).number) m ≡ none
chosen_none m cs R L q f p Q e h = go (lowest (passing cs R f) (numbers cs) m) refl
  where
    go : (o : Option ℕ) → lowest (passing cs R f) (numbers cs) m ≡ o → lowest (passing cs R f) (numbers cs) m ≡ none
    go none eo = eo
    go (some a) eo =
        let y : IsLowest (passing cs R f) (numbers cs) m a = lowest_some (passing cs R f) (numbers cs) m a eo in
        let r = place_of m cs R L q f a Q y.below y.passes in
        let x = r.2 in
        absurd (omega (arith, not_before m L q f p r.0 e r.1 r.4))

-- and the circuit at that place waits
pub chosen_waits : (m : ℕ) (cs : List Circuit) (R L : List ℕ) (q : Queue) (f : ℕ → ℕ → Bool) (p : ℕ)
    → Queued m cs R L q → ((b : ℕ) → f 0 b ≡ false)
    → p ≡ first_place q (λ x. f (get_or L x 0) (get_or L (m + x) 0)) → p < q.to
    → (place_in m L p < m) × (get_or R (place_in m L p) 0 ≡ 0)
chosen_waits m cs R L q f p Q out e h =
    (Q.places p h, eqb-true (get_or R (place_in m L p) 0) 0 (and_l _ _ (first_passes m cs R L q f p Q out e h)))

-- a first link that is set leaves the places as they are
place_kept : (m p x : ℕ) (L : List ℕ) → p < m → place_in m (set L p 0) x ≡ place_in m L x
unfolding place_in
place_kept m p x L h = get_or-set_other L p (2 * m + x) 0 0 (omega arith)

-- the circuit at place p is taken out: it has row k now
pub taken_out : (m k p : ℕ) (cs : List Circuit) (R L : List ℕ) (q : Queue)
    → length R ≡ m → 3 * m ≤ length L → 1 ≤ k → p < q.to → get_or R (place_in m L p) 0 ≡ 0 → Queued m cs R L q
    → (1 ≤ q.many) × Queued m cs (set R (place_in m L p) k) (set L p 0) (record { from = q.from; to = q.to; many = q.many - 1 })
taken_out m k p cs R L q lr ll pos h w Q =
    let en = Q.ends.1 in
    let pm : p < m = omega arith in
    let j = place_in m L p in
    let jm : j < m = Q.places p h in
    let R' = set R j k in
    let new : get_or R' j 0 ≡ k = get_or-set_same R j k 0 (omega arith) in
    let same : (x : ℕ) → place_in m (set L p 0) x ≡ place_in m L x = λ x. place_kept m p x L pm in
    let out : eqb (get_or R' j 0) 0 ≡ false = ne_eqb (get_or R' j 0) 0 (omega arith) in
    let less : count (λ j. eqb (get_or R' j 0) 0) m < count (λ j. eqb (get_or R j 0) 0) m =
    count_lt (λ j. eqb (get_or R' j 0) 0) (λ j. eqb (get_or R j 0) 0) m
    (λ i l t. by_eq i j (λ s. eq-eqb (get_or R i 0) 0 (ap (λ (y : ℕ). get_or R y 0) s ∙ w)) (λ s. ap (λ (v : ℕ). eqb v 0) (sym (get_or-set_other R j i k 0 s)) ∙ t))
    j jm out (eq-eqb (get_or R j 0) 0 w) in
    let few = Q.few.0 in
    let few₁ = Q.few.1 in (
      omega arith,
      record {
        ends = Q.ends;
        places = λ x l. rw (same x) (Q.places x l);
        once = λ x y a b e. Q.once x y a b (sym (same x) ∙ e ∙ same y);
        rising = λ x y a b. rw (same x, same y) (Q.rising x y a b);
        firsts = λ x l.
            by_eq x p
            (λ s.
            let u : get_or (set L p 0) x 0 ≡ 0 = ap (λ (y : ℕ). get_or (set L p 0) y 0) s ∙ get_or-set_same L p 0 0 (omega arith) in
            let v : place_in m (set L p 0) x ≡ j = same x ∙ ap (place_in m L) s in
            rw (u, v, out))
            (λ s.
            let u : get_or (set L p 0) x 0 ≡ get_or L x 0 = get_or-set_other L p x 0 0 s in
            let v : get_or R' (place_in m L x) 0 ≡ get_or R (place_in m L x) 0 = get_or-set_other R j (place_in m L x) k 0 (λ t. s (Q.once x p l h t)) in
            rw (u, same x, v) (Q.firsts x l));
        lasts = λ x l. rw (get_or-set_other L p (m + x) 0 0 (omega arith), same x) (Q.lasts x l);
        all = λ i l e.
            by_eq i j
            (λ s. let u : get_or R' i 0 ≡ k = ap (λ (y : ℕ). get_or R' y 0) s ∙ new in absurd (omega arith))
            (λ s.
            let r = Q.all i l (sym (get_or-set_other R j i k 0 s) ∙ e) in
            (r.0, r.1, r.2, same r.0 ∙ r.3));
        few = (omega arith, omega arith);
      },
    )
