-- There is one index, and the question finds the riders in it. Assumes nothing.
use Prim.Native.Nat.{ℕ, zero, suc, ◌+◌, ◌-◌, ◌<◌, ◌≤◌}
use mathlib.Core.Path.{◌≡◌, refl, ap, ap₂, ◌∙◌, sym, subst}
use mathlib.Core.Logic.{◌≢◌, ◌⊎◌, inl, inr, ⊎_elim}
use mathlib.Core.Bool.{true}
use mathlib.Core.List.{List, [], ◌∷◌, ◌++◌, append-nil, append_assoc}
use native.Mathlib.Omega.{arith}
use native.Mathlib.Numerals.{add-one}
use lib.ListN.{length, get_or, take, take-append-drop}
use lib.Seq.{take-add, length-take-le, get_or-take}
use lib.Dec.{ltb}
use borrow.Author.Tests.{ltb-true, ltb-false}
use Rattle.basics.specs.Tools.{each, part}
use Rattle.basics.proofs.Bools.{on, by_eq, clash}
use Rattle.basics.proofs.Tables.{take_same, is_each}
use Rattle.records.specs.declared.Circuit.{Circuit}
use Rattle.method.specs.Line.{circuit, uses, Distinct}
use Rattle.method.specs.Sheet.{load}
use Rattle.riders.specs.Index.{Riders, Index, start_of, cells_for, riders_at}
use Rattle.riders.specs.declared.Stretch.{Stretch}
use Rattle.riders.specs.Computed.{insert, numbers_to, stretches_to, index_of}
use Rattle.riders.proofs.StartLaws.{start_first, start_next, start_last, start_in, starts_in}
use Rattle.riders.proofs.StretchLaws.{from_to, part_between}

-- numbers that rise
abbrev pub Rises : List ℕ → Type 0
Rises xs = (p q : ℕ) → p < q → q < length xs → get_or xs p 0 < get_or xs q 0

-- each of xs is one of ys
abbrev pub Among : List ℕ → List ℕ → Type 0
Among xs ys = (p : ℕ) → p < length xs → (q : ℕ) × (q < length ys) × (get_or ys q 0 ≡ get_or xs p 0)

-- of rising numbers the first is the lowest
rises_head : (x : ℕ) (xs : List ℕ) → Rises (x ∷ xs) → (p : ℕ) → p < length xs → x < get_or xs p 0
rises_head x xs r p h = r 0 (suc p) (omega arith) (omega arith)

-- the others rise
rises_tail : (x : ℕ) (xs : List ℕ) → Rises (x ∷ xs) → Rises xs
rises_tail x xs r p q h l = r (suc p) (suc q) (omega arith) (omega arith)

-- a lower number before rising ones
rises_cons : (x : ℕ) (xs : List ℕ) → ((p : ℕ) → p < length xs → x < get_or xs p 0) → Rises xs → Rises (x ∷ xs)
rises_cons x xs h r p zero a b = absurd (omega arith)
rises_cons x xs h r zero (suc q) a b = h q (omega arith)
rises_cons x xs h r (suc p) (suc q) a b = r p q (omega arith) (omega arith)

-- none of rising numbers is below the first
at_least : (x : ℕ) (xs : List ℕ) → Rises (x ∷ xs) → (p : ℕ) → p < length (x ∷ xs) → x ≤ get_or (x ∷ xs) p 0
at_least x xs r zero h = omega arith
at_least x xs r (suc p) h = omega (arith, rises_head x xs r p (omega arith))

-- without the first, which both have, the others are among the others
among_tail : (x y : ℕ) (xs ys : List ℕ) → x ≡ y → Rises (x ∷ xs) → Among (x ∷ xs) (y ∷ ys) → Among xs ys
among_tail x y xs ys e r a p h = go (a (suc p) (omega arith)) (rises_head x xs r p h)
  where
    go : (q : ℕ) × (q < length (y ∷ ys)) × (get_or (y ∷ ys) q 0 ≡ get_or xs p 0) → x < get_or xs p 0 → (q : ℕ) × (q < length ys) × (get_or ys q 0 ≡ get_or xs p 0)
    go (zero, b, c) l = absurd (omega arith)
    go (suc q, b, c) l = (q, omega arith, c)

-- two lists of rising numbers that have the same are equal
pub rising_same : (xs ys : List ℕ) → Rises xs → Rises ys → Among xs ys → Among ys xs → xs ≡ ys
rising_same [] [] r s a b = refl
rising_same [] (y ∷ ys) r s a b = let w = b 0 (omega arith) in let v = w.1 in absurd (omega arith)
rising_same (x ∷ xs) [] r s a b = let w = a 0 (omega arith) in let v = w.1 in absurd (omega arith)
rising_same (x ∷ xs) (y ∷ ys) r s a b =
    let u = a 0 (omega arith) in
    let v = b 0 (omega arith) in
    let u' = at_least y ys s u.0 u.1 in
    let v' = at_least x xs r v.0 v.1 in
    let u₂ = u.2 in
    let v₂ = v.2 in
    let e : x ≡ y = omega arith in
    ap₂ ◌∷◌ e (rising_same xs ys (rises_tail x xs r) (rises_tail y ys s) (among_tail x y xs ys e r a) (among_tail y x ys xs (sym e) s b))

-- of two lists of the riders of a link, each has what the other has
riders_among : (cs : List Circuit) (i : ℕ) (xs ys : List ℕ) → Riders cs i xs → Riders cs i ys → Among xs ys
riders_among cs i xs ys a b p h =
    let r = a.only p h in
    let s = b.all r.0 r.1 r.2 in
    (s.0, s.1, s.2 ∙ sym r.3)

-- there is one list of the riders of a link
pub riders_pin : (cs : List Circuit) (i : ℕ) (xs ys : List ℕ) → Riders cs i xs → Riders cs i ys → xs ≡ ys
riders_pin cs i xs ys a b = rising_same xs ys a.rising b.rising (riders_among cs i xs ys a b) (riders_among cs i ys xs b a)

module _ (n : ℕ) (cs : List Circuit) (cells₀ cells₁ cells₂ : List ℕ) (a : Index n cs cells₀ cells₁) (b : Index n cs cells₀ cells₂) where
  -- two indexes are equal to the end of each stretch
  same_to : (i : ℕ) → i ≤ n → take (start_of n cs (i + 1)) cells₁ ≡ take (start_of n cs (i + 1)) cells₂
  same_to zero h =
      rw (start_first n cs)
      (take_same 0 (n + 1) cells₁ cells₂ (a.long ∙ sym b.long)
      (λ k l. let e : k + 1 - 1 ≡ k = omega arith in
      ap (λ (v : ℕ). get_or cells₁ v 0) (sym e) ∙ a.starts (k + 1) (omega arith) (omega arith) ∙ sym (b.starts (k + 1) (omega arith) (omega arith)) ∙ ap (λ (v : ℕ). get_or cells₂ v 0) e))
  same_to (suc i) h =
      let ih : take (start_of n cs (suc i)) cells₁ ≡ take (start_of n cs (suc i)) cells₂ = subst (λ (v : ℕ). take (start_of n cs v) cells₁ ≡ take (start_of n cs v) cells₂) (add-one i) (same_to i (omega arith)) in
      rw (start_next n cs (suc i) (omega arith), take-add (start_of n cs (suc i)) (load cs (suc i)) cells₁, take-add (start_of n cs (suc i)) (load cs (suc i)) cells₂)
      (ap₂ ◌++◌ ih (riders_pin cs (suc i) _ _ (a.stretches (suc i) (omega arith) h) (b.stretches (suc i) (omega arith) h)))

  -- there is one index
  pub index_pin : cells₁ ≡ cells₂
  index_pin =
      let e : take (cells_for n cs) cells₁ ≡ take (cells_for n cs) cells₂ = subst (λ (v : ℕ). take v cells₁ ≡ take v cells₂) (start_last n cs) (same_to n (omega arith)) in
      sym (take-append-drop (cells_for n cs) cells₁) ∙ ap₂ ◌++◌ e (a.rest ∙ sym b.rest) ∙ take-append-drop (cells_for n cs) cells₂

-- the question for a link of the line finds its stretch
stretch_is : (n : ℕ) (cs : List Circuit) (cells₀ cells₁ : List ℕ) → cells_for n cs ≤ length cells₀ → Index n cs cells₀ cells₁ → (i : ℕ) → 1 ≤ i → i ≤ n
    → riders_at n i cells₁ ≡ part (start_of n cs i) (load cs i) cells₁
stretch_is n cs cells₀ cells₁ room a i h l =
    let long = a.long in
    let s = start_next n cs i h in
    let e : i + 1 - 1 ≡ i = omega arith in
    let d : start_of n cs (i + 1) - start_of n cs i ≡ load cs i = omega arith in
    let w = part_between cells₁ (start_of n cs i) (start_of n cs (i + 1)) (omega arith) (omega (arith, start_in n cs i h l))
    ∙ from_to n i cells₁ (start_of n cs i) (start_of n cs (i + 1)) h l (omega (arith, starts_in n cs)) (sym (a.starts i h (omega arith)))
    (sym (ap (λ (v : ℕ). get_or cells₁ v 0) (sym e) ∙ a.starts (i + 1) (omega arith) (omega arith))) in
    ap (λ (z : Stretch). part z.start z.length cells₁) (sym w) ∙ ap (λ (v : ℕ). part (start_of n cs i) v cells₁) d

-- and so the numbers of the circuits that use it, each once, rising
pub stretch_rides : (n : ℕ) (cs : List Circuit) (cells₀ cells₁ : List ℕ) → cells_for n cs ≤ length cells₀ → Index n cs cells₀ cells₁ → (i : ℕ) → 1 ≤ i → i ≤ n → Riders cs i (riders_at n i cells₁)
stretch_rides n cs cells₀ cells₁ room a i h l = subst (Riders cs i) (sym (stretch_is n cs cells₀ cells₁ room a i h l)) (a.stretches i h l)

-- THE LIST THAT COMPUTES. A list with x in front
front : (x : ℕ) (l : List ℕ) (q : ℕ) → q < length (x ∷ l) → (get_or (x ∷ l) q 0 ≡ x) ⊎ ((p : ℕ) × (p < length l) × (get_or l p 0 ≡ get_or (x ∷ l) q 0))
front x l zero h = inl refl
front x l (suc q) h = inr (q, omega arith, refl)

-- what is inserted, or was there
insert_only : (x : ℕ) (xs : List ℕ) (q : ℕ) → q < length (insert x xs) → (get_or (insert x xs) q 0 ≡ x) ⊎ ((p : ℕ) × (p < length xs) × (get_or xs p 0 ≡ get_or (insert x xs) q 0))
unfolding insert
insert_only x [] q h = front x [] q h
insert_only x (y ∷ ys) q h =
    on (ltb x y)
    (λ e. let h' : q < length (x ∷ y ∷ ys) = rw e at h in rw e (front x (y ∷ ys) q h'))
    (λ e. let h' : q < length (y ∷ insert x ys) = rw e at h in rw e (go q h' (insert_only x ys)))
  where
    go : (q : ℕ) → q < length (y ∷ insert x ys) → ((q : ℕ) → q < length (insert x ys) → (get_or (insert x ys) q 0 ≡ x) ⊎ ((p : ℕ) × (p < length ys) × (get_or ys p 0 ≡ get_or (insert x ys) q 0)))
        → (get_or (y ∷ insert x ys) q 0 ≡ x) ⊎ ((p : ℕ) × (p < length (y ∷ ys)) × (get_or (y ∷ ys) p 0 ≡ get_or (y ∷ insert x ys) q 0))
    go zero l ih = inr (0, omega arith, refl)
    go (suc q) l ih = ⊎_elim (λ w. inl w) (λ w. let w₁ = w.1 in inr (suc w.0, omega arith, w.2)) (ih q (omega arith))

-- x is there
insert_has : (x : ℕ) (xs : List ℕ) → (q : ℕ) × (q < length (insert x xs)) × (get_or (insert x xs) q 0 ≡ x)
unfolding insert
insert_has x [] = (0, omega arith, refl)
insert_has x (y ∷ ys) =
    let ih = insert_has x ys in
    let b = ih.1 in
    on (ltb x y) (λ e. rw e (0, omega arith, refl)) (λ e. rw e (suc ih.0, omega arith, ih.2))

-- and what was there
insert_keeps : (x : ℕ) (xs : List ℕ) (p : ℕ) → p < length xs → (q : ℕ) × (q < length (insert x xs)) × (get_or (insert x xs) q 0 ≡ get_or xs p 0)
unfolding insert
insert_keeps x [] p h = absurd (omega arith)
insert_keeps x (y ∷ ys) p h = on (ltb x y) (λ e. rw e (suc p, omega arith, refl)) (λ e. rw e (go p h (insert_keeps x ys)))
  where
    go : (p : ℕ) → p < length (y ∷ ys) → ((p : ℕ) → p < length ys → (q : ℕ) × (q < length (insert x ys)) × (get_or (insert x ys) q 0 ≡ get_or ys p 0))
        → (q : ℕ) × (q < length (y ∷ insert x ys)) × (get_or (y ∷ insert x ys) q 0 ≡ get_or (y ∷ ys) p 0)
    go zero l ih = (0, omega arith, refl)
    go (suc p) l ih = let r = ih p (omega arith) in let b = r.1 in (suc r.0, omega arith, r.2)

-- rising numbers stay so
insert_rises : (x : ℕ) (xs : List ℕ) → ((p : ℕ) → p < length xs → get_or xs p 0 ≢ x) → Rises xs → Rises (insert x xs)
unfolding insert
insert_rises x [] n r = λ p q h l. absurd (omega arith)
insert_rises x (y ∷ ys) n r =
    on (ltb x y)
    (λ e.
    let b : x < y = ltb-true x y e in
    rw e (rises_cons x (y ∷ ys) (λ p h. omega (arith, at_least y ys r p h)) r))
    (λ e.
    let b : y ≤ x = ltb-false x y e in
    let d = n 0 (omega arith) in
    rw e (rises_cons y (insert x ys)
    (λ p h. ⊎_elim (λ w. omega arith) (λ w. omega (arith, rises_head y ys r w.0 w.1, w.2)) (insert_only x ys p h))
    (insert_rises x ys (λ p h. n (suc p) (omega arith)) (rises_tail y ys r))))

-- the numbers of the first j circuits that use link i, each once, rising
record NumbersTo (cs : List Circuit) (i j : ℕ) (xs : List ℕ) : Type 0 where
  rising : Rises xs
  all : (d : ℕ) → d < j → uses (circuit cs d) i ≡ true → (p : ℕ) × (p < length xs) × (get_or xs p 0 ≡ (circuit cs d).number)
  only : (p : ℕ) → p < length xs → (d : ℕ) × (d < j) × (uses (circuit cs d) i ≡ true) × (get_or xs p 0 ≡ (circuit cs d).number)

numbers_to_lem : (cs : List Circuit) (i : ℕ) → Distinct cs → (j : ℕ) → j ≤ length cs → NumbersTo cs i j (numbers_to cs i j)
unfolding numbers_to
numbers_to_lem cs i u zero h = record { rising = λ p q a b. absurd (omega arith); all = λ d l e. absurd (omega arith); only = λ p l. absurd (omega arith) }
numbers_to_lem cs i u (suc j) h =
    let ih = numbers_to_lem cs i u j (omega arith) in
    on (uses (circuit cs j) i)
    (λ e. rw e (record {
      rising = insert_rises (circuit cs j).number (numbers_to cs i j)
          (λ p l z. let r = ih.only p l in let r₁ = r.1 in let q = u r.0 j (omega arith) (omega arith) (sym r.3 ∙ z) in omega arith) ih.rising;
      all = λ d l f. by_eq d j
          (λ z. let r = insert_has (circuit cs j).number (numbers_to cs i j) in (r.0, r.1, r.2 ∙ ap (λ (v : ℕ). (circuit cs v).number) (sym z)))
          (λ z. let r = ih.all d (omega arith) f in let s = insert_keeps (circuit cs j).number (numbers_to cs i j) r.0 r.1 in (s.0, s.1, s.2 ∙ r.2));
      only = λ p l. ⊎_elim
          (λ w. (j, omega arith, e, w))
          (λ w. let r = ih.only w.0 w.1 in let r₁ = r.1 in (r.0, omega arith, r.2, sym w.2 ∙ r.3))
          (insert_only (circuit cs j).number (numbers_to cs i j) p l);
    }))
    (λ e. rw e (record {
      rising = ih.rising;
      all = λ d l f. by_eq d j (λ z. clash (uses (circuit cs j) i) (subst (λ (v : ℕ). uses (circuit cs v) i ≡ true) z f) e) (λ z. ih.all d (omega arith) f);
      only = λ p l. let r = ih.only p l in let r₁ = r.1 in (r.0, omega arith, r.2, r.3);
    }))

-- the numbers that are computed are the riders
pub numbers_ride : (cs : List Circuit) (i : ℕ) → Distinct cs → Riders cs i (numbers_to cs i (length cs))
numbers_ride cs i u = let r = numbers_to_lem cs i u (length cs) (omega arith) in record { rising = r.rising; all = r.all; only = r.only }

module _ (n : ℕ) (cs : List Circuit) (cells₀ cells₁ : List ℕ) (u : Distinct cs) (room : cells_for n cs ≤ length cells₀) (a : Index n cs cells₀ cells₁) where
  -- the starts and the stretches of links 1 to i
  list_to : (i : ℕ) → i ≤ n → take (start_of n cs (i + 1)) cells₁ ≡ each (start_of n cs) 1 (n + 1) ++ stretches_to cs i
  unfolding stretches_to
  list_to zero h =
      let long = a.long in
      rw (start_first n cs, append-nil (each (start_of n cs) 1 (n + 1)))
      (is_each (start_of n cs) 1 (n + 1) 0 (take (n + 1) cells₁) (length-take-le (n + 1) cells₁ (omega (arith, starts_in n cs)))
      (λ k l. let e : k + 1 - 1 ≡ k = omega arith in let f : k + 1 ≡ 1 + k = omega arith in
      get_or-take (n + 1) cells₁ k 0 l ∙ ap (λ (v : ℕ). get_or cells₁ v 0) (sym e) ∙ a.starts (k + 1) (omega arith) (omega arith) ∙ ap (start_of n cs) f))
  list_to (suc i) h =
      let ih : take (start_of n cs (suc i)) cells₁ ≡ each (start_of n cs) 1 (n + 1) ++ stretches_to cs i =
      subst (λ (v : ℕ). take (start_of n cs v) cells₁ ≡ each (start_of n cs) 1 (n + 1) ++ stretches_to cs i) (add-one i) (list_to i (omega arith)) in
      rw (start_next n cs (suc i) (omega arith), take-add (start_of n cs (suc i)) (load cs (suc i)) cells₁)
      (ap₂ ◌++◌ ih (riders_pin cs (suc i) _ _ (a.stretches (suc i) (omega arith) h) (numbers_ride cs (suc i) u))
      ∙ append_assoc (each (start_of n cs) 1 (n + 1)) (stretches_to cs i) (numbers_to cs (suc i) (length cs)))

  -- an index that was built is the list that computes
  pub index_is : take (cells_for n cs) cells₁ ≡ index_of n cs
  unfolding index_of
  index_is = subst (λ (v : ℕ). take v cells₁ ≡ each (start_of n cs) 1 (n + 1) ++ stretches_to cs n) (start_last n cs) (list_to n (omega arith))
