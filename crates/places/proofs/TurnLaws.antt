-- What each circuit is given in its turn, and what stays. Assumes nothing.
use Prim.Native.Nat.{◌+◌, ◌-◌, ◌<◌, ◌≤◌, suc, zero, ℕ}
use lib.ListN.{drop, get_or, length, length-append, length-set, set, take}
use mathlib.Core.Bool.{Bool, true}
use mathlib.Core.List.{List, [], ◌++◌, ◌∷◌}
use mathlib.Core.Logic.{◌≢◌, ◌⊎◌, inl, inr, ⊎_elim}
use mathlib.Core.Path.{◌∙◌, ◌≡◌, ap, refl, subst, sym}
use native.Mathlib.Omega.{arith}
use Rattle.basics.proofs.Bools.{by_eq, by_le}
use Rattle.records.specs.declared.Circuit.{Circuit}
use Rattle.method.specs.Demands.{Rearranged}
use Rattle.method.specs.Line.{Assignment, Distinct, circuit}
use Rattle.places.specs.Places.{Rider, clashes, free, given_to, rider, riders, riding}
use Rattle.places.specs.Turns.{by_number, in_turn, number, rising}
use Rattle.places.proofs.PlaceLaws.{clashes_fibre, free_apart, free_eq, free_of}
use Rattle.places.proofs.TwoFiles.{length_rearranged}
use Rattle.places.proofs.RiderLaws.{given_other, given_same, length_riders, rider_is, rider_new, rider_old}
use Rattle.places.proofs.RisingLaws.{Each, Rise, Twin, Twins, before_turn, each_imp, from_turn, rise_above, rising_same}

module _ (f : List Assignment → ℕ → Assignment) where
  -- one for each circuit
  pub turn_length : (js : List ℕ) (gs : List Assignment) → length (in_turn f js gs) ≡ length gs
  unfolding in_turn
  turn_length [] gs = refl
  turn_length (j ∷ js) gs = turn_length js (set gs j (f gs j)) ∙ length-set gs j (f gs j)

  -- who has no turn keeps what it has
  pub turn_other : (js : List ℕ) (gs : List Assignment) (i : ℕ) → Each (λ j. j ≢ i) js → given_to (in_turn f js gs) i ≡ given_to gs i
  unfolding in_turn
  turn_other [] gs i a = refl
  turn_other (j ∷ js) gs i a = turn_other js (set gs j (f gs j)) i a.1 ∙ given_other gs j i (f gs j) (λ e. a.0 (sym e))

  -- the first t turns, and then the others
  turn_split : (t : ℕ) (js : List ℕ) (gs : List Assignment) → in_turn f js gs ≡ in_turn f (drop t js) (in_turn f (take t js) gs)
  unfolding in_turn
  turn_split zero js gs = refl
  turn_split (suc t) [] gs = refl
  turn_split (suc t) (j ∷ js) gs = turn_split t js (set gs j (f gs j))

  -- what each turn keeps, all keep
  pub turn_keeps : (I : List Assignment → Type 0) → ((gs : List Assignment) (j : ℕ) → I gs → I (set gs j (f gs j))) → (js : List ℕ) (gs : List Assignment) → I gs → I (in_turn f js gs)
  unfolding in_turn
  turn_keeps I k [] gs y = y
  turn_keeps I k (j ∷ js) gs y = turn_keeps I k js (set gs j (f gs j)) (k gs j y)

  module _ (ds : List Circuit) where
    -- each is given what is found at its turn
    pub turn_at : (z : ℕ) (js : List ℕ) (gs : List Assignment) → Rise ds z js → Each (λ j. j < length gs) js → (t : ℕ) → t < length js
        → given_to (in_turn f js gs) (get_or js t 0) ≡ f (in_turn f (take t js) gs) (get_or js t 0)
    unfolding in_turn
    turn_at z [] gs r a t l = absurd (omega arith)
    turn_at z (j ∷ js) gs r a zero l =
        turn_other js (set gs j (f gs j)) j
        (each_imp {P = λ d. number ds j < number ds d} (λ d h e. let q : number ds d ≡ number ds j = ap (number ds) e in omega arith) js (rise_above ds (number ds j) (number ds j) js (omega arith) r.1))
        ∙ given_same gs j (f gs j) a.0
    turn_at z (j ∷ js) gs r a (suc t) l =
        turn_at (number ds j) js (set gs j (f gs j)) r.1 (each_imp {P = λ d. d < length gs} (λ d h. omega (arith, length-set gs j (f gs j))) js a.1) t (omega arith)

    -- at turn t who has a lower number has what it will keep
    pub turn_earlier : (z : ℕ) (js : List ℕ) (gs : List Assignment) → Rise ds z js → (t : ℕ) → t < length js → (d : ℕ) → number ds d < number ds (get_or js t 0)
        → given_to (in_turn f (take t js) gs) d ≡ given_to (in_turn f js gs) d
    turn_earlier z js gs r t l d h =
        sym (ap (λ x. given_to x d) (turn_split t js gs)
        ∙ turn_other (drop t js) (in_turn f (take t js) gs) d
        (each_imp {P = λ e. number ds (get_or js t 0) ≤ number ds e} (λ e b q. let u : number ds e ≡ number ds d = ap (number ds) q in omega arith) (drop t js) (from_turn ds z js r t l)))

    -- and who has no lower number has what it had at first
    pub turn_later : (z : ℕ) (js : List ℕ) (gs : List Assignment) → Rise ds z js → (t : ℕ) → t < length js → (d : ℕ) → number ds (get_or js t 0) ≤ number ds d
        → given_to (in_turn f (take t js) gs) d ≡ given_to gs d
    turn_later z js gs r t l d h =
        turn_other (take t js) gs d
        (each_imp {P = λ e. number ds e < number ds (get_or js t 0)} (λ e b q. let u : number ds e ≡ number ds d = ap (number ds) q in omega arith) (take t js) (before_turn ds z js r t l))

-- A PLACE THAT IS ON NONE OF THE FIBRES 1 to m
abbrev pub Off : ℕ → Assignment → Type 0
Off m g = (q : ℕ) → 1 ≤ q → q ≤ m → g.fibre ≢ q

-- places that are equal, or on none of the fibres, leave the same free there
module _ (m : ℕ) (old : List Rider) (ds : List Circuit) where
  -- one way
  one_way : (gs hs : List Assignment) → ((d : ℕ) → d < length ds → (given_to gs d ≡ given_to hs d) ⊎ (Off m (given_to hs d))) → (c : Circuit) (q v : ℕ) → 1 ≤ q → q ≤ m
      → free (old ++ riders ds gs) c q v ≡ true → free (old ++ riders ds hs) c q v ≡ true
  one_way gs hs alike c q v a b e =
      free_of (old ++ riders ds hs) c q v
      (λ d l o.
      by_le (suc d) (length old)
      (λ h. free_apart (old ++ riders ds gs) c q v e d (omega (arith, length-append old (riders ds gs))) (ap (λ r. clashes r c q v) (rider_old old (riders ds gs) d h ∙ sym (rider_old old (riders ds hs) d h)) ∙ o))
      (λ h.
      let k = d - length old in
      let z : d ≡ length old + k = omega arith in
      let lk : k < length ds = omega (arith, length-append old (riders ds hs), length_riders ds hs) in
      let is : rider (old ++ riders ds hs) d ≡ riding (circuit ds k) (given_to hs k) = ap (rider (old ++ riders ds hs)) z ∙ rider_new old (riders ds hs) k ∙ rider_is ds hs k lk in
      let o' : clashes (riding (circuit ds k) (given_to hs k)) c q v ≡ true = ap (λ r. clashes r c q v) (sym is) ∙ o in
      ⊎_elim
      (λ same.
      free_apart (old ++ riders ds gs) c q v e (length old + k) (omega (arith, length-append old (riders ds gs), length_riders ds gs))
      (ap (λ r. clashes r c q v) (rider_new old (riders ds gs) k ∙ rider_is ds gs k lk ∙ ap (riding (circuit ds k)) same) ∙ o'))
      (λ off. off q a b (clashes_fibre (riding (circuit ds k) (given_to hs k)) c q v o'))
      (alike k lk)))

  -- both ways
  pub same_free : (gs hs : List Assignment) → ((d : ℕ) → d < length ds → (given_to gs d ≡ given_to hs d) ⊎ (Off m (given_to gs d) × Off m (given_to hs d))) → (c : Circuit) (q v : ℕ) → 1 ≤ q → q ≤ m
      → free (old ++ riders ds gs) c q v ≡ free (old ++ riders ds hs) c q v
  same_free gs hs alike c q v a b =
      free_eq (old ++ riders ds gs) (old ++ riders ds hs) c q v
      (one_way gs hs (λ d l. ⊎_elim (λ e. inl e) (λ o. inr o.1) (alike d l)) c q v a b)
      (one_way hs gs (λ d l. ⊎_elim (λ e. inl (sym e)) (λ o. inr o.0) (alike d l)) c q v a b)

-- TWO FILES with the same records: the same place for the same circuit
pub record SamePlaces (ds es : List Circuit) (h : Rearranged ds es) (gs hs : List Assignment) : Type 0 where
  pub sized : length gs ≡ length ds
  pub sized' : length hs ≡ length es
  pub same : (i : ℕ) → i < length ds → given_to gs i ≡ given_to hs (h.there i)

module _ (ds es : List Circuit) (once : Distinct ds) (h : Rearranged ds es) where
  -- the same circuit is given the same: so it stays
  set_same : (gs hs : List Assignment) → SamePlaces ds es h gs hs → (i j : ℕ) → Twin ds es once h i j → (g k : Assignment) → g ≡ k → SamePlaces ds es h (set gs i g) (set hs j k)
  set_same gs hs a i j t g k e =
      record {
        sized = length-set gs i g ∙ a.sized;
        sized' = length-set hs j k ∙ a.sized';
        same = λ x l.
            by_eq x i
            (λ q.
            let r : h.there x ≡ j = ap h.there q ∙ sym t.is in
            ap (given_to (set gs i g)) q ∙ given_same gs i g (omega (arith, a.sized, t.in_cs)) ∙ e
            ∙ sym (ap (given_to (set hs j k)) r ∙ given_same hs j k (omega (arith, a.sized', t.in_ds))))
            (λ q.
            given_other gs i x g q ∙ a.same x l
            ∙ sym (given_other hs j (h.there x) k (λ r. q (sym (h.to x l).1 ∙ ap h.back (r ∙ t.is) ∙ (h.to i t.in_cs).1))));
      }

  -- where the same circuit finds the same, turn by turn it stays so
  pub turns_alike : (f f' : List Assignment → ℕ → Assignment)
      → ((gs hs : List Assignment) → SamePlaces ds es h gs hs → (i j : ℕ) → Twin ds es once h i j → f gs i ≡ f' hs j)
      → (is js : List ℕ) → Twins ds es once h is js → (gs hs : List Assignment) → SamePlaces ds es h gs hs → SamePlaces ds es h (in_turn f is gs) (in_turn f' js hs)
  unfolding in_turn
  turns_alike f f' s [] [] t gs hs a = a
  turns_alike f f' s [] (j ∷ js) t gs hs a = absurd t
  turns_alike f f' s (i ∷ is) [] t gs hs a = absurd t
  turns_alike f f' s (i ∷ is) (j ∷ js) t gs hs a =
      turns_alike f f' s is js t.1 (set gs i (f gs i)) (set hs j (f' hs j)) (set_same gs hs a i j t.0 (f gs i) (f' hs j) (s gs hs a i j t.0))

  -- those that pass, by rising number, are the same circuits
  pub same_turns : (who who' : ℕ → Bool) → ((i : ℕ) → i < length ds → who i ≡ who' (h.there i)) → Twins ds es once h (by_number who ds) (by_number who' es)
  same_turns who who' alike =
      subst (λ m. Twins ds es once h (by_number who ds) (rising who' es m 0)) (length_rearranged ds es h)
      (rising_same ds es once h who who' (λ i j t. alike i t.in_cs ∙ ap who' (sym t.is)) (length ds) 0)
