-- A rider more: what stays, and what the chain of its fibre becomes. Assumes nothing.
use Prim.Native.Nat.{◌+◌, ◌*◌, ◌-◌, ◌<◌, ◌≤◌, suc, zero, ℕ}
use borrow.Author.Tests.{eq-eqb, ne_eqb}
use lib.Dec.{eqb}
use lib.ListN.{get_or, length, length-set, set}
use lib.Seq.{get_or-set_other, get_or-set_same}
use mathlib.Core.Bool.{Bool, false, true}
use mathlib.Core.List.{List, [], ◌∷◌}
use mathlib.Core.Logic.{◌≢◌, inl, inr, ⊎_elim}
use mathlib.Core.Path.{◌∙◌, ◌≡◌, ap, refl, subst, sym}
use native.Mathlib.Omega.{arith}
use Rattle.basics.specs.Tools.{count}
use Rattle.basics.proofs.Bools.{by_eq}
use Rattle.records.specs.Bytes.{cell, set_cell}
use Rattle.records.specs.Records.{assignment_of, record_at}
use Rattle.records.specs.declared.Circuit.{Circuit}
use Rattle.places.specs.Places.{Rider, rider}
use Rattle.places.proofs.TwoFiles.{count_same}
use Rattle.places.proofs.RiderLaws.{rider_other, rider_same}
use Rattle.placing.specs.Riding.{Among, Chain, Chained, Riding}
use Rattle.placing.specs.inner.Rides.{noted}
use Rattle.records.proofs.RecordLaws.{cell_other, cell_same, length_put}

-- a chain stays if the cells of its places do
pub chain_same : (next next' l : List ℕ) (z : ℕ) → ((d : ℕ) → Among d l → get_or next' d 0 ≡ get_or next d 0) → Chain next z l → Chain next' z l
chain_same next next' [] z same c = c
chain_same next next' (j ∷ l) z same c = (c.0, subst (λ y. Chain next' y l) (sym (same j (inl refl))) (chain_same next next' l (get_or next j 0) (λ d a. same d (inr a)) c.1))

-- one more passes
pub count_up : (p p' : ℕ → Bool) (m j : ℕ) → j < m → p j ≡ false → p' j ≡ true → ((d : ℕ) → d < m → d ≢ j → p d ≡ p' d) → count p' m ≡ suc (count p m)
unfolding count
count_up p p' zero j l a b same = absurd (omega arith)
count_up p p' (suc m) j l a b same =
    by_eq j m
    (λ e.
    let x : count p m ≡ count p' m = count_same p p' m (λ d h. same d (omega arith) (omega arith)) in
    let u : p m ≡ false = ap p (sym e) ∙ a in
    let w : p' m ≡ true = ap p' (sym e) ∙ b in
    rw (u, w) (omega arith))
    (λ e.
    let x = count_up p p' m j (omega arith) a b (λ d h n. same d (omega arith) n) in
    rw (same m (omega arith) (λ z. e (sym z))) (omega arith))

-- RIDER j CHANGES. rs' has r at place j; the bytes of the others stay
module _ (rs : List Rider) (j : ℕ) (r : Rider) (ends assigns next ends' assigns' next' : List ℕ)
    (long-ends : length ends' ≡ length ends) (long-assigns : length assigns' ≡ length assigns)
    (same_first : (d : ℕ) → d < length rs → d ≢ j → cell ends' (2 * d) ≡ cell ends (2 * d))
    (same-last : (d : ℕ) → d < length rs → d ≢ j → cell ends' (2 * d + 1) ≡ cell ends (2 * d + 1))
    (same_record : (d : ℕ) → d < length rs → d ≢ j → record_at assigns' d ≡ record_at assigns d)
    (same_next : (d : ℕ) → d ≢ j → get_or next' d 0 ≡ get_or next d 0)
  where
    -- a fibre that rider j has neither before nor after: its chain stays
    pub chained_other : (z q : ℕ) → (rider rs j).fibre ≢ q → r.fibre ≢ q → j < length rs → Chained rs ends assigns next z q → Chained (set rs j r) ends' assigns' next' z q
    chained_other z q n m l h =
        let k = length-set rs j r in
        let not-j : (d : ℕ) → d < length rs → (rider (set rs j r) d).fibre ≡ q → d ≢ j =
        λ d b e i. m (sym (ap (λ (x : Rider). x.fibre) (ap (rider (set rs j r)) i ∙ rider_same rs j r l)) ∙ e) in
        let old : (d : ℕ) → d ≢ j → rider (set rs j r) d ≡ rider rs d = λ d i. rider_other rs j d r i in
        record {
          few = omega (arith, h.few);
          room_ends = omega (arith, h.room_ends);
          room_assigns = omega (arith, h.room_assigns);
          places = h.places;
          linked = chain_same next next' h.places z (λ d a. same_next d (λ i. n (ap (λ x. (rider rs x).fibre) (sym i) ∙ (h.mine d a).1))) h.linked;
          mine = λ d a.
              let y = h.mine d a in
              let y₀ = y.0 in
              (omega arith, ap (λ (x : Rider). x.fibre) (old d (λ i. n (ap (λ x. (rider rs x).fibre) (sym i) ∙ y.1))) ∙ y.1);
          all = λ d b e. h.all d (omega arith) (sym (ap (λ (x : Rider). x.fibre) (old d (not-j d (omega arith) e))) ∙ e);
          once = h.once ∙ count_same (λ d. eqb (rider rs d).fibre q) (λ d. eqb (rider (set rs j r) d).fibre q) (length rs)
              (λ d b.
              by_eq d j
              (λ i.
              ne_eqb (rider rs d).fibre q (λ e. n (ap (λ x. (rider rs x).fibre) (sym i) ∙ e))
              ∙ sym (ne_eqb (rider (set rs j r) d).fibre q (λ e. not-j d b e i)))
              (λ i. ap (λ (x : Rider). eqb x.fibre q) (sym (old d i))))
              ∙ ap (count (λ d. eqb (rider (set rs j r) d).fibre q)) (sym k);
          first_is = λ d b e. let i = not-j d (omega arith) e in let o = old d i in same_first d (omega arith) i ∙ h.first_is d (omega arith) (sym (ap (λ (x : Rider). x.fibre) o) ∙ e) ∙ sym (ap (λ (x : Rider). x.who.first) o);
          last_is = λ d b e. let i = not-j d (omega arith) e in let o = old d i in same-last d (omega arith) i ∙ h.last_is d (omega arith) (sym (ap (λ (x : Rider). x.fibre) o) ∙ e) ∙ sym (ap (λ (x : Rider). x.who.last) o);
          wave_is = λ d b e.
              let i = not-j d (omega arith) e in
              let o = old d i in
              ap (λ s. (assignment_of s).wavelength) (same_record d (omega arith) i) ∙ h.wave_is d (omega arith) (sym (ap (λ (x : Rider). x.fibre) o) ∙ e) ∙ sym (ap (λ (x : Rider). x.wavelength) o);
          wave_fits = λ d b e. let i = not-j d (omega arith) e in let o = old d i in let o' = ap (λ (x : Rider). x.wavelength) o in omega (arith, h.wave_fits d (omega arith) (sym (ap (λ (x : Rider). x.fibre) o) ∙ e));
        }

    -- the fibre that rider j has now: it heads the chain
    pub chained_new : (z q : ℕ) → (rider rs j).fibre ≢ q → r.fibre ≡ q → j < length rs → cell ends' (2 * j) ≡ r.who.first → cell ends' (2 * j + 1) ≡ r.who.last
        → (assignment_of (record_at assigns' j)).wavelength ≡ r.wavelength → r.wavelength < 96 → get_or next' j 0 ≡ z → Chained rs ends assigns next z q → Chained (set rs j r) ends' assigns' next' (j + 1) q
    chained_new z q n m l first last wave fits to h =
        let k = length-set rs j r in
        let new : (d : ℕ) → d ≡ j → rider (set rs j r) d ≡ r = λ d i. ap (rider (set rs j r)) i ∙ rider_same rs j r l in
        let old : (d : ℕ) → d ≢ j → rider (set rs j r) d ≡ rider rs d = λ d i. rider_other rs j d r i in
        let rode : (d : ℕ) → d ≢ j → (rider (set rs j r) d).fibre ≡ q → (rider rs d).fibre ≡ q = λ d i e. sym (ap (λ (x : Rider). x.fibre) (old d i)) ∙ e in
        record {
          few = omega (arith, h.few);
          room_ends = omega (arith, h.room_ends);
          room_assigns = omega (arith, h.room_assigns);
          places = j ∷ h.places;
          linked = (refl, subst (λ y. Chain next' y h.places) (sym to) (chain_same next next' h.places z (λ d a. same_next d (λ i. n (ap (λ x. (rider rs x).fibre) (sym i) ∙ (h.mine d a).1))) h.linked));
          mine = λ d a.
              ⊎_elim {C = (d < length (set rs j r)) × ((rider (set rs j r) d).fibre ≡ q)}
              (λ i. (omega arith, ap (λ (x : Rider). x.fibre) (new d i) ∙ m))
              (λ b.
              let y = h.mine d b in
              let y₀ = y.0 in
              (omega arith, ap (λ (x : Rider). x.fibre) (old d (λ i. n (ap (λ x. (rider rs x).fibre) (sym i) ∙ y.1))) ∙ y.1))
              a;
          all = λ d b e. by_eq d j (λ i. inl i) (λ i. inr (h.all d (omega arith) (rode d i e)));
          once = ap suc h.once
              ∙ sym (count_up (λ d. eqb (rider rs d).fibre q) (λ d. eqb (rider (set rs j r) d).fibre q) (length rs) j l (ne_eqb (rider rs j).fibre q n)
              (eq-eqb (rider (set rs j r) j).fibre q (ap (λ (x : Rider). x.fibre) (new j refl) ∙ m)) (λ d b i. ap (λ (x : Rider). eqb x.fibre q) (sym (old d i))))
              ∙ ap (count (λ d. eqb (rider (set rs j r) d).fibre q)) (sym k);
          first_is = λ d b e.
              by_eq d j (λ i. ap (λ x. cell ends' (2 * x)) i ∙ first ∙ sym (ap (λ (x : Rider). x.who.first) (new d i)))
              (λ i. same_first d (omega arith) i ∙ h.first_is d (omega arith) (rode d i e) ∙ sym (ap (λ (x : Rider). x.who.first) (old d i)));
          last_is = λ d b e.
              by_eq d j (λ i. ap (λ x. cell ends' (2 * x + 1)) i ∙ last ∙ sym (ap (λ (x : Rider). x.who.last) (new d i)))
              (λ i. same-last d (omega arith) i ∙ h.last_is d (omega arith) (rode d i e) ∙ sym (ap (λ (x : Rider). x.who.last) (old d i)));
          wave_is = λ d b e.
              by_eq d j (λ i. ap (λ x. (assignment_of (record_at assigns' x)).wavelength) i ∙ wave ∙ sym (ap (λ (x : Rider). x.wavelength) (new d i)))
              (λ i. ap (λ s. (assignment_of s).wavelength) (same_record d (omega arith) i) ∙ h.wave_is d (omega arith) (rode d i e) ∙ sym (ap (λ (x : Rider). x.wavelength) (old d i)));
          wave_fits = λ d b e.
              by_eq d j (λ i. let o = ap (λ (x : Rider). x.wavelength) (new d i) in omega arith)
              (λ i. let o = ap (λ (x : Rider). x.wavelength) (old d i) in omega (arith, h.wave_fits d (omega arith) (rode d i e)));
        }

-- WHO GETS NO PLACE. The record of a rider that has none may change
pub none_rides : (many : ℕ) (rs : List Rider) (j : ℕ) (r : Rider) (ends assigns assigns' heads next : List ℕ) → j < length rs → (rider rs j).fibre ≡ 0 → r.fibre ≡ 0 → length assigns' ≡ length assigns
    → ((d : ℕ) → d < length rs → d ≢ j → record_at assigns' d ≡ record_at assigns d) → Riding many rs ends assigns heads next → Riding many (set rs j r) ends assigns' heads next
none_rides many rs j r ends assigns assigns' heads next l z e long same h =
    let k = length-set rs j r in
    record {
      numbered = λ d b.
          by_eq d j (λ i. let o = ap (λ (x : Rider). x.fibre) (ap (rider (set rs j r)) i ∙ rider_same rs j r l) in omega arith)
          (λ i. let o = ap (λ (x : Rider). x.fibre) (rider_other rs j d r i) in omega (arith, h.numbered d (omega arith)));
      chained = λ q a b.
          chained_other rs j r ends assigns next ends assigns' next refl long (λ d x i. refl) (λ d x i. refl) same (λ d i. refl) (get_or heads (q - 1) 0) q (λ x. absurd (omega arith)) (λ x. absurd (omega arith)) l
          (h.chained q a b);
    }

-- WHO RIDES. The bytes that `ride` leaves, with the record of the new rider
pub rides : (many : ℕ) (rs : List Rider) (j : ℕ) (c : Circuit) (q v : ℕ) (ends assigns ends' assigns' heads heads' next next' : List ℕ) → j < length rs → (rider rs j).fibre ≡ 0 → 1 ≤ q → q ≤ many
    → many ≤ length heads → length rs ≤ length next → v < 96 → length assigns' ≡ length assigns
    → ((d : ℕ) → d < length rs → d ≢ j → record_at assigns' d ≡ record_at assigns d) → (assignment_of (record_at assigns' j)).wavelength ≡ v
    → ends' ≡ noted c j ends → heads' ≡ set heads (q - 1) (j + 1) → next' ≡ set next j (get_or heads (q - 1) 0)
    → Riding many rs ends assigns heads next → Riding many (set rs j (record { who = c; fibre = q; wavelength = v })) ends' assigns' heads' next'
unfolding noted
rides many rs j c q v ends assigns ends' assigns' heads heads' next next' l z one top wide room fits long same wave e₁ e₂ e₃ h =
    let r : Rider = record { who = c; fibre = q; wavelength = v } in
    let k = length-set rs j r in
    let roomy = (h.chained q one top).room_ends in
    let ends₁ = set_cell ends (2 * j) c.first in
    let n₁ = length_put ends (2 * j) c.first in
    let n₂ : length ends' ≡ length ends = ap length e₁ ∙ length_put ends₁ (2 * j + 1) c.last ∙ n₁ in
    let first : (d : ℕ) → d < length rs → d ≢ j → cell ends' (2 * d) ≡ cell ends (2 * d) =
    λ d b i. ap (λ s. cell s (2 * d)) e₁ ∙ cell_other ends₁ (2 * j + 1) c.last (2 * d) (omega arith) (omega arith) ∙ cell_other ends (2 * j) c.first (2 * d) (omega arith) (omega arith) in
    let last : (d : ℕ) → d < length rs → d ≢ j → cell ends' (2 * d + 1) ≡ cell ends (2 * d + 1) =
    λ d b i. ap (λ s. cell s (2 * d + 1)) e₁ ∙ cell_other ends₁ (2 * j + 1) c.last (2 * d + 1) (omega arith) (omega arith) ∙ cell_other ends (2 * j) c.first (2 * d + 1) (omega arith) (omega arith) in
    let first-j : cell ends' (2 * j) ≡ c.first = ap (λ s. cell s (2 * j)) e₁ ∙ cell_other ends₁ (2 * j + 1) c.last (2 * j) (omega arith) (omega arith) ∙ cell_same ends (2 * j) c.first (omega arith) in
    let last-j : cell ends' (2 * j + 1) ≡ c.last = ap (λ s. cell s (2 * j + 1)) e₁ ∙ cell_same ends₁ (2 * j + 1) c.last (omega arith) in
    let along : (d : ℕ) → d ≢ j → get_or next' d 0 ≡ get_or next d 0 = λ d i. ap (λ s. get_or s d 0) e₃ ∙ get_or-set_other next j d (get_or heads (q - 1) 0) 0 i in
    let along-j : get_or next' j 0 ≡ get_or heads (q - 1) 0 = ap (λ s. get_or s j 0) e₃ ∙ get_or-set_same next j (get_or heads (q - 1) 0) 0 (omega arith) in
    record {
      numbered = λ d b.
          by_eq d j (λ i. let o = ap (λ (x : Rider). x.fibre) (ap (rider (set rs j r)) i ∙ rider_same rs j r l) in omega arith)
          (λ i. let o = ap (λ (x : Rider). x.fibre) (rider_other rs j d r i) in omega (arith, h.numbered d (omega arith)));
      chained = λ y a b.
          by_eq y q
          (λ i.
          let head : get_or heads' (y - 1) 0 ≡ j + 1 = ap (λ s. get_or s (y - 1) 0) e₂ ∙ ap (λ x. get_or (set heads (q - 1) (j + 1)) (x - 1) 0) i ∙ get_or-set_same heads (q - 1) (j + 1) 0 (omega arith) in
          subst (λ x. Chained (set rs j r) ends' assigns' next' x y) (sym head)
          (subst (Chained (set rs j r) ends' assigns' next' (j + 1)) (sym i)
          (chained_new rs j r ends assigns next ends' assigns' next' n₂ long first last same along (get_or heads (q - 1) 0) q (λ x. absurd (omega arith)) refl l first-j last-j wave fits along-j (h.chained q one top))))
          (λ i.
          let head : get_or heads' (y - 1) 0 ≡ get_or heads (y - 1) 0 = ap (λ s. get_or s (y - 1) 0) e₂ ∙ get_or-set_other heads (q - 1) (y - 1) (j + 1) 0 (omega arith) in
          subst (λ x. Chained (set rs j r) ends' assigns' next' x y) (sym head)
          (chained_other rs j r ends assigns next ends' assigns' next' n₂ long first last same along (get_or heads (y - 1) 0) y (λ x. absurd (omega arith)) (λ x. i (sym x)) l (h.chained y a b)));
    }
