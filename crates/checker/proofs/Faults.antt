-- Laws of the lowest broken rule and of the first faulty place. Assumes nothing.
use Prim.Native.Nat.{ℕ, zero, suc, ◌+◌, ◌-◌, ◌<◌, ◌≤◌}
use mathlib.Core.Path.{◌≡◌, refl, ap, ◌∙◌, sym}
use mathlib.Core.Logic.{◌≢◌}
use mathlib.Core.Bool.{true, false, not}
use mathlib.Core.List.{List, [], ◌∷◌, ◌++◌}
use mathlib.Core.Option.{Option, none, some}
use native.Mathlib.Omega.{arith}
use lib.Dec.{eqb}
use borrow.Author.Tests.{eqb-true, eq-eqb, ne_eqb}
use Rattle.basics.proofs.Bools.{by_eq, by_le, clash, never, on}
use Rattle.refusals.specs.Table.{first_record}
use Rattle.refusals.proofs.First.{record_first, record_none}
use Rattle.refusals.proofs.FirstLaws.{first_hit, first_end}
use Rattle.checker.specs.Rules.{Rule, Breach, lowest_broken, faulty, breach_at, first_fault}
use Rattle.checker.specs.Sound.{rule_at, NoneBroken, NoneFaulty, FirstFault}
use Rattle.std.specs.Prelude.{Some, None, is_some}
use Rattle.checker.specs.Checked.{fault_of, rule_told}

-- RULES BY RISING NUMBER, all above x
abbrev pub Rising : ℕ → List Rule → Type 0
Rising x [] = Unit {0}
Rising x (r ∷ rs) = (x < r.number) × Rising r.number rs

-- a rule that is broken has a number above x
rising_above : (x : ℕ) (rs : List Rule) → Rising x rs → (q : ℕ) → (rule_at rs q).broken ≡ true → x < (rule_at rs q).number
rising_above x [] h q t = clash false t refl
rising_above x (r ∷ rs) h zero t = h.0
rising_above x (r ∷ rs) h (suc q) t = omega (arith, h.0, rising_above r.number rs h.1 q t)

-- and above that of each before it
rising_order : (x : ℕ) (rs : List Rule) → Rising x rs → (q r : ℕ) → q < r → (rule_at rs r).broken ≡ true → (rule_at rs q).number < (rule_at rs r).number
rising_order x [] h q r l t = clash false t refl
rising_order x (a ∷ rs) h q zero l t = absurd (omega arith)
rising_order x (a ∷ rs) h zero (suc r) l t = rising_above a.number rs h.1 r t
rising_order x (a ∷ rs) h (suc q) (suc r) l t = rising_order a.number rs h.1 q r (omega arith) t

-- THE LOWEST BROKEN RULE. The rules of a list that are broken have numbers from 1 on
abbrev pub Numbered : List Rule → Type 0
Numbered rs = (q : ℕ) → (rule_at rs q).broken ≡ true → (rule_at rs q).number ≢ 0

-- as they have where numbers rise
pub rising_numbered : (rs : List Rule) → Rising 0 rs → Numbered rs
rising_numbered rs h q t z = let l = rising_above 0 rs h q t in omega arith

-- a first rule that is not broken leaves the others
pub lowest_past : (r : Rule) (rs : List Rule) → r.broken ≡ false → lowest_broken (r ∷ rs) ≡ lowest_broken rs
unfolding lowest_broken
lowest_past r rs e = rw e

-- a first rule that is broken is the lowest
pub lowest_here : (r : Rule) (rs : List Rule) → r.broken ≡ true → lowest_broken (r ∷ rs) ≡ r.number
unfolding lowest_broken
lowest_here r rs e = rw e

-- the first rule does not count, so neither does its number
rest_numbered : (r : Rule) (rs : List Rule) → Numbered (r ∷ rs) → Numbered rs
rest_numbered r rs h q = h (suc q)

-- the lowest is 0, so none is broken
pub lowest_none : (rs : List Rule) → Numbered rs → lowest_broken rs ≡ 0 → NoneBroken rs
lowest_none [] h e q = refl
lowest_none (r ∷ rs) h e zero = on r.broken (λ t. absurd (h 0 t (sym (lowest_here r rs t) ∙ e))) (λ t. t)
lowest_none (r ∷ rs) h e (suc q) =
    on r.broken
    (λ t. absurd (h 0 t (sym (lowest_here r rs t) ∙ e)))
    (λ t. lowest_none rs (rest_numbered r rs h) (sym (lowest_past r rs t) ∙ e) q)

-- none is broken, so the lowest is 0
pub none_lowest : (rs : List Rule) → NoneBroken rs → lowest_broken rs ≡ 0
unfolding lowest_broken
none_lowest [] h = refl
none_lowest (r ∷ rs) h = lowest_past r rs (h 0) ∙ none_lowest rs (λ q. h (suc q))

-- rule `which` of a list is broken, and none before it is
pub record Lowest (rs : List Rule) (number : ℕ) : Type 0 where
  pub which : ℕ
  pub numbered : (rule_at rs which).number ≡ number
  pub broken : (rule_at rs which).broken ≡ true
  pub none_lower : (q : ℕ) → q < which → (rule_at rs q).broken ≡ false

-- the lowest is some rule's number, which is broken, and none before it is
pub lowest_some : (rs : List Rule) (x : ℕ) → lowest_broken rs ≡ x → x ≢ 0 → Lowest rs x
unfolding lowest_broken
lowest_some [] x e h = absurd (h (sym e))
lowest_some (r ∷ rs) x e h =
    on r.broken
    (λ t. record { which = 0; numbered = sym (lowest_here r rs t) ∙ e; broken = t; none_lower = λ q l. absurd (omega arith) })
    (λ t.
    let y = lowest_some rs x (sym (lowest_past r rs t) ∙ e) h in
    record { which = suc y.which; numbered = y.numbered; broken = y.broken; none_lower = lower t y.which y.none_lower })
  where
    lower : r.broken ≡ false → (k : ℕ) → ((q : ℕ) → q < k → (rule_at rs q).broken ≡ false) → (q : ℕ) → q < suc k → (rule_at (r ∷ rs) q).broken ≡ false
    lower t k f zero l = t
    lower t k f (suc q) l = f q (omega arith)

-- a rule that is broken, with none before it, is the lowest
pub some_lowest : (rs : List Rule) (which : ℕ) → (rule_at rs which).broken ≡ true → ((q : ℕ) → q < which → (rule_at rs q).broken ≡ false)
    → lowest_broken rs ≡ (rule_at rs which).number
some_lowest [] which t h = clash false t refl
some_lowest (r ∷ rs) zero t h = lowest_here r rs t
some_lowest (r ∷ rs) (suc which) t h = lowest_past r rs (h 0 (omega arith)) ∙ some_lowest rs which t (λ q l. h (suc q) (omega arith))

-- a rule is broken, so one more at the end makes no difference
pub lowest_then : (rs : List Rule) (r : Rule) → lowest_broken rs ≢ 0 → lowest_broken (rs ++ (r ∷ [])) ≡ lowest_broken rs
unfolding lowest_broken
lowest_then [] r h = absurd (h refl)
lowest_then (x ∷ rs) r h =
    on x.broken
    (λ t. rw t)
    (λ t. rw t (lowest_then rs r (λ z. h (lowest_past x rs t ∙ z))))

-- none is broken, so the one at the end tells
pub lowest_else : (rs : List Rule) (r : Rule) → Numbered rs → lowest_broken rs ≡ 0 → lowest_broken (rs ++ (r ∷ [])) ≡ lowest_broken (r ∷ [])
lowest_else [] r h e = refl
lowest_else (x ∷ rs) r h e =
    let f : x.broken ≡ false = lowest_none (x ∷ rs) h e 0 in
    lowest_past x (rs ++ (r ∷ [])) f ∙ lowest_else rs r (rest_numbered x rs h) (sym (lowest_past x rs f) ∙ e)

-- THE FIRST FAULTY PLACE. No rule is broken where the lowest is 0
pub sound_is : (rs : List Rule) → lowest_broken rs ≡ 0 → faulty rs ≡ false
sound_is rs e = ap not (eq-eqb (lowest_broken rs) 0 e)

-- and the other way
pub is_sound : (rs : List Rule) → faulty rs ≡ false → lowest_broken rs ≡ 0
is_sound rs e =
    on (eqb (lowest_broken rs) 0) (λ t. eqb-true (lowest_broken rs) 0 t) (λ t. clash true refl (sym (ap not t) ∙ e))

-- a rule is broken where the lowest is not 0
pub faulty_is : (rs : List Rule) → lowest_broken rs ≢ 0 → faulty rs ≡ true
faulty_is rs h = ap not (ne_eqb (lowest_broken rs) 0 h)

-- and the other way
pub is_faulty_lem : (rs : List Rule) → faulty rs ≡ true → lowest_broken rs ≢ 0
is_faulty_lem rs e z = clash (faulty rs) e (sound_is rs z)

-- a rule is told: it is the lowest that is broken
pub told_some : (y x : ℕ) → rule_told y ≡ Some x → (x ≡ y) × (x ≢ 0)
told_some zero x e = cc
told_some (suc y) x e = (let q : suc y ≡ x = cc in sym q, let q : suc y ≡ x = cc in λ z. omega arith)

-- none is told: none is broken
pub told_none : (y : ℕ) → rule_told y ≡ None → y ≡ 0
told_none zero e = refl
told_none (suc y) e = cc

-- one is told exactly if one is broken
pub told_faulty : (rs : List Rule) → is_some (rule_told (lowest_broken rs)) ≡ faulty rs
told_faulty rs = go (lowest_broken rs)
  where
    go : (y : ℕ) → is_some (rule_told y) ≡ not (eqb y 0)
    go zero = refl
    go (suc y) = sym (ap not (ne_eqb (suc y) 0 (λ z. omega arith)))

module _ (rules : ℕ → List Rule) where
  -- no rule is broken at any place before j
  abbrev pub SoundTo : ℕ → Type 0
  SoundTo j = (i : ℕ) → i < j → lowest_broken (rules i) ≡ 0

  -- no place is faulty, so there is no breach
  pub fault_end : (m : ℕ) → SoundTo m → first_fault rules m ≡ none
  unfolding first_fault
  fault_end m h = ap (breach_at rules) (first_end (λ i. faulty (rules i)) m (λ i l. sound_is (rules i) (h i l)))

  -- place j is faulty, and none before it: there is the breach
  pub fault_hit : (m j : ℕ) → j < m → lowest_broken (rules j) ≢ 0 → SoundTo j
      → first_fault rules m ≡ some (record { rule = lowest_broken (rules j); place = suc j })
  unfolding first_fault
  fault_hit m j l t h =
      let k : suc j - 1 ≡ j = omega arith in
      ap (breach_at rules) (first_hit (λ i. faulty (rules i)) m j l (faulty_is (rules j) t) (λ i b. sound_is (rules i) (h i b)))
      ∙ ap (λ (x : ℕ). some (let b : Breach = record { rule = lowest_broken (rules x); place = suc j } in b)) k

  -- there is no breach, so no place is faulty
  pub fault_none : (m : ℕ) → first_fault rules m ≡ none → SoundTo m
  unfolding first_fault
  fault_none m e i l = is_sound (rules i) (record_none (λ i. faulty (rules i)) m (go _ refl) i l)
    where
      go : (o : Option ℕ) → first_record (λ i. faulty (rules i)) m ≡ o → first_record (λ i. faulty (rules i)) m ≡ none
      go none q = q
      go (some p) q =
          let z : some (let b : Breach = record { rule = lowest_broken (rules (p - 1)); place = p } in b) ≡ none = sym (ap (breach_at rules) q) ∙ e in cc

  -- there is a breach, so its place is faulty, and none before it is
  pub fault_some : (m : ℕ) (b : Breach) → first_fault rules m ≡ some b
      → (j : ℕ) × (b.place ≡ suc j) × (j < m) × (lowest_broken (rules j) ≡ b.rule) × (lowest_broken (rules j) ≢ 0) × SoundTo j
  unfolding first_fault
  fault_some m b e = go _ refl
    where
      go : (o : Option ℕ) → first_record (λ i. faulty (rules i)) m ≡ o
          → (j : ℕ) × (b.place ≡ suc j) × (j < m) × (lowest_broken (rules j) ≡ b.rule) × (lowest_broken (rules j) ≢ 0) × SoundTo j
      go none q =
          let z : none ≡ some b = sym (ap (breach_at rules) q) ∙ e in
          absurd (let y : ◌≡◌ {A = ℕ} 0 1 = cc in omega arith)
      go (some p) q =
          let z : some (let d : Breach = record { rule = lowest_broken (rules (p - 1)); place = p } in d) ≡ some b = sym (ap (breach_at rules) q) ∙ e in
          let r = record_first (λ i. faulty (rules i)) m p q in
          let y : (let d : Breach = record { rule = lowest_broken (rules (p - 1)); place = p } in d) ≡ b = cc in
          let r₁ = r.1 in
          let k : p - 1 ≡ r.0 = omega arith in (
            r.0,
            sym (ap (λ (d : Breach). d.place) y) ∙ r.1,
            r.2,
            sym (ap (λ (x : ℕ). lowest_broken (rules x)) k) ∙ ap (λ (d : Breach). d.rule) y,
            is_faulty_lem (rules r.0) r.3,
            λ i l. is_sound (rules i) (r.4 i l),
          )

  -- one place more
  pub sound_more : (j : ℕ) → SoundTo j → lowest_broken (rules j) ≡ 0 → SoundTo (j + 1)
  sound_more j h e i l = by_eq i j (λ q. ap (λ (x : ℕ). lowest_broken (rules x)) q ∙ e) (λ q. h i (omega arith))

  -- the breach at place j is what a run through the places tells, if none before it is faulty
  pub broken_at : (m j x : ℕ) → j < m → x ≡ lowest_broken (rules j) → x ≢ 0 → SoundTo j → Some (record { rule = x; place = j + 1 }) ≡ fault_of (first_fault rules m)
  broken_at m j x l e t h =
      let k : j + 1 ≡ suc j = omega arith in
      (λ i. Some (record { rule = e i; place = k i })) ∙ sym (ap fault_of (fault_hit m j l (λ y. t (e ∙ y)) h))

  -- nothing is, if none is faulty
  pub nothing_all : (m j : ℕ) → m ≤ j → SoundTo j → None ≡ fault_of (first_fault rules m)
  nothing_all m j l h = sym (ap fault_of (fault_end m (λ i b. h i (omega arith))))

  -- WITHOUT RUNNING THROUGH, for rules by rising number
  module _ (rising : (i : ℕ) → Rising 0 (rules i)) where
    -- no breach, so no rule is broken anywhere
    pub none_faulty : (m : ℕ) → first_fault rules m ≡ none → NoneFaulty rules m
    none_faulty m e i l = lowest_none (rules i) (rising_numbered (rules i) (rising i)) (fault_none m e i l)

    -- and the other way
    pub faulty_none : (m : ℕ) → NoneFaulty rules m → first_fault rules m ≡ none
    faulty_none m h = fault_end m (λ i l. none_lowest (rules i) (h i l))

    -- a breach is that of the first faulty place, with its lowest rule
    pub first_faulty : (m : ℕ) (b : Breach) → first_fault rules m ≡ some b → FirstFault rules m b
    first_faulty m b e =
        let r = fault_some m b e in
        let rs = rules r.0 in
        let y = lowest_some rs b.rule r.3 (λ z. r.4 (r.3 ∙ z)) in
        record {
          index = r.0;
          below = r.2;
          placed = r.1;
          none_earlier = λ i l. lowest_none (rules i) (rising_numbered (rules i) (rising i)) (r.5 i l);
          which = y.which;
          numbered = y.numbered;
          broken = y.broken;
          none_lower = λ q l.
              by_le y.which q
              (λ g. never _ (λ t. by_eq q y.which (λ z. omega (arith, ap (λ (x : ℕ). (rule_at rs x).number) z, y.numbered)) (λ z. omega (arith, rising_order 0 rs (rising r.0) y.which q (omega arith) t, y.numbered))))
              (λ g. y.none_lower q g);
        }

    -- and the other way
    pub faulty_first : (m : ℕ) (b : Breach) → FirstFault rules m b → first_fault rules m ≡ some b
    faulty_first m b f =
        let rs = rules f.index in
        let e = some_lowest rs f.which f.broken
        (λ q l. f.none_lower q (omega (arith, rising_order 0 rs (rising f.index) q f.which l f.broken, f.numbered))) in
        let z : (let d : Breach = record { rule = lowest_broken rs; place = suc f.index } in d) ≡ b =
        λ i. record { rule = (e ∙ f.numbered) i; place = sym f.placed i } in
        fault_hit m f.index f.below (λ y. rising_numbered rs (rising f.index) f.which f.broken (sym e ∙ y)) (λ i l. none_lowest (rules i) (f.none_earlier i l))
        ∙ ap some z
