-- The sweep along the circuits of a fibre: its start, a turn, a clash that it finds, and its end without one. Assumes nothing.
use Prim.Native.Nat.{ℕ, zero, suc, ◌+◌, ◌*◌, ◌≤◌, ◌<◌}
use mathlib.Core.Bool.{Bool, ◌&&◌, true, false}
use mathlib.Core.Path.{◌≡◌, refl, sym, ap, ap₂, subst, ◌∙◌}
use mathlib.Core.Logic.{◌≢◌, ◌⊎◌, inl, inr, ⊎_elim}
use mathlib.Core.List.{List}
use native.Mathlib.Omega.{arith}
use borrow.Author.Tests.{eq-eqb, eqb-true}
use lib.Dec.{eqb}
use lib.ListN.{length, get_or, set}
use lib.Seq.{get_or-set_same, get_or-set_other}
use Rattle.basics.specs.Tools.{any}
use Rattle.basics.proofs.Bools.{and_l, and_of, and_r, by_eq, by_le, never}
use Rattle.basics.proofs.Searches.{any_hit, any_none, any_true}
use Rattle.records.specs.Records.{assignment_of, circuit_of, circuits_in, record_at}
use Rattle.records.specs.declared.AssignmentRecord.{AssignmentRecord}
use Rattle.records.specs.declared.Circuit.{Circuit}
use Rattle.records.proofs.Files.{length_circuits_in}
use Rattle.method.specs.Line.{circuit, overlap}
use Rattle.method.proofs.Circuits.{circuit_in_lem}
use Rattle.method.proofs.Links.{overlap_l, overlap_of, overlap_r}
use Rattle.chains.specs.Riders.{First, Rides, fibre_in, key}
use Rattle.chains.proofs.Walks.{first_next, first_none, key_one}
use Rattle.clashes.specs.Clashes.{clash, clashes_in, wave_in}
use Rattle.clashes.specs.inner.Sweeps.{InChains, Walk, clashes_on, to_go}

-- THE FIRST q CIRCUITS, in chains by fibre
module _ {q : ℕ} {s assigns next heads : List ℕ} (h : InChains q s assigns next heads) where
  -- the circuits
  abbrev cs : List Circuit
  cs = circuits_in q s

  -- their fibres
  abbrev on : ℕ → ℕ
  on = fibre_in assigns

  -- their wavelengths
  abbrev wave : ℕ → ℕ
  wave = wave_in assigns

  -- how many
  sized : length cs ≡ q
  sized = length_circuits_in q s

  -- a circuit's ends are on the line
  ends : (d : ℕ) → d < length cs → (1 ≤ (circuit cs d).first) × ((circuit cs d).first ≤ (circuit cs d).last) × ((circuit cs d).last ≤ 512)
  unfolding circuit
  ends d l = h.lies d l

  -- where it stands, by its record: before the end of all
  stands : (d : ℕ) → d < length cs → (2048 * (circuit_of (record_at s d)).first + d ≡ key cs d) × (key cs d < 1050624)
  stands d l =
      let k = sized in
      let e = ap (λ (c : Circuit). c.first) (circuit_in_lem q s d (omega arith)) in
      let E = ends d l in
      let E₁ = E.1 in
      let E₂ = E.2 in
      (omega arith, omega (arith, h.few))

  -- TWO OF THEM, as a clash has them
  abbrev hit : ℕ → ℕ → Bool
  hit i j = clash (circuit_of (record_at s i)) (assignment_of (record_at assigns i)) (circuit_of (record_at s j)) (assignment_of (record_at assigns j))

  -- what a clash tests
  hit_is : (i j : ℕ) → i < q → j < q → hit i j ≡ overlap (circuit cs i) (circuit cs j) && eqb (on i) (on j) && eqb (wave i) (wave j)
  unfolding clash fibre_in wave_in
  hit_is i j a b = ap₂ (λ (c d : Circuit). overlap c d && eqb (on i) (on j) && eqb (wave i) (wave j)) (sym (circuit_in_lem q s i a)) (sym (circuit_in_lem q s j b))

  -- what it says
  record Meets (i j : ℕ) : Type 0 where
    one_begins : (circuit cs i).first ≤ (circuit cs j).last
    other_begins : (circuit cs j).first ≤ (circuit cs i).last
    fibre : on i ≡ on j
    wavelength : wave i ≡ wave j

  -- whoever clashes meets
  hit_meets : (i j : ℕ) → i < q → j < q → hit i j ≡ true → Meets i j
  hit_meets i j a b e =
      let t : overlap (circuit cs i) (circuit cs j) && eqb (on i) (on j) && eqb (wave i) (wave j) ≡ true = sym (hit_is i j a b) ∙ e in
      let l : overlap (circuit cs i) (circuit cs j) && eqb (on i) (on j) ≡ true = and_l _ _ t in
      let o : overlap (circuit cs i) (circuit cs j) ≡ true = and_l _ _ l in
      record {
        one_begins = overlap_l (circuit cs i) (circuit cs j) o;
        other_begins = overlap_r (circuit cs i) (circuit cs j) o;
        fibre = eqb-true (on i) (on j) (and_r (overlap (circuit cs i) (circuit cs j)) _ l);
        wavelength = eqb-true (wave i) (wave j) (and_r (overlap (circuit cs i) (circuit cs j) && eqb (on i) (on j)) _ t);
      }

  -- and the other way round
  meets_hit : (i j : ℕ) → i < q → j < q → Meets i j → hit i j ≡ true
  meets_hit i j a b m =
      hit_is i j a b
      ∙ and_of _ _ (and_of _ _ (overlap_of (circuit cs i) (circuit cs j) m.one_begins m.other_begins) (eq-eqb (on i) (on j) m.fibre)) (eq-eqb (wave i) (wave j) m.wavelength)

  -- circuit j clashes with circuit i before it
  meets_on : (f i j : ℕ) → i < j → Rides cs on f i → Rides cs on f j → Meets i j → clashes_on s assigns f j ≡ true
  unfolding clashes_in
  meets_on f i j l r u m =
      let k = sized in
      let b = u.there in
      and_of _ _ (eq-eqb (on j) f u.mine) (any_hit (λ x. hit x j) j i l (meets_hit i j (omega arith) (omega arith) m))

  -- whoever clashes with one before it, meets one
  on_meets : (f j : ℕ) → j < q → clashes_on s assigns f j ≡ true → (i : ℕ) × (i < j) × Rides cs on f i × Rides cs on f j × Meets i j
  unfolding clashes_in
  on_meets f j l e =
      let k = sized in
      let w : on j ≡ f = eqb-true (on j) f (and_l _ _ e) in
      let t = any_true (λ x. hit x j) j (and_r (eqb (on j) f) _ e) in
      let b = t.1 in
      let m = hit_meets t.0 j (omega arith) l t.2 in
      (t.0, b, record { there = omega arith; mine = m.fibre ∙ w }, record { there = omega arith; mine = w }, m)

  -- two circuits of a fibre that meet: the later one clashes, so the fibre has a clash
  two_meet : (f d e : ℕ) → d ≢ e → Rides cs on f d → Rides cs on f e → Meets d e → any (clashes_on s assigns f) q ≡ true
  two_meet f d e z r u m =
      let k = sized in
      let a = r.there in
      let b = u.there in
      by_le e d
      (λ l. any_hit (clashes_on s assigns f) q d (omega arith)
      (meets_on f e d (omega arith) u r (record { one_begins = m.other_begins; other_begins = m.one_begins; fibre = sym m.fibre; wavelength = sym m.wavelength })))
      (λ l. any_hit (clashes_on s assigns f) q e (omega arith) (meets_on f d e l r u m))

  -- THE WALK begins at the head
  pub walk_start : (o : ℕ) {z : ℕ} {reach : List ℕ} → z ≡ get_or heads o 0 → ((v : ℕ) → get_or reach v 0 ≡ 0) → Walk cs on wave (o + 1) z reach
  walk_start o {z} {reach} e none =
      record {
        from = 0;
        told = subst (First cs on (o + 1) 0) (sym e) (h.chained.head o);
        walked = record { all_end = λ d r b. absurd (omega arith); one_ends = λ v. inl (none v); past = λ d e r u w a b. absurd (omega arith) };
      }

  -- it ends with no clash
  pub walk_end : {f z : ℕ} {reach : List ℕ} → z ≡ 0 → Walk cs on wave f z reach → any (clashes_on s assigns f) q ≡ false
  walk_end {f} {z} {reach} e g = any_none (clashes_on s assigns f) q (λ j l. never (clashes_on s assigns f j) (λ t. alone j l (on_meets f j l t)))
    where
      -- each is walked
      walked : (d : ℕ) → Rides cs on f d → key cs d < g.from
      walked d r = first_none cs on f g.from d (subst (First cs on f g.from) e g.told) r

      -- so none meets one before it
      alone : (j : ℕ) → j < q → (i : ℕ) × (i < j) × Rides cs on f i × Rides cs on f j × Meets i j → ⊥
      alone j l (i, b, r, u, m) =
          let m₁ = m.one_begins in
          let m₂ = m.other_begins in
          by_le (key cs i) (key cs j)
          (λ a.
          by_eq (key cs i) (key cs j)
          (λ y. let y' = key_one cs (let k = sized in omega (arith, h.few)) i j r.there u.there y in omega arith)
          (λ y. let v = g.walked.past i j r u m.wavelength (omega arith) (walked j u) in omega arith))
          (λ a. let v = g.walked.past j i u r (sym m.wavelength) a (walked i r) in omega arith)

  -- what the loop asks at circuit j
  pub record There (j : ℕ) : Type 0 where
    pub few : j < 2048
    pub listed : 8 * j + 8 ≤ length s
    pub assigned : 8 * j + 8 ≤ length assigns

  -- AT CIRCUIT j
  module _ {f j z : ℕ} {reach : List ℕ} (here : z ≡ suc j) (g : Walk cs on wave f z reach) where
    -- it is told
    told : First cs on f g.from (suc j)
    told = subst (First cs on f g.from) here g.told

    -- it rides on the fibre
    rides : Rides cs on f j
    rides = told.rides j refl

    -- it is there
    pub there : There j
    there =
        let k = sized in
        let b = rides.there in
        record { few = omega (arith, h.few); listed = omega (arith, h.file); assigned = omega (arith, h.listed) }

    -- its wavelength
    pub wave_is : {x : ℕ} {a : AssignmentRecord} → a ≡ assignment_of (record_at assigns j) → x ≡ a.wavelength → x ≡ wave j
    unfolding wave_in
    wave_is e y = y ∙ ap (λ (a : AssignmentRecord). a.wavelength) e

    -- it is in the table
    pub wave_low : {x : ℕ} → x ≡ wave j → x < 81
    wave_low {x} y = let k = sized in let b = rides.there in let w = h.waves j (omega arith) in omega arith

    -- it begins no later than one of its wavelength ends
    pub walk_clash : {c : Circuit} {x : ℕ} → c ≡ circuit_of (record_at s j) → x ≡ wave j → c.first ≤ get_or reach x 0 → any (clashes_on s assigns f) q ≡ true
    walk_clash {c} {x} e y l =
        let k = sized in
        let b = rides.there in
        let E = ends j b in
        let E₀ = E.0 in
        let E₁ = E.1 in
        let c₁ = ap (λ (i : Circuit). i.first) (e ∙ sym (circuit_in_lem q s j (omega arith))) in
        let late = told.late j refl in
        ⊎_elim (λ z. absurd (omega arith))
        (λ (d, r, t, v, z).
        let b' = r.there in
        let few = h.few in
        two_meet f d j (λ i. let i' = ap (key cs) i in omega arith) r rides (record { one_begins = omega arith; other_begins = omega arith; fibre = r.mine ∙ sym rides.mine; wavelength = v ∙ y }))
        (g.walked.one_ends x)

    -- after it comes the next circuit of the fibre
    next_is : {v : ℕ} → v ≡ get_or next j 0 → First cs on f (suc (key cs j)) v
    next_is {v} u =
        subst (First cs on f (suc (key cs j))) (sym u) (subst (λ (i : ℕ). First cs on i (suc (key cs j)) (get_or next j 0)) rides.mine (h.chained.after j rides.there))

    -- so what is left falls
    pub walk_falls : {v : ℕ} → v ≡ get_or next j 0 → to_go s v < to_go s z
    unfolding to_go
    walk_falls {v} u = rw here (go v (next_is u))
      where
        -- to the next circuit, or to the end
        go : (v : ℕ) → First cs on f (suc (key cs j)) v → to_go s v < to_go s (suc j)
        go zero x = let y = stands j rides.there in let y₁ = y.1 in omega (arith, y.0)
        go (suc d) x =
            let y = stands j rides.there in
            let y₁ = y.1 in
            let l = x.late d refl in
            omega (arith, y.0, (stands d (x.rides d refl).there).0)

    -- it is walked, and the walk goes on
    pub walk_turn : {c : Circuit} {x v : ℕ} {reach' : List ℕ} → c ≡ circuit_of (record_at s j) → x ≡ wave j → x < length reach → get_or reach x 0 < c.first → reach' ≡ set reach x c.last → v ≡ get_or next j 0
        → Walk cs on wave f v reach'
    walk_turn {c} {x} {v} {reach'} e mine room l w u =
        record { from = suc (key cs j); told = next_is u; walked = record { all_end = all_end; one_ends = one_ends; past = past } }
      where
        -- its circuit
        read : c ≡ circuit cs j
        read = let k = sized in let b = rides.there in e ∙ sym (circuit_in_lem q s j (omega arith))

        -- its own reach
        new : get_or reach' x 0 ≡ c.last
        new = ap (λ (i : List ℕ). get_or i x 0) w ∙ get_or-set_same reach x c.last 0 room

        -- the others'
        old : (y : ℕ) → y ≢ x → get_or reach' y 0 ≡ get_or reach y 0
        old y n = ap (λ (i : List ℕ). get_or i y 0) w ∙ get_or-set_other reach x y c.last 0 n

        -- whoever is walked now was before, or is this one
        who : {C : Type 0} (d : ℕ) → Rides cs on f d → key cs d < suc (key cs j) → (key cs d < g.from → C) → (d ≡ j → C) → C
        who d r b before this =
            by_le g.from (key cs d)
            (λ i.
            let n = first_next cs on f g.from j d told r i in
            this (key_one cs (let k = sized in omega (arith, h.few)) d j r.there rides.there (omega arith)))
            before

        -- it ends past those of its wavelength that are walked
        all_end : (d : ℕ) → Rides cs on f d → key cs d < suc (key cs j) → (circuit cs d).last ≤ get_or reach' (wave d) 0
        all_end d r b =
            let c₁ = ap (λ (i : Circuit). i.first) read in
            let c₂ = ap (λ (i : Circuit). i.last) read in
            let E = (ends j rides.there).1 in
            who d r b
            (λ i.
            let p = g.walked.all_end d r i in
            by_eq (wave d) x
            (λ z. let p' = ap (λ (y : ℕ). get_or reach y 0) z in let n = ap (λ (y : ℕ). get_or reach' y 0) z ∙ new in omega arith)
            (λ z. let n = old (wave d) z in omega arith))
            (λ z. let n = ap (λ (y : ℕ). get_or reach' (wave y) 0) z ∙ ap (λ (y : ℕ). get_or reach' y 0) (sym mine) ∙ new in let m = ap (λ (y : ℕ). (circuit cs y).last) z in omega arith)

        -- so it is the one that reaches farthest
        one_ends : (y : ℕ) → (get_or reach' y 0 ≡ 0) ⊎ ((d : ℕ) × Rides cs on f d × (key cs d < suc (key cs j)) × (wave d ≡ y) × ((circuit cs d).last ≡ get_or reach' y 0))
        one_ends y =
            by_eq y x
            (λ z. inr (j, rides, omega arith, sym mine ∙ sym z, sym (ap (λ (i : ℕ). get_or reach' i 0) z ∙ new ∙ ap (λ (i : Circuit). i.last) read)))
            (λ z. ⊎_elim (λ n. inl (old y z ∙ n)) (λ (d, r, b, i, n). let t = told.late j refl in inr (d, r, omega arith, i, n ∙ sym (old y z))) (g.walked.one_ends y))

        -- and begins past them
        past : (d t : ℕ) → Rides cs on f d → Rides cs on f t → wave d ≡ wave t → key cs d < key cs t → key cs t < suc (key cs j) → (circuit cs d).last < (circuit cs t).first
        past d t r i z b k =
            who t i k (g.walked.past d t r i z b)
            (λ n.
            let n' = ap (key cs) n in
            let n₁ = ap (λ (y : ℕ). (circuit cs y).first) n ∙ sym (ap (λ (i : Circuit). i.first) read) in
            who d r (omega arith)
            (λ p. let m = g.walked.all_end d r p in let v = ap (λ (y : ℕ). get_or reach y 0) (z ∙ ap wave n ∙ sym mine) in omega arith)
            (λ p. let p' = ap (key cs) p in absurd (omega arith)))
