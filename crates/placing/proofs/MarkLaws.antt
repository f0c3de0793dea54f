-- The walk that marks busy wavelengths: start, turn, end. Assumes nothing.
use Prim.Native.Nat.{◌+◌, ◌*◌, ◌<◌, ◌≤◌, suc, zero, ℕ}
use lib.ListN.{get_or, length, replicate, set}
use lib.Seq.{get_or-set_other, get_or-set_same}
use mathlib.Core.Bool.{Bool, cond, false, not, true}
use mathlib.Core.List.{List}
use mathlib.Core.Logic.{◌≢◌, ◌⊎◌, inl, inr, ⊎_elim}
use mathlib.Core.Path.{◌∙◌, ◌≡◌, ap, refl, subst, sym}
use native.Mathlib.Omega.{arith}
use Rattle.std.specs.Prelude.{Option, None, Some, unwrap_or}
use Rattle.std.proofs.lemmas.Option.{cond_some, none-some}
use Rattle.basics.proofs.Bools.{by_eq, clash, never, on}
use Rattle.records.specs.Bytes.{cell}
use Rattle.records.specs.Records.{assignment_of, record_at}
use Rattle.records.specs.declared.Circuit.{Circuit}
use Rattle.method.specs.Line.{overlap}
use Rattle.places.specs.Places.{Rider, free, rider}
use Rattle.places.proofs.PlaceLaws.{clashes_fibre, clashes_of, clashes_overlap, clashes_wavelength, free_apart, free_of}
use Rattle.placing.specs.Riding.{Among, Chain, Chained}
use Rattle.placing.specs.inner.Marking.{Marked, Marking, clear, shown}
use Rattle.placing.specs.inner.Rides.{hops}
use Rattle.placing.proofs.ChainLaws.{ended, walk_all, walk_at, walk_less, walk_on, walk_passed, walk_start}

-- a clear table is clear everywhere
clear_none : (n v : ℕ) → clear (replicate n false) v ≡ true
unfolding clear
clear_none zero v = refl
clear_none (suc n) zero = refl
clear_none (suc n) (suc v) = clear_none n v

-- a mark is not clear
clear_same : (busy : List Bool) (v : ℕ) → v < length busy → clear (set busy v true) v ≡ false
unfolding clear
clear_same busy v l = ap not (get_or-set_same busy v true false l)

-- other entries stay
clear_other : (busy : List Bool) (v u : ℕ) → u ≢ v → clear (set busy v true) u ≡ clear busy u
unfolding clear
clear_other busy v u h = ap not (get_or-set_other busy v u true false h)

module _ (rs : List Rider) (ends assigns next : List ℕ) (c : Circuit) (head q : ℕ) (h : Chained rs ends assigns next head q) where
  -- what is shown of a rider of the fibre
  pub shown_is : (d : ℕ) → d < length rs → (rider rs d).fibre ≡ q
      → shown (cell ends (2 * d)) (cell ends (2 * d + 1)) (assignment_of (record_at assigns d)).wavelength c ≡ cond (overlap (rider rs d).who c) (Some (rider rs d).wavelength) None
  unfolding shown overlap
  shown_is d l e = rw (h.first_is d l e, h.last_is d l e, h.wave_is d l e) refl

  -- it fits the table
  pub shown_fits : (d x : ℕ) → d < length rs → (rider rs d).fibre ≡ q → x ≡ cond (overlap (rider rs d).who c) (rider rs d).wavelength 0 → x < 96
  shown_fits d x l e s = on (overlap (rider rs d).who c) (λ o. let z = s ∙ ap (λ b. cond b (rider rs d).wavelength 0) o in omega (arith, h.wave_fits d l e)) (λ o. let z = s ∙ ap (λ b. cond b (rider rs d).wavelength 0) o in omega arith)

  -- the start
  pub mark_start : (busy : List Bool) → busy ≡ replicate 96 false → Marking rs next c q head busy
  mark_start busy none =
      record {
        walk = walk_start rs ends assigns next head q h;
        sound = λ v p f. clash (clear busy v) (ap (λ l. clear l v) none ∙ clear_none 96 v) f;
        whole = λ d v l p o. inr (walk_all rs ends assigns next head q h d l (clashes_fibre (rider rs d) c q v o));
      }

  module _ (z j : ℕ) (busy : List Bool) (here : z ≡ suc j) (came : Marking rs next c q z busy) where
    m : Marking rs next c q (suc j) busy
    m = subst (λ x. Marking rs next c q x busy) here came

    -- a turn: the walk stands at a rider of the fibre, for which the tables have room
    pub mark_at : (j < 2048) × (4 * j + 4 ≤ length ends) × (8 * j + 8 ≤ length assigns)
    mark_at = let r = walk_at rs next q j m.walk in let l = r.0 in (omega (arith, h.few), omega (arith, h.room_ends), omega (arith, h.room_assigns))

    -- and comes nearer to the end
    pub mark_less : (y : ℕ) → y ≡ get_or next j 0 → hops next 2048 y < hops next 2048 z
    mark_less y on = let w = walk_less rs next q j m.walk in let a = ap (hops next 2048) on in let b = ap (hops next 2048) here in omega arith

    -- that does not overlap c
    mark_none : None ≡ shown (cell ends (2 * j)) (cell ends (2 * j + 1)) (assignment_of (record_at assigns j)).wavelength c → Marking rs next c q (get_or next j 0) busy
    mark_none e =
        let r = walk_at rs next q j m.walk in
        record {
          walk = walk_on rs next q j m.walk;
          sound = m.sound;
          whole = λ d v l p o.
              ⊎_elim {C = (clear busy v ≡ false) ⊎ Among d (walk_on rs next q j m.walk).left}
              (λ u. inl u)
              (λ a.
              ⊎_elim {C = (clear busy v ≡ false) ⊎ Among d (walk_on rs next q j m.walk).left}
              (λ i. absurd (none-some (rider rs j).wavelength (e ∙ shown_is j r.0 r.1 ∙ ap (λ b. cond b (Some (rider rs j).wavelength) None) (ap (λ i. overlap (rider rs i).who c) (sym i) ∙ clashes_overlap (rider rs d) c q v o))))
              (λ i. inr i)
              (walk_passed rs next q j m.walk d a))
              (m.whole d v l p o);
        }

    module _ (x : ℕ) (e : Some x ≡ shown (cell ends (2 * j)) (cell ends (2 * j + 1)) (assignment_of (record_at assigns j)).wavelength c) where
      -- that overlaps c, with wavelength x
      shown_some : (overlap (rider rs j).who c ≡ true) × ((rider rs j).wavelength ≡ x)
      shown_some = let r = walk_at rs next q j m.walk in cond_some (overlap (rider rs j).who c) (rider rs j).wavelength x (sym (e ∙ shown_is j r.0 r.1))

      -- which fits the table
      mark_fits : x < 96
      mark_fits = let r = walk_at rs next q j m.walk in let s = shown_some.1 in omega (arith, h.wave_fits j r.0 r.1)

      -- the rider is marked
      mark_some : length busy ≡ 96 → Marking rs next c q (get_or next j 0) (set busy x true)
      mark_some n =
          let r = walk_at rs next q j m.walk in
          let fits = mark_fits in
          record {
            walk = walk_on rs next q j m.walk;
            sound = λ v p u.
                by_eq v x
                (λ g. never (free rs c q v) (λ fr. free_apart rs c q v fr j r.0 (clashes_of (rider rs j) c q v shown_some.0 r.1 (shown_some.1 ∙ sym g))))
                (λ g. m.sound v p (sym (clear_other busy x v g) ∙ u));
            whole = λ d v l p o.
                by_eq v x
                (λ g. inl (ap (clear (set busy x true)) g ∙ clear_same busy x (omega arith)))
                (λ g.
                ⊎_elim {C = (clear (set busy x true) v ≡ false) ⊎ Among d (walk_on rs next q j m.walk).left}
                (λ u. inl (clear_other busy x v g ∙ u))
                (λ a.
                ⊎_elim {C = (clear (set busy x true) v ≡ false) ⊎ Among d (walk_on rs next q j m.walk).left}
                (λ i. absurd (g (sym (clashes_wavelength (rider rs d) c q v o) ∙ ap (λ i. (rider rs i).wavelength) i ∙ shown_some.1)))
                (λ i. inr i)
                (walk_passed rs next q j m.walk d a))
                (m.whole d v l p o));
          }

    -- a rider that does not overlap c marks what is nobody's
    mark_nobody : None ≡ shown (cell ends (2 * j)) (cell ends (2 * j + 1)) (assignment_of (record_at assigns j)).wavelength c → Marking rs next c q (get_or next j 0) (set busy 0 true)
    mark_nobody e =
        let w = mark_none e in
        record {
          walk = w.walk;
          sound = λ v p u. let ne : v ≢ 0 = omega arith in w.sound v p (sym (clear_other busy 0 v ne) ∙ u);
          whole = λ d v l p o. let ne : v ≢ 0 = omega arith in
              ⊎_elim {C = (clear (set busy 0 true) v ≡ false) ⊎ Among d w.walk.left} (λ u. inl (clear_other busy 0 v ne ∙ u)) (λ a. inr a) (w.whole d v l p o);
        }

    -- a turn in both cases: what is marked fits the table
    pub turn_fits : (o : Option ℕ) → o ≡ shown (cell ends (2 * j)) (cell ends (2 * j + 1)) (assignment_of (record_at assigns j)).wavelength c → unwrap_or o 0 < 96
    turn_fits None e = omega arith
    turn_fits (Some x) e = mark_fits x e

    -- and the walk has come on
    pub turn_marks : (o : Option ℕ) → o ≡ shown (cell ends (2 * j)) (cell ends (2 * j + 1)) (assignment_of (record_at assigns j)).wavelength c → length busy ≡ 96
        → Marking rs next c q (get_or next j 0) (set busy (unwrap_or o 0) true)
    turn_marks None e n = mark_nobody e
    turn_marks (Some x) e n = mark_some x e n

  -- the end: the table is right
  pub mark_end : (z : ℕ) (busy : List Bool) → z ≡ 0 → Marking rs next c q z busy → Marked rs c q busy
  mark_end z busy e m v p =
      on (clear busy v)
      (λ t.
      t ∙ sym (free_of rs c q v (λ d l o.
      ⊎_elim {C = ⊥} (λ u. clash (clear busy v) t u) (λ a. subst (Among d) (ended next m.walk.left (subst (λ x. Chain next x m.walk.left) e m.walk.linked)) a) (m.whole d v l p o))))
      (λ t. t ∙ sym (m.sound v p t))
