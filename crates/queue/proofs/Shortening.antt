-- A queue that is closed up, or begun later, has the same circuits. Assumes nothing.
use Prim.Native.Nat.{ℕ, ◌-◌, ◌≤◌, ◌<◌}
use mathlib.Core.Path.{◌≡◌, ap, ◌∙◌, sym}
use mathlib.Core.Logic.{◌≢◌}
use mathlib.Core.List.{List}
use native.Mathlib.Nat.{zero-add}
use native.Mathlib.Omega.{arith}
use lib.ListN.{get_or}
use borrow.Author.Tests.{eq-eqb, le-leb}
use Rattle.basics.specs.Tools.{count, seek, part}
use Rattle.basics.proofs.Bools.{and_of, by_eq, by_le, clash}
use Rattle.basics.proofs.Counts.{count_below, count_rank}
use Rattle.basics.proofs.Searches.{seek_le, seek_miss}
use Rattle.basics.proofs.Tables.{get_d_part}
use Rattle.records.specs.declared.Circuit.{Circuit}
use Rattle.method.specs.Line.{circuit}
use Rattle.scans.specs.Scans.{within, cell_within}
use Rattle.queue.specs.declared.Queue.{Queue}
use Rattle.queue.specs.Queued.{place_in, Queued}
use Rattle.queue.specs.inner.ClosedUp.{waits_in, Alike, ClosedUp, any_link}
use Rattle.queue.proofs.Closing.{waiting, from_place}
use Rattle.queue.proofs.QueueLaws.{first_waiting}

-- the place in the file of a circuit that has moved
moved_place : (m y p : ℕ) (L L' : List ℕ) → Alike m L' y L p → place_in m L' y ≡ place_in m L p
unfolding place_in
moved_place m y p L L' a = a.2

-- a circuit that waits stands at a place of the list that waits
waits_at : (m : ℕ) (cs : List Circuit) (R L : List ℕ) (q : Queue) (j : ℕ) → ((j : ℕ) → j < m → 1 ≤ (circuit cs j).first) → Queued m cs R L q → j < m → get_or R j 0 ≡ 0
    → (p : ℕ) × (q.from ≤ p) × (p < q.to) × (place_in m L p ≡ j) × (1 ≤ get_or L p 0)
waits_at m cs R L q j up Q h w =
    let r = Q.all j h w in
    let a = first_waiting m cs R L q r.0 j Q r.2 r.3 (eq-eqb (get_or R j 0) 0 w) in
    (r.0, r.1, r.2, r.3, omega (arith, up j h))

-- closed up
pub closed_keeps : (m r : ℕ) (cs : List Circuit) (R L L' : List ℕ) (q : Queue) → ClosedUp m q.to L L' r → ((j : ℕ) → j < m → 1 ≤ (circuit cs j).first)
    → Queued m cs R L q → Queued m cs R L' (record { from = 0; to = r; many = q.many })
closed_keeps m r cs R L L' q c up Q =
    let en = Q.ends.1 in
    let k = c.many in
    let b = count_below (waits_in L) q.to in
    record {
      ends = (omega arith, omega arith);
      places = λ y h. let s = from_place m q.to r y L L' c h in rw (moved_place m y s.0 L L' s.4) (Q.places s.0 s.1);
      once = λ y z h i e.
          let s = from_place m q.to r y L L' c h in
          let t = from_place m q.to r z L L' c i in
          sym s.3
          ∙ ap (count (waits_in L)) (Q.once s.0 t.0 s.1 t.1 (sym (moved_place m y s.0 L L' s.4) ∙ e ∙ moved_place m z t.0 L L' t.4))
          ∙ t.3;
      rising = λ y z h i.
          let s = from_place m q.to r y L L' c (omega arith) in
          let t = from_place m q.to r z L L' c i in
          let s₃ = s.3 in
          let t₃ = t.3 in
          let o : s.0 ≤ t.0 = by_le s.0 t.0 (λ l. l) (λ l. absurd (omega (arith, count_rank (waits_in L) t.0 s.0 l t.2))) in
          rw (moved_place m y s.0 L L' s.4, moved_place m z t.0 L L' t.4) (Q.rising s.0 t.0 o t.1);
      firsts = λ y h.
          let s = from_place m q.to r y L L' c h in rw (moved_place m y s.0 L L' s.4) (s.4.0 ∙ Q.firsts s.0 s.1);
      lasts = λ y h.
          let s = from_place m q.to r y L L' c h in rw (moved_place m y s.0 L L' s.4) (s.4.1 ∙ Q.lasts s.0 s.1);
      all = λ j h w.
          let s = waits_at m cs R L q j up Q h w in
          let s₄ = s.4 in
          let n : get_or L s.0 0 ≢ 0 = omega arith in
          let t = count_rank (waits_in L) s.0 q.to s.2 (waiting L s.0 n) in
          (count (waits_in L) s.0, omega arith, omega arith, moved_place m (count (waits_in L) s.0) s.0 L L' (c.moved s.0 s.2 n) ∙ s.3);
      few = Q.few;
    }

-- begun later, past places that do not wait
pub later_keeps : (m f : ℕ) (cs : List Circuit) (R L : List ℕ) (q : Queue) → f ≤ q.to → ((x : ℕ) → q.from ≤ x → x < f → get_or L x 0 ≡ 0)
    → ((j : ℕ) → j < m → 1 ≤ (circuit cs j).first) → Queued m cs R L q → Queued m cs R L (record { from = f; to = q.to; many = q.many })
later_keeps m f cs R L q l none-waits up Q =
    record {
      ends = (l, Q.ends.1);
      places = Q.places;
      once = Q.once;
      rising = Q.rising;
      firsts = Q.firsts;
      lasts = Q.lasts;
      all = λ j h w.
          let s = waits_at m cs R L q j up Q h w in
          let s₄ = s.4 in
          (s.0, by_le f s.0 (λ i. i) (λ i. absurd (omega (arith, none-waits s.0 s.1 i))), s.2, s.3);
      few = Q.few;
    }

-- before the first cell that is a link, no place waits
pub none_before : (m from to f : ℕ) (L : List ℕ) → from ≤ to → to ≤ m → ((k : ℕ) → get_or L k 0 < 65536) → f ≡ seek (cell_within any_link (part 0 m L)) from (to - from)
    → (f ≤ to) × ((x : ℕ) → from ≤ x → x < f → get_or L x 0 ≡ 0)
unfolding cell_within within
none_before m from to f L h k fit e =
    let z : f ≤ to = omega (arith, seek_le (cell_within any_link (part 0 m L)) from (to - from)) in (
      z,
      λ x a b.
          let g : get_or (part 0 m L) x 0 ≡ get_or L x 0 = get_d_part 0 m L x 0 (omega arith) ∙ ap (λ (i : ℕ). get_or L i 0) (zero-add x) in
          by_eq (get_or L x 0) 0 (λ t. t)
          (λ t. clash (cell_within any_link (part 0 m L) x)
          (and_of _ _ (le-leb 1 (get_or (part 0 m L) x 0) (omega arith)) (le-leb (get_or (part 0 m L) x 0) 65535 (omega (arith, fit x))))
          (seek_miss (cell_within any_link (part 0 m L)) from (to - from) x a (omega arith))),
    )
