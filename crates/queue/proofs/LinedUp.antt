-- All circuits of a file, listed by rising number, wait. Assumes nothing.
use Prim.Native.Nat.{ℕ, ◌+◌, ◌*◌, ◌<◌}
use mathlib.Core.Path.{◌≡◌, ◌∙◌, sym}
use mathlib.Core.List.{List}
use native.Mathlib.Omega.{arith}
use lib.ListN.{get_or, replicate, get_or-replicate}
use lib.Dec.{eqb}
use Rattle.basics.specs.Tools.{part}
use Rattle.basics.proofs.Counts.{count_below}
use Rattle.basics.proofs.Tables.{get_d_part}
use Rattle.records.specs.declared.Circuit.{Circuit}
use Rattle.method.specs.Line.{circuit}
use Rattle.order.specs.Order.{Listed}
use Rattle.queue.specs.Queued.{place_in, Queued}

-- the places, as a column of the list
place_is : (m p : ℕ) (L : List ℕ) → p < m → get_or (part (2 * m) m L) p 0 ≡ place_in m L p
unfolding place_in
place_is m p L h = get_d_part (2 * m) m L p 0 h

-- the ends at a place, as the order has them
ends_at : (m p : ℕ) (cs : List Circuit) (L : List ℕ) → p < m → Listed m cs L
    → (get_or L p 0 ≡ (circuit cs (place_in m L p)).first) × (get_or L (m + p) 0 ≡ (circuit cs (place_in m L p)).last)
unfolding place_in
ends_at m p cs L h l = (l.firsts p h, l.lasts p h)

-- all wait
pub all_wait : (m : ℕ) (cs : List Circuit) (L : List ℕ) → Listed m cs L → Queued m cs (replicate m 0) L (record { from = 0; to = m; many = m })
all_wait m cs L l =
    let there = l.ordered.there in
    let at : (p : ℕ) → p < m → get_or (part (2 * m) m L) p 0 ≡ place_in m L p = λ p h. place_is m p L h in
    let places : (p : ℕ) → p < m → place_in m L p < m = λ p h. rw (← at p h) (there.places p h) in
    record {
      ends = (omega arith, omega arith);
      places = places;
      once = λ p q h k e. there.once p q h k (at p h ∙ e ∙ sym (at q k));
      rising = λ p q h k. rw (← at p (omega arith), ← at q k) (l.ordered.rising p q h k);
      firsts = λ p h. rw (get_or-replicate {A = ℕ} m (place_in m L p) 0 0 (places p h)) (ends_at m p cs L h l).0;
      lasts = λ p h. (ends_at m p cs L h l).1;
      all = λ j h w. let r = there.all j h in (r.0, omega arith, r.1, sym (at r.0 r.1) ∙ r.2);
      few = (count_below (λ j. eqb (get_or {A = ℕ} (replicate m 0) j 0) 0) m, omega arith);
    }
