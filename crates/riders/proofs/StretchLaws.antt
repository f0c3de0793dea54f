-- What the question answers, case by case. Assumes nothing.
use Prim.Native.Nat.{ℕ, ◌+◌, ◌-◌, ◌≤◌, ◌<◌}
use mathlib.Core.Path.{◌≡◌, ap₂}
use mathlib.Core.Bool.{◌&&◌}
use mathlib.Core.List.{List}
use native.Mathlib.Omega.{arith}
use lib.Dec.{leb, ltb}
use lib.ListN.{length, get_or}
use borrow.Author.Tests.{le-leb, lt-leb, lt-ltb, le-ltb, leb-true}
use Rattle.basics.proofs.Bools.{on, and_l, and_r}
use Rattle.riders.specs.Index.{nowhere, between, stretch_at}

module _ (n i : ℕ) (cells : List ℕ) where
  -- link 0
  pub no_link : i < 1 → nowhere ≡ stretch_at n i cells
  unfolding stretch_at
  no_link h = rw (lt-leb 1 i h)

  -- a link past the line
  pub past_line : 1 ≤ i → n < i → nowhere ≡ stretch_at n i cells
  unfolding stretch_at
  past_line g h = rw (le-leb 1 i g, lt-leb i n h)

  -- a buffer too short for its starts
  pub too_short : 1 ≤ i → i ≤ n → length cells ≤ n → nowhere ≡ stretch_at n i cells
  unfolding stretch_at
  too_short g h l = rw (le-leb 1 i g, le-leb i n h, le-ltb n (length cells) l)

  -- a link of the line, in a buffer with room for its starts: from one start to before the next
  pub from_to : (a e : ℕ) → 1 ≤ i → i ≤ n → n < length cells → a ≡ get_or cells (i - 1) 0 → e ≡ get_or cells i 0 → between cells a e ≡ stretch_at n i cells
  unfolding stretch_at
  from_to a e g h l p q = rw (le-leb 1 i g, le-leb i n h, lt-ltb n (length cells) l) (ap₂ (between cells) p q)

-- starts that fall
pub starts_fall : (cells : List ℕ) (a e : ℕ) → e < a → nowhere ≡ between cells a e
unfolding between
starts_fall cells a e h = rw (lt-leb a e h)

-- starts that lead past the buffer
pub lead_past : (cells : List ℕ) (a e : ℕ) → a ≤ e → length cells < e → nowhere ≡ between cells a e
unfolding between
lead_past cells a e h l = rw (le-leb a e h, lt-leb e (length cells) l)

-- starts that rise and lead to the end of the buffer at most
pub part_between : (cells : List ℕ) (a e : ℕ) → a ≤ e → e ≤ length cells → record { start = a; length = e - a } ≡ between cells a e
unfolding between
part_between cells a e h l = rw (le-leb a e h, le-leb e (length cells) l)

-- what is between two starts is within the buffer
between_within : (cells : List ℕ) (a e : ℕ) → (between cells a e).start + (between cells a e).length ≤ length cells
unfolding between
between_within cells a e =
    on (leb a e && leb e (length cells))
    (λ t. rw t (omega (arith, leb-true a e (and_l _ _ t), leb-true e (length cells) (and_r (leb a e) _ t))))
    (λ t. rw t (omega arith))

-- a stretch is within the buffer
pub stretch_within : (n i : ℕ) (cells : List ℕ) → (stretch_at n i cells).start + (stretch_at n i cells).length ≤ length cells
unfolding stretch_at
stretch_within n i cells =
    on (leb 1 i && leb i n && ltb n (length cells))
    (λ t. rw t (between_within cells (get_or cells (i - 1) 0) (get_or cells i 0)))
    (λ t. rw t (omega arith))
