-- What the tests of a cell say, and how a search goes on. Assumes nothing.
use Rattle.std.proofs.Common.{◌≡◌, ℕ, ◌+◌, ◌-◌, ◌*◌, ◌%◌, ◌<◌, ◌≤◌, Bool, true, false, ◌&&◌, ◌||◌, add-one, refl, leb, List, length, sym, ap, ◌∙◌, arith, le-leb}
use borrow.Author.Tests.{lt-leb}
use Rattle.basics.specs.Tools.{any, seek}
use Rattle.basics.proofs.Bools.{and_false, and_of, by_le}
use Rattle.basics.proofs.Searches.{seek_here, seek_onward, seek_over, seek_skip}
use Rattle.records.specs.Bytes.{cell, cells_of}
use Rattle.records.proofs.CellLaws.{cell_is}
use Rattle.scans.specs.declared.Bounds.{Bounds}
use Rattle.scans.specs.inner.Chunks.{CameTo}
use Rattle.scans.specs.Scans.{both_within, cell_within, within}

-- not below the bounds, and not above them
pub within_hit : (b : Bounds) (x : ℕ) → b.low ≤ x → x ≤ b.high → within b x ≡ true
unfolding within
within_hit b x l h = and_of _ _ (le-leb _ _ l) (le-leb _ _ h)

-- below the bounds
pub within_below : (b : Bounds) (x : ℕ) → x < b.low → within b x ≡ false
unfolding within
within_below b x l = rw (lt-leb b.low x l)

-- above the bounds
pub within_above : (b : Bounds) (x : ℕ) → b.high < x → within b x ≡ false
unfolding within
within_above b x h = rw (lt-leb x b.high h) (and_false (leb b.low x))

-- the wrapping difference to the lower bound is small just where a number lies within the bounds
pub within_wraps : (b : Bounds) (x d : ℕ) → b.low ≤ b.high → b.high < 65536 → d < 65536 → (d + b.low) % 65536 ≡ x → leb d (b.high - b.low) ≡ within b x
within_wraps b x d o h f e =
    by_le b.low x
    (λ l. by_le x b.high
    (λ r. le-leb d (b.high - b.low) (omega arith) ∙ sym (within_hit b x l r))
    (λ r. lt-leb d (b.high - b.low) (omega arith) ∙ sym (within_above b x r)))
    (λ l. lt-leb d (b.high - b.low) (omega arith) ∙ sym (within_below b x l))

-- what is read as cell i lies within the bounds where cell i does
pub read_within : (b : Bounds) (s : List ℕ) (i x : ℕ) → 2 * i + 1 < length s → x ≡ cell s i → cell_within b (cells_of s) i ≡ within b x
unfolding cell_within
read_within b s i x h e = ap (within b) (sym (e ∙ cell_is s i h))

-- the same of a cell in each of two columns
pub read_both : (a b : Bounds) (s t : List ℕ) (p x y : ℕ) → 2 * p + 1 < length s → 2 * p + 1 < length t → x ≡ cell s p → y ≡ cell t p → both_within a b (cells_of s) (cells_of t) p ≡ within a x && within b y
unfolding both_within
read_both a b s t p x y h k e f = rw (read_within a s p x h e, read_within b t p y k f)

-- r tells that none of the next k places passes: it has come to place i + k
pub came_skip : (p : ℕ → Bool) (from to i k : ℕ) (r : Bool) → CameTo p from to i → i + k ≤ to → r ≡ any (λ x. p (i + x)) k → r ≡ false → CameTo p from to (i + k)
came_skip p from to i k r c h e q = (omega (arith, c.0), h, sym (seek_skip p i k to h (sym e ∙ q)) ∙ c.2)

-- place i passes: it is found
pub came_here : (p : ℕ → Bool) (from to i : ℕ) → CameTo p from to i → i < to → p i ≡ true → i ≡ seek p from (to - from)
came_here p from to i c h q = sym (seek_here p i to h q) ∙ c.2

-- place i does not pass: it has come to the next
pub came_past : (p : ℕ → Bool) (from to i : ℕ) → CameTo p from to i → i < to → p i ≡ false → CameTo p from to (i + 1)
came_past p from to i c h q = (omega (arith, c.0), omega arith, sym (seek_onward p i to h q) ∙ c.2)

-- no place is left: none was found
pub came_over : (p : ℕ → Bool) (from to i : ℕ) → CameTo p from to i → to ≤ i → to ≡ seek p from (to - from)
came_over p from to i c h = let m = c.1 in let e : to ≡ i = omega arith in e ∙ sym (seek_over p i to h) ∙ c.2

-- place m is looked at too
pub any_more : (p : ℕ → Bool) (m : ℕ) (h r : Bool) → h ≡ any p m → r ≡ p m → h || r ≡ any p (m + 1)
unfolding any
any_more p m h r e f = rw (add-one m, ← e, ← f) (or_swap h r)
  where
    or_swap : (a b : Bool) → a || b ≡ b || a
    or_swap true true = refl
    or_swap true false = refl
    or_swap false true = refl
    or_swap false false = refl
