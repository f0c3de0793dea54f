-- Lines, words and numbers, place by place. Assumes nothing.
use Prim.Native.Nat.{ℕ, ◌-◌, ◌<◌, ◌≤◌}
use mathlib.Core.Bool.{Bool, true, false}
use mathlib.Core.List.{List}
use mathlib.Core.Path.{◌≡◌, ◌∙◌, sym}
use lib.ListN.{length}
use lib.Dec.{eqb}
use native.Mathlib.Omega.{arith}
use Rattle.basics.specs.Tools.{seek}
use Rattle.basics.proofs.Bools.{by_le}
use Rattle.basics.proofs.Searches.{seek_ge, seek_le, seek_hit, seek_miss, seek_over}
use Rattle.entry_text.specs.Entries.{byte, line_end, word_from, word_to}

-- the place before which nothing passes and that passes itself, or the end, is the one that is sought
pub sought : (p : ℕ → Bool) (i e r : ℕ) → i ≤ r → r ≤ e → ((k : ℕ) → i ≤ k → k < r → false ≡ p k) → (r < e → true ≡ p r) → r ≡ seek p i (e - i)
sought p i e r a b misses hits =
    let l = seek_le p i (e - i) in
    by_le r (seek p i (e - i))
    (λ h. by_le (seek p i (e - i)) r (λ k. omega arith)
    (λ k. let y : true ≡ false = hits (omega arith) ∙ seek_miss p i (e - i) r a k in absurd (let z : ◌≡◌ {A = ℕ} 0 1 = cc in omega arith)))
    (λ k. let y : true ≡ false = sym (seek_hit p i (e - i) (omega arith)) ∙ sym (misses (seek p i (e - i)) (seek_ge p i (e - i)) k) in absurd (let z : ◌≡◌ {A = ℕ} 0 1 = cc in omega arith))

-- no more text: the line ends
pub line_over : (s : List ℕ) (i : ℕ) → length s ≤ i → line_end s i ≡ i
unfolding line_end
line_over s i h = seek_over _ i (length s) h

-- no more line: no word
pub from_over : (s : List ℕ) (i e : ℕ) → e ≤ i → word_from s i e ≡ i
unfolding word_from
from_over s i e h = seek_over _ i e h

-- no more line: the word ends
pub to_over : (s : List ℕ) (i e : ℕ) → e ≤ i → word_to s i e ≡ i
unfolding word_to
to_over s i e h = seek_over _ i e h

-- a line does not end before it starts
pub line_ge : (s : List ℕ) (i : ℕ) → i ≤ line_end s i
unfolding line_end
line_ge s i = seek_ge _ i (length s - i)

-- nor past the end of the text
pub line_le : (s : List ℕ) (i : ℕ) → i ≤ length s → line_end s i ≤ length s
unfolding line_end
line_le s i h = omega (arith, seek_le (λ x. eqb (byte s x) 10) i (length s - i))
