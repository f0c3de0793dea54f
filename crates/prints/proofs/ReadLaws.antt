-- What programs that take a text leave unread of it changes nothing. Assumes nothing.
use Prim.Native.Nat.{ℕ, ◌≤◌}
use mathlib.Core.Path.{◌≡◌, ap, sym, ◌∙◌}
use mathlib.Core.List.{List}
use native.Mathlib.Omega.{arith}
use lib.ListN.{length, take}
use lib.Seq.{length-take-le, take_all}
use borrow.Author.Tests.{lt-ltb}
use Rattle.basics.proofs.Bools.{by_le}
use Rattle.entry_text.specs.declared.Expected.TheVariants.{ShorterText}
use Rattle.entry_text.specs.Entered.{entry_of}
use Rattle.entry_text.specs.Entries.{too_long}
use Rattle.entry_text.specs.Messages.{message_by, wrong_message}
use Rattle.prints.specs.Typed.{typed_text}

-- what is printed for a text that is too long does not depend on it
too_long_typed : (s : List ℕ) → 1048577 ≤ length s → typed_text s ≡ wrong_message s 0 ShorterText
unfolding typed_text entry_of too_long message_by
too_long_typed s h = rw (lt-ltb 1048576 (length s) (omega arith))

-- a byte more than the longest text tells all that its length can: the program reads no more, and prints what the whole text calls for
pub text_cut : (s : List ℕ) → typed_text (take 1048577 s) ≡ typed_text s
unfolding wrong_message
text_cut s =
    by_le (length s) 1048577
    (λ h. ap typed_text (take_all 1048577 s h))
    (λ h.
    let l = length-take-le 1048577 s (omega arith) in
    too_long_typed (take 1048577 s) (omega (arith, l)) ∙ sym (too_long_typed s (omega arith)))
