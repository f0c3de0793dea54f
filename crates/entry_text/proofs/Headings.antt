-- Where the header was found, and what `enter` answers then. Assumes nothing.
use Prim.Native.Nat.{ℕ, zero, suc, ◌+◌, ◌*◌, ◌<◌, ◌≤◌}
use mathlib.Core.List.{List, ◌++◌}
use Rattle.std.specs.Prelude.{Option, None, Some, Result, Ok, Err}
use mathlib.Core.Path.{◌≡◌, ◌∙◌, sym, ap, refl, subst}
use native.Mathlib.Omega.{arith}
use lib.ListN.{length, drop}
use lib.Dec.{leb}
use borrow.Author.Tests.{leb-false, lt-ltb, le-ltb}
use Rattle.basics.proofs.Bools.{on}
use Rattle.records.specs.Records.{file_of}
use Rattle.entry_text.specs.declared.Header.{Header}
use Rattle.entry_text.specs.declared.Entry.{Entry}
use Rattle.entry_text.specs.declared.Expected.TheVariants.{HeaderLine, ShorterText}
use Rattle.entry_text.specs.declared.Wrong.{Wrong}
use Rattle.entry_text.specs.declared.lines.Opening.{Opening}
use Rattle.entry_text.specs.Entries.{Reading, headed, found_by, line_end, idle_line, header_in, header_from, circuits_from, read, too_long}
use Rattle.entry_text.specs.Entered.{entered, wrong, entry_by, entry_of, Enters}
use Rattle.entry_text.specs.inner.Told.{ending, ending_by}
use Rattle.entry_text.proofs.Places.{line_ge, line_le}

-- two answers are the same: so is what they hold
pub same_ok : {A B : Type 0} (x y : A) → ◌≡◌ {A = Result A B} (Ok x) (Ok y) → x ≡ y
same_ok x y e = cc

-- and so are two errors
pub same_err : {A B : Type 0} (x y : B) → ◌≡◌ {A = Result A B} (Err x) (Err y) → x ≡ y
same_err x y e = cc

-- the next line starts at most one past the end of the text, and its number is at most one more than where it starts; else the header was expected
abbrev pub Within : List ℕ → Result Opening Wrong → Type 0
Within s (Err w) = w.expected ≡ HeaderLine
Within s (Ok o) = (o.next ≤ length s + 1) × (o.line ≤ o.next + 1)

-- so it is of a line that counts
pub found_within : (s : List ℕ) (e l : ℕ) (o : Option Header) → e ≤ length s → l ≤ e + 1 → Within s (found_by (suc e) l o)
found_within s e l None a b = refl
found_within s e l (Some h) a b = (omega arith, omega arith)

-- and of all lines
pub header_within : (f : ℕ) (s : List ℕ) (i l : ℕ) → l ≤ i + 1 → Within s (header_from f s i l)
unfolding header_from
header_within zero s i l h = refl
header_within (suc f) s i l h =
    on (leb (length s) i) (λ q. rw q refl)
    (λ q.
    let a : i < length s = leb-false (length s) i q in
    let b = line_ge s i in
    let d = line_le s i (omega arith) in
    on (idle_line s i (line_end s i)) (λ t. rw (q, t) (header_within f s (suc (line_end s i)) (suc l) (omega arith)))
    (λ t. rw (q, t) (found_within s (line_end s i) l (header_in s i (line_end s i)) d (omega arith))))

-- and of the header that was found
pub told_within : (s : List ℕ) (o : Opening) → header_from (suc (length s)) s 0 1 ≡ Ok o → (o.next ≤ length s + 1) × (o.line ≤ o.next + 1)
told_within s o q = subst (Within s) q (header_within (suc (length s)) s 0 1 (omega arith))

-- where there is none, it was expected
pub told_lacking : (s : List ℕ) (w : Wrong) → header_from (suc (length s)) s 0 1 ≡ Err w → w.expected ≡ HeaderLine
told_lacking s w q = subst (Within s) q (header_within (suc (length s)) s 0 1 (omega arith))

-- for a text that is too long
pub right_long : (s : List ℕ) (room : ℕ) (out : List ℕ) → 1048576 < length s → Enters s room out (wrong 0 ShorterText) out
unfolding entry_of read too_long file_of
right_long s room out h = let t = lt-ltb 1048576 (length s) h in (rw t, rw t)

-- for a text with no header
pub right_headless : (s : List ℕ) (room : ℕ) (out : List ℕ) (w : Wrong) → length s ≤ 1048576 → header_from (suc (length s)) s 0 1 ≡ Err w → Enters s room out (Err w) out
unfolding entry_of read too_long file_of
right_headless s room out w h q =
    let t = le-ltb 1048576 (length s) h in
    (rw (t, q), rw (t, q))

-- what is read of a text with a header
pub read_as : (s : List ℕ) (room : ℕ) (g : Header) (i l : ℕ) → length s ≤ 1048576 → header_from (suc (length s)) s 0 1 ≡ headed g i l → read s room ≡ circuits_from (suc (length s)) s i l room
unfolding read too_long
read_as s room g i l h f = rw (le-ltb 1048576 (length s) h, f)

-- what is answered for it
pub entry_as : (s : List ℕ) (room : ℕ) (g : Header) (i l : ℕ) → length s ≤ 1048576 → header_from (suc (length s)) s 0 1 ≡ headed g i l
    → entry_of s room ≡ entry_by (headed g i l) (length (circuits_from (suc (length s)) s i l room).circuits) (circuits_from (suc (length s)) s i l room).stopped
unfolding entry_of too_long
entry_as s room g i l h f = rw (le-ltb 1048576 (length s) h, f, read_as s room g i l h f)

-- the answer from how reading ended
abbrev pub answer_from : Header → Result ℕ Wrong → Result Entry Wrong
answer_from g (Ok m) = entered g m
answer_from g (Err w) = Err w

-- it is the answer by what was found
pub answer_from_lem : (o : Opening) (many : ℕ) (stop : Option Wrong) → answer_from o.header (ending_by many stop) ≡ entry_by (Ok o) many stop
answer_from_lem o many None = refl
answer_from_lem o many (Some w) = refl

-- for a text with a header
pub right_read : (s : List ℕ) (room : ℕ) (out₀ out : List ℕ) (o : Opening) (e : Result ℕ Wrong) → length s ≤ 1048576 → header_from (suc (length s)) s 0 1 ≡ Ok o
    → e ≡ ending (circuits_from (suc (length s)) s o.next o.line room)
    → out ≡ file_of (circuits_from (suc (length s)) s o.next o.line room).circuits ++ drop (8 * length (circuits_from (suc (length s)) s o.next o.line room).circuits) out₀
    → Enters s room out₀ (answer_from o.header e) out
right_read s room out₀ out o e h f x y =
    let rest = circuits_from (suc (length s)) s o.next o.line room in (
      ap (answer_from o.header) x ∙ answer_from_lem o (length rest.circuits) rest.stopped ∙ sym (entry_as s room o.header o.next o.line h f),
      y ∙ ap (λ (t : Reading). file_of t.circuits ++ drop (8 * length t.circuits) out₀) (sym (read_as s room o.header o.next o.line h f)),
    )
