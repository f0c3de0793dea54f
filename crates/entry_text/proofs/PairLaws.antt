-- The files of a text from the parts that were written. Assumes nothing.
use Prim.Native.Nat.{ℕ, suc, ◌*◌, ◌≤◌}
use mathlib.Core.Bool.{Bool, true, false, cond}
use mathlib.Core.List.{List, ◌++◌}
use Rattle.std.specs.Prelude.{Option, None, Some, Result, Ok, Err}
use mathlib.Core.Path.{◌≡◌, ◌∙◌, sym, ap}
use native.Mathlib.Omega.{arith}
use lib.ListN.{length, take, drop, length-append}
use lib.Seq.{take-append_seam}
use Rattle.records.specs.Bytes.{set_cell}
use Rattle.records.specs.LineFiles.{line_bytes}
use Rattle.records.specs.Records.{file_of}
use Rattle.records.proofs.Files.{length_file_of}
use Rattle.records.proofs.Parts.{written_out}
use Rattle.text.specs.Wrote.{Wrote}
use Rattle.text.proofs.Writing.{within}
use Rattle.entry_text.specs.declared.Header.{Header}
use Rattle.entry_text.specs.declared.Entry.{Entry}
use Rattle.entry_text.specs.declared.Expected.TheVariants.{ShorterText}
use Rattle.entry_text.specs.declared.Wrong.{Wrong}
use Rattle.entry_text.specs.declared.lines.Opening.{Opening}
use Rattle.entry_text.specs.Entries.{header_from, too_long, read}
use Rattle.entry_text.specs.Entered.{entered, wrong, entry_by, entry_of, Enters}
use Rattle.entry_text.specs.Messages.{message_by, message_of}
use Rattle.entry_text.proofs.Headings.{same_ok}
use Rattle.entry_text.specs.Pair.{header_bytes, files_by, files_of, MadeOf}

-- two cells and the bytes behind them: the first four are the line's bytes with no grid
pub two_cells : (r r₁ r₂ : List ℕ) (n w grid : ℕ) → length r ≡ 6 → r₁ ≡ set_cell r 0 n → r₂ ≡ set_cell r₁ 1 w → take 4 r₂ ≡ line_bytes n w grid false
unfolding set_cell line_bytes
two_cells r r₁ r₂ n w grid h p q =
    ap (take 4) (q ∙ ap (λ (l : List ℕ). set_cell l 1 w) p) ∙ ap (λ (l : List ℕ). take 4 (set_cell (set_cell l 0 n) 1 w)) (written_out 6 r h)

-- three cells that fill six bytes are the line's bytes with the grid
pub three_cells : (r r₁ r₂ r₃ : List ℕ) (n w grid : ℕ) → length r ≡ 6 → r₁ ≡ set_cell r 0 n → r₂ ≡ set_cell r₁ 1 w → r₃ ≡ set_cell r₂ 2 grid → take 6 r₃ ≡ line_bytes n w grid true
unfolding set_cell line_bytes
three_cells r r₁ r₂ r₃ n w grid h p q t =
    ap (take 6) (t ∙ ap (λ (l : List ℕ). set_cell l 2 grid) (q ∙ ap (λ (l : List ℕ). set_cell l 1 w) p)
    ∙ ap (λ (l : List ℕ). set_cell (set_cell (set_cell l 0 n) 1 w) 2 grid) (written_out 6 r h))

-- what stands before the rest
front : (text rest : List ℕ) (n : ℕ) → n ≡ length text → take n (text ++ rest) ≡ text
front text rest n e = ap (λ (k : ℕ). take k (text ++ rest)) e ∙ take-append_seam text rest

-- the bytes of a text that was written are the text
pub taken_back : (text before after : List ℕ) (n : ℕ) → Wrote text n before after → take n after ≡ text
taken_back text before after n w = ap (take n) w.1 ∙ front text (drop n before) n w.0

-- an entry counts the circuits that were read
counts : (long : Bool) (found : Result Opening Wrong) (many : ℕ) (stopped : Option Wrong) (g : Header) (k : ℕ)
    → cond long (wrong 0 ShorterText) (entry_by found many stopped) ≡ entered g k → k ≡ many
counts true found many stopped g k e = absurd (let z : ◌≡◌ {A = ℕ} 0 1 = cc in omega arith)
counts false (Err w) many stopped g k e = absurd (let z : ◌≡◌ {A = ℕ} 0 1 = cc in omega arith)
counts false (Ok o) many None g k e = ap (λ (z : Entry). z.circuits) (sym (same_ok _ _ e))
counts false (Ok o) many (Some w) g k e = absurd (let z : ◌≡◌ {A = ℕ} 0 1 = cc in omega arith)

-- so does the answer for a text
pub counted : (s : List ℕ) (room : ℕ) (g : Header) (k : ℕ) (a : Result Entry Wrong) → a ≡ entry_of s room → a ≡ entered g k → k ≡ length (read s room).circuits
unfolding entry_of
counted s room g k a is told =
    counts (too_long s) (header_from (suc (length s)) s 0 1) (length (read s room).circuits) (read s room).stopped g k (sym is ∙ told)

-- their records are no more than the output
pub held : (s out₀ out : List ℕ) (room : ℕ) (g : Header) (k : ℕ) (a : Result Entry Wrong) → Enters s room out₀ a out → a ≡ entered g k → 8 * k ≤ length out
held s out₀ out room g k a e told =
    let cs = (read s room).circuits in
    omega (arith, counted s room g k a e.0 told, ap length e.1, length-append (file_of cs) (drop (8 * length cs) out₀), length_file_of cs)

-- what is said, by the answer for the text
said : (s before after : List ℕ) (a : Result Entry Wrong) (k : ℕ) → a ≡ entry_of s 2048 → Wrote (message_by s a) k before after → take k after ≡ message_of s
unfolding message_of
said s before after a k is w = taken_back (message_by s a) before after k w ∙ ap (message_by s) is

-- a text that was entered: both files, and what is said
pub made_both : (s line out₀ out before after : List ℕ) (room : ℕ) (g : Header) (b m k : ℕ) (a : Result Entry Wrong) → room ≡ 2048 → Enters s room out₀ a out → a ≡ entered g m
    → take b line ≡ header_bytes g → b ≤ length line
    → Wrote (message_by s a) k before after → length after ≡ length before
    → MadeOf s (record { files = Some (record { line = b; circuits = 8 * m }); message = k }) line out after
unfolding files_of files_by
made_both s line out₀ out before after room g b m k a r e told l short x same =
    let cs = (read s 2048).circuits in
    let is : a ≡ entry_of s 2048 = e.0 ∙ ap (entry_of s) r in
    let m' : m ≡ length cs = counted s 2048 g m a is told in
    let o : out ≡ file_of cs ++ drop (8 * length cs) out₀ = rw r at e.1 in
    let file : take (8 * m) out ≡ file_of cs = ap (take (8 * m)) o ∙ front (file_of cs) (drop (8 * length cs) out₀) (8 * m) (omega (arith, m', length_file_of cs)) in (
      (
        ap (λ (z : Result Entry Wrong). files_by z cs) (sym is ∙ told) ∙ rw (← l, ← file),
        short,
        held s out₀ out room g m a e told,
      ),
      said s before after a k is x,
      omega (arith, within (message_by s a) before after k x same, same),
    )

-- a text that is wrong: no file, and what is said
pub made_neither : (s line out₀ out before after : List ℕ) (room k : ℕ) (w : Wrong) (a : Result Entry Wrong) → room ≡ 2048 → Enters s room out₀ a out → a ≡ Err w
    → Wrote (message_by s a) k before after → length after ≡ length before → MadeOf s (record { files = None; message = k }) line out after
unfolding files_of files_by
made_neither s line out₀ out before after room k w a r e told y same =
    let is : a ≡ entry_of s 2048 = e.0 ∙ ap (entry_of s) r in (
      ap (λ (z : Result Entry Wrong). files_by z (read s 2048).circuits) (sym is ∙ told),
      said s before after a k is y,
      omega (arith, within (message_by s a) before after k y same, same),
    )
