-- The line of a record says that record, and the line that is told as wrong says none. Assumes nothing.
use Prim.Native.Nat.{ℕ, zero, suc, ◌+◌, ◌-◌, ◌<◌, ◌≤◌}
use mathlib.Core.Bool.{Bool, true, false, cond}
use mathlib.Core.List.{List}
use Rattle.std.specs.Prelude.{Option, None, Some, Result, Ok, Err}
use mathlib.Core.Path.{◌≡◌, ◌∙◌, sym, ap, refl, subst}
use native.Mathlib.Numerals.{add-one}
use native.Mathlib.Omega.{arith}
use lib.ListN.{length, get_or}
use lib.Dec.{ltb}
use borrow.Author.Tests.{lt-ltb, le-ltb, ltb-false}
use Rattle.basics.proofs.Bools.{on, by_le}
use Rattle.records.specs.LineFiles.{line_bytes, line_in}
use Rattle.records.specs.declared.Circuit.{Circuit}
use Rattle.records.proofs.Inverse.{line_read_written}
use Rattle.entry_text.specs.declared.Header.{Header}
use Rattle.entry_text.specs.declared.Entry.{Entry}
use Rattle.entry_text.specs.declared.Expected.{Expected}
use Rattle.entry_text.specs.declared.Expected.TheVariants.{HeaderLine, CircuitLine, NoMoreCircuits, ShorterText}
use Rattle.entry_text.specs.declared.Wrong.{Wrong}
use Rattle.entry_text.specs.declared.lines.Opening.{Opening}
use Rattle.entry_text.specs.Entries.{Reading, headed, headless, found_by, line_end, idle_line, word_number, numeral_in, header, header_in, header_from, circuit_in, circuits_from, too_long, read}
use Rattle.entry_text.specs.Entered.{entered, wrong, entry_by, entry_of}
use Rattle.entry_text.specs.Lines.{next_line, after_lines, line_start, counting_line, line_of_record, header_line}
use Rattle.entry_text.specs.Pair.{grid_of, is_named, header_bytes}
use Rattle.entry_text.proofs.Places.{line_ge, line_over, from_over, to_over}
use Rattle.entry_text.proofs.Readings.{header_over, header_idle, header_here, circuits_over, circuits_idle, circuits_wrong, circuits_full, circuits_more}
use Rattle.entry_text.proofs.Headings.{same_ok, same_err, told_lacking, read_as}
use Rattle.entry_text.proofs.LineLaws.{counting_idle, counting_here, counting_more, line_turn}
use Rattle.entry_text.proofs.PairLaws.{counted}

-- a walk over the lines is at i, where the line numbered l starts, or both are past the text
abbrev Numbered : List ℕ → ℕ → ℕ → Type 0
Numbered s i l = (1 ≤ l) × (i < length s → i ≡ line_start s l) × (length s ≤ i → length s ≤ line_start s l)

-- the line numbered l says the circuit c
abbrev SaysCircuit : List ℕ → ℕ → Circuit → Type 0
SaysCircuit s l c = (1 ≤ l) × (circuit_in s (line_start s l) (line_end s (line_start s l)) ≡ Some c)

-- the line numbered l says the header h
abbrev SaysHeader : List ℕ → ℕ → Header → Type 0
SaysHeader s l h = (1 ≤ l) × (header_in s (line_start s l) (line_end s (line_start s l)) ≡ Some h)

-- where a walk goes on past the text, the next line does not start before the text ends
next_past : (s : List ℕ) (i : ℕ) → length s ≤ line_end s i + 1 → length s ≤ next_line s i
unfolding next_line
next_past s i h = on (ltb (line_end s i) (length s)) (λ t. rw t (omega arith)) (λ t. rw t (omega arith))

-- a walk that passes a line stays with the line's number
numbered_next : (s : List ℕ) (i l : ℕ) → i < length s → Numbered s i l → Numbered s (line_end s i + 1) (l + 1)
unfolding line_start next_line
numbered_next s i l b n =
    let a = n.0 in
    let e : l + 1 - 1 ≡ l - 1 + 1 = omega arith in (
      omega arith,
      λ k.
          let j : line_end s i + 1 ≡ next_line s i = rw (lt-ltb (line_end s i) (length s) (omega arith), add-one (line_end s i)) in
          rw e (line_turn s (l - 1) i (line_end s i + 1) (n.1 b) j),
      λ k. rw (e, ← line_turn s (l - 1) i (next_line s i) (n.1 b) refl) (next_past s i k),
    )

-- a walk over the lines starts with line 1
numbered_first : (s : List ℕ) → Numbered s 0 1
unfolding line_start after_lines
numbered_first s = (omega arith, λ b. refl, λ b. b)

-- a line that counts after the header: the circuit on it is the one that was read there, if those after it are
circuit_here : (f g : ℕ) (s : List ℕ) (i l room k : ℕ) (d : Circuit) (o : Option Circuit) → 0 < g → i < length s → idle_line s i (line_end s i) ≡ false → circuit_in s i (line_end s i) ≡ o → Numbered s i l
    → ((r j : ℕ) → j < length (circuits_from f s (line_end s i + 1) (l + 1) r).circuits
    → SaysCircuit s (counting_line (g - 1) s (line_end s i + 1) (l + 1) j) (get_or (circuits_from f s (line_end s i + 1) (l + 1) r).circuits j d))
    → k < length (circuits_from (suc f) s i l room).circuits
    → SaysCircuit s (counting_line g s i l k) (get_or (circuits_from (suc f) s i l room).circuits k d)
circuit_here f g s i l room k d None p b t q n more h =
    let z : k < 0 = rw (circuits_wrong (suc f) f s i l room (line_end s i) refl b refl t q) at h in absurd (omega arith)
circuit_here f g s i l zero k d (Some c) p b t q n more h =
    let z : k < 0 = rw (circuits_full (suc f) f s i l 0 (line_end s i) c refl b refl t q refl) at h in absurd (omega arith)
circuit_here f g s i l (suc r) zero d (Some c) p b t q n more h =
    rw (circuits_more (suc f) f s i l (suc r) r (line_end s i) c refl b refl t q refl, counting_here g (g - 1) s i l 0 (line_end s i) (omega arith) b refl t refl)
    (n.0, rw (← n.1 b) q)
circuit_here f g s i l (suc r) (suc j) d (Some c) p b t q n more h =
    let x = circuits_more (suc f) f s i l (suc r) r (line_end s i) c refl b refl t q refl in
    let y = counting_more g (g - 1) s i l (suc j) (line_end s i) (omega arith) b refl t (λ w. omega arith) in
    let e : suc j - 1 ≡ j = omega arith in
    let z : suc j < suc (length (circuits_from f s (line_end s i + 1) (l + 1) r).circuits) = rw x at h in
    rw (x, y, e) (more r j (omega arith))

-- circuit k of those that are read from a line on stands where the lines that count are counted to k
circuit_says : (f g : ℕ) (s : List ℕ) (i l room k : ℕ) (d : Circuit) → length s < i + f → length s < i + g → Numbered s i l → k < length (circuits_from f s i l room).circuits
    → SaysCircuit s (counting_line g s i l k) (get_or (circuits_from f s i l room).circuits k d)
circuit_says zero g s i l room k d u v n h =
    let z : k < 0 = rw (circuits_over 0 s i l room (omega arith)) at h in absurd (omega arith)
circuit_says (suc f) g s i l room k d u v n h =
    by_le (length s) i
    (λ o. let z : k < 0 = rw (circuits_over (suc f) s i l room o) at h in absurd (omega arith))
    (λ b.
    let a = line_ge s i in
    let m = numbered_next s i l b n in
    on (idle_line s i (line_end s i))
    (λ t.
    let x = circuits_idle (suc f) f s i l room (line_end s i) refl b refl t in
    let y = counting_idle g (g - 1) s i l k (line_end s i) (omega arith) b refl t in
    rw (x, y) (circuit_says f (g - 1) s (line_end s i + 1) (l + 1) room k d (omega arith) (omega arith) m (rw x at h)))
    (λ t.
    circuit_here f g s i l room k d (circuit_in s i (line_end s i)) (omega arith) b t refl n
    (λ r j. circuit_says f (g - 1) s (line_end s i + 1) (l + 1) r j d (omega arith) (omega arith) m) h))

-- the header is on the line that counts first, the circuits that are read after it are on those that count after it, and the walk goes on at a line with its number
abbrev Says : List ℕ → ℕ → ℕ → ℕ → Circuit → Header → ℕ → ℕ → Type 0
Says s g i l d h j m =
    (SaysHeader s (counting_line g s i l 0) h)
    × ((room k : ℕ) → k < length (circuits_from (suc (length s)) s j m room).circuits
    → SaysCircuit s (counting_line g s i l (suc k)) (get_or (circuits_from (suc (length s)) s j m room).circuits k d))
    × (Numbered s j m)

-- so it is where the walk is at the header's line
heading_here : (g : ℕ) (s : List ℕ) (i l : ℕ) (d : Circuit) (h : Header) (j m : ℕ) (o : Option Header) → length s < i + g → i < length s → idle_line s i (line_end s i) ≡ false → header_in s i (line_end s i) ≡ o
    → Numbered s i l → found_by (suc (line_end s i)) l o ≡ headed h j m → Says s g i l d h j m
heading_here g s i l d h j m None v b t q n e = absurd (let z : ◌≡◌ {A = ℕ} 0 1 = cc in omega arith)
heading_here g s i l d h j m (Some x) v b t q n e =
    let y = same_ok _ _ e in
    let xh : x ≡ h = ap (λ (z : Opening). z.header) y in
    let ij : suc (line_end s i) ≡ j = ap (λ (z : Opening). z.next) y in
    let lm : suc l ≡ m = ap (λ (z : Opening). z.line) y in
    let a = line_ge s i in
    rw (← ij, ← lm, ← xh, ← add-one (line_end s i), ← add-one l) (
      rw (counting_here g (g - 1) s i l 0 (line_end s i) (omega arith) b refl t refl) (n.0, rw (← n.1 b) q),
      λ room k u.
          let y = counting_more g (g - 1) s i l (suc k) (line_end s i) (omega arith) b refl t (λ w. omega arith) in
          let e : suc k - 1 ≡ k = omega arith in
          rw (y, e) (circuit_says (suc (length s)) (g - 1) s (line_end s i + 1) (l + 1) room k d (omega arith) (omega arith) (numbered_next s i l b n) u),
      numbered_next s i l b n,
    )

-- so it is where the walk is at any line before it
heading_says : (f g : ℕ) (s : List ℕ) (i l : ℕ) (d : Circuit) (h : Header) (j m : ℕ) → length s < i + g → Numbered s i l → header_from f s i l ≡ headed h j m → Says s g i l d h j m
unfolding header_from
heading_says zero g s i l d h j m v n e = absurd (let z : ◌≡◌ {A = ℕ} 0 1 = cc in omega arith)
heading_says (suc f) g s i l d h j m v n e =
    by_le (length s) i
    (λ o. let x : headless l ≡ headed h j m = sym (header_over (suc f) s i l o) ∙ e in absurd (let z : ◌≡◌ {A = ℕ} 0 1 = cc in omega arith))
    (λ b.
    let a = line_ge s i in
    on (idle_line s i (line_end s i))
    (λ t.
    let r = heading_says f (g - 1) s (line_end s i + 1) (l + 1) d h j m (omega arith) (numbered_next s i l b n) (sym (header_idle (suc f) f s i l (line_end s i) refl b refl t) ∙ e) in (
      rw (counting_idle g (g - 1) s i l 0 (line_end s i) (omega arith) b refl t) r.0,
      λ room k u. rw (counting_idle g (g - 1) s i l (suc k) (line_end s i) (omega arith) b refl t) (r.1 room k u),
      r.2,
    ))
    (λ t. heading_here g s i l d h j m (header_in s i (line_end s i)) v b t refl n (sym (header_here (suc f) f s i l (line_end s i) refl b refl t) ∙ e)))

-- an entry tells that the text is not too long and has a header
by_entry : {C : Type 0} (long : Bool) (found : Result Opening Wrong) (many : ℕ) (stopped : Option Wrong) (g : Header) (m : ℕ) → cond long (wrong 0 ShorterText) (entry_by found many stopped) ≡ entered g m
    → ((i l : ℕ) → long ≡ false → found ≡ headed g i l → C) → C
by_entry true found many stopped g m e go = absurd (let z : ◌≡◌ {A = ℕ} 0 1 = cc in omega arith)
by_entry false (Err w) many stopped g m e go = absurd (let z : ◌≡◌ {A = ℕ} 0 1 = cc in omega arith)
by_entry false (Ok o) many None g m e go = let a : o.header ≡ g = ap (λ (z : Entry). z.header) (same_ok _ _ e) in go o.next o.line refl (rw (← a))
by_entry false (Ok o) many (Some w) g m e go = absurd (let z : ◌≡◌ {A = ℕ} 0 1 = cc in omega arith)

-- what the lines of a text say that is entered: the header's line the header, and the line of circuit k + 1 the circuit that was read at k
lines_say : (s : List ℕ) (room : ℕ) (g : Header) (m : ℕ) (d : Circuit) → entry_of s room ≡ entered g m
    → (SaysHeader s (header_line s) g) × ((k : ℕ) → k < m → SaysCircuit s (line_of_record s (suc k)) (get_or (read s room).circuits k d))
unfolding entry_of line_of_record too_long
lines_say s room g m d e =
    by_entry (too_long s) (header_from (suc (length s)) s 0 1) (length (read s room).circuits) (read s room).stopped g m e
    (λ i l long found.
    let r = read_as s room g i l (ltb-false 1048576 (length s) long) found in
    let x = heading_says (suc (length s)) (suc (length s)) s 0 1 d g i l (omega arith) (numbered_first s) found in (
      x.0,
      λ k h. rw r (x.1 room k (let y = counted s room g m (entry_of s room) refl e in let z = ap (λ (t : Reading). length t.circuits) r in omega arith)),
    ))

-- the line of circuit k + 1 says the circuit that was read at k
pub line_says : (s : List ℕ) (room : ℕ) (g : Header) (m k : ℕ) (d : Circuit) → entry_of s room ≡ entered g m → k < m
    → circuit_in s (line_start s (line_of_record s (suc k))) (line_end s (line_start s (line_of_record s (suc k)))) ≡ Some (get_or (read s room).circuits k d)
line_says s room g m k d e h = ((lines_say s room g m d e).1 k h).1

-- that line has a number, counted from 1
pub line_counts : (s : List ℕ) (room : ℕ) (g : Header) (m k : ℕ) → entry_of s room ≡ entered g m → k < m → 1 ≤ line_of_record s (suc k)
line_counts s room g m k e h = ((lines_say s room g m (record { number = 0; first = 0; last = 0 }) e).1 k h).0

-- the header's line says the header
pub header_says : (s : List ℕ) (room : ℕ) (g : Header) (m : ℕ) → entry_of s room ≡ entered g m
    → header_in s (line_start s (header_line s)) (line_end s (line_start s (header_line s))) ≡ Some g
header_says s room g m e = (lines_say s room g m (record { number = 0; first = 0; last = 0 }) e).0.1

-- the line's file of a header says what the header says
header_file_says : (g : Header) → line_in (header_bytes g) ≡ Some (record { links = g.n; wavelengths = g.w; grid = grid_of g.grid })
unfolding header_bytes
header_file_says g = by_grid g.grid
  where
    by_grid : (grid : Option ℕ) → line_in (line_bytes g.n g.w (grid_of grid) (is_named grid)) ≡ Some (record { links = g.n; wavelengths = g.w; grid = grid_of grid })
    by_grid None = line_read_written g.n g.w 1 false (λ e. refl)
    by_grid (Some grid) = line_read_written g.n g.w grid true (λ e. absurd (let x : ◌≡◌ {A = ℕ} 0 1 = cc in omega arith))

-- so does that of a text that is entered
pub line_file_says : (s : List ℕ) (room : ℕ) (g : Header) (m : ℕ) → entry_of s room ≡ entered g m
    → line_in (header_bytes g) ≡ Some (record { links = g.n; wavelengths = g.w; grid = grid_of g.grid })
line_file_says s room g m e = header_file_says g

-- past the text no line says a header
no_header : (s : List ℕ) (i : ℕ) → length s ≤ i → header_in s i (line_end s i) ≡ None
unfolding header_in word_number numeral_in
no_header s i h = rw (line_over s i h, from_over s i i (omega arith), to_over s i i (omega arith), le-ltb i i (omega arith))

-- a line that counts and is told as wrong for a header says none
headless_here : (s : List ℕ) (i l m : ℕ) (o : Option Header) → i ≡ line_start s l → header_in s i (line_end s i) ≡ o → found_by (suc (line_end s i)) l o ≡ headless m
    → header_in s (line_start s m) (line_end s (line_start s m)) ≡ None
headless_here s i l m None n q e = let y : l ≡ m = ap (λ (z : Wrong). z.line) (same_err _ _ e) in rw (← y, ← n) q
headless_here s i l m (Some h) n q e = absurd (let z : ◌≡◌ {A = ℕ} 0 1 = cc in omega arith)

-- where no line is left, the line told says none
headless_over : (f : ℕ) (s : List ℕ) (i l m : ℕ) → length s ≤ i → Numbered s i l → header_from f s i l ≡ headless m → header_in s (line_start s m) (line_end s (line_start s m)) ≡ None
headless_over f s i l m o n e =
    let x : headless l ≡ headless m = sym (header_over f s i l o) ∙ e in
    let y : l ≡ m = ap (λ (z : Wrong). z.line) (same_err _ _ x) in
    rw (← y) (no_header s (line_start s l) (n.2 o))

-- where no header was found, the line told says none
headless_says : (f : ℕ) (s : List ℕ) (i l m : ℕ) → length s < i + f → Numbered s i l → header_from f s i l ≡ headless m → header_in s (line_start s m) (line_end s (line_start s m)) ≡ None
headless_says zero s i l m v n e = headless_over 0 s i l m (omega arith) n e
headless_says (suc f) s i l m v n e =
    by_le (length s) i
    (λ o. headless_over (suc f) s i l m o n e)
    (λ b.
    let a = line_ge s i in
    on (idle_line s i (line_end s i))
    (λ t. headless_says f s (line_end s i + 1) (l + 1) m (omega arith) (numbered_next s i l b n) (sym (header_idle (suc f) f s i l (line_end s i) refl b refl t) ∙ e))
    (λ t. headless_here s i l m (header_in s i (line_end s i)) (n.1 b) refl (sym (header_here (suc f) f s i l (line_end s i) refl b refl t) ∙ e)))

-- whether what was expected was on a line that could not be read
abbrev Unread : Expected → Type 0
Unread HeaderLine = Unit
Unread CircuitLine = Unit
Unread NoMoreCircuits = ◌≡◌ {A = ℕ} 0 1
Unread ShorterText = ◌≡◌ {A = ℕ} 0 1

-- reading stopped for a line on which a circuit was expected and that says none
abbrev SaysNone : List ℕ → Wrong → Type 0
SaysNone s p = (p.expected ≡ CircuitLine) × (circuit_in s (line_start s p.line) (line_end s (line_start s p.line)) ≡ None)

-- so it is where reading stops at a line that counts, but for want of room
stop_here : (f : ℕ) (s : List ℕ) (i l room : ℕ) (p : Wrong) (o : Option Circuit) → i < length s → idle_line s i (line_end s i) ≡ false → circuit_in s i (line_end s i) ≡ o → i ≡ line_start s l → Unread p.expected
    → ((r : ℕ) → (circuits_from f s (line_end s i + 1) (l + 1) r).stopped ≡ Some p → SaysNone s p) → (circuits_from (suc f) s i l room).stopped ≡ Some p → SaysNone s p
stop_here f s i l room p None b t q n u more e =
    let z : Some (record { line = l; expected = CircuitLine }) ≡ Some p = rw (circuits_wrong (suc f) f s i l room (line_end s i) refl b refl t q) at e in
    let y : record { line = l; expected = CircuitLine } ≡ p = cc in
    rw (← y) (refl, rw (← n) q)
stop_here f s i l zero p (Some c) b t q n u more e =
    let z : Some (record { line = l; expected = NoMoreCircuits }) ≡ Some p = rw (circuits_full (suc f) f s i l 0 (line_end s i) c refl b refl t q refl) at e in
    let y : record { line = l; expected = NoMoreCircuits } ≡ p = cc in
    let w : ◌≡◌ {A = ℕ} 0 1 = subst (λ (t : Wrong). Unread t.expected) (sym y) u in
    absurd (omega arith)
stop_here f s i l (suc r) p (Some c) b t q n u more e = more r (rw (circuits_more (suc f) f s i l (suc r) r (line_end s i) c refl b refl t q refl) at e)

-- so it is where reading stops at any line, but for want of room
stop_says : (f : ℕ) (s : List ℕ) (i l room : ℕ) (p : Wrong) → Numbered s i l → Unread p.expected → (circuits_from f s i l room).stopped ≡ Some p → SaysNone s p
unfolding circuits_from
stop_says zero s i l room p n u e = absurd (let z : ◌≡◌ {A = ℕ} 0 1 = cc in omega arith)
stop_says (suc f) s i l room p n u e =
    by_le (length s) i
    (λ o. let x : None ≡ Some p = rw (circuits_over (suc f) s i l room o) at e in absurd (let z : ◌≡◌ {A = ℕ} 0 1 = cc in omega arith))
    (λ b.
    let k = numbered_next s i l b n in
    on (idle_line s i (line_end s i))
    (λ t. stop_says f s (line_end s i + 1) (l + 1) room p k u (rw (circuits_idle (suc f) f s i l room (line_end s i) refl b refl t) at e))
    (λ t. stop_here f s i l room p (circuit_in s i (line_end s i)) b t refl (n.1 b) u (λ r. stop_says f s (line_end s i + 1) (l + 1) r p k u) e))

-- a wrong line, with 1 or 2 expected, tells that the text has no header, or that it is not too long and reading stopped there
by_wrong : {C : Type 0} (long : Bool) (found : Result Opening Wrong) (many : ℕ) (stopped : Option Wrong) (l : ℕ) (x : Expected) → cond long (wrong 0 ShorterText) (entry_by found many stopped) ≡ wrong l x → Unread x
    → (found ≡ Err (record { line = l; expected = x }) → C)
    → ((g : Header) (i k : ℕ) → long ≡ false → found ≡ headed g i k → stopped ≡ Some (record { line = l; expected = x }) → C) → C
by_wrong true found many stopped l x e u lacks stops = let z : ShorterText ≡ x = ap (λ (z : Wrong). z.expected) (same_err _ _ e) in let w : ◌≡◌ {A = ℕ} 0 1 = subst Unread (sym z) u in absurd (omega arith)
by_wrong false (Err w) many stopped l x e u lacks stops = lacks (ap (λ (z : Wrong). Err z) (same_err _ _ e))
by_wrong false (Ok o) many None l x e u lacks stops = absurd (let z : ◌≡◌ {A = ℕ} 0 1 = cc in omega arith)
by_wrong false (Ok o) many (Some w) l x e u lacks stops =
    stops o.header o.next o.line refl refl (ap (λ (z : Wrong). Some z) (same_err _ _ e))

-- what the line says that is told as wrong: with 1 expected no header, with 2 no circuit
wrong_says : {C : Type 0} (s : List ℕ) (room l : ℕ) (x : Expected) → entry_of s room ≡ wrong l x → Unread x → (x ≡ HeaderLine → header_in s (line_start s l) (line_end s (line_start s l)) ≡ None → C)
    → (x ≡ CircuitLine → circuit_in s (line_start s l) (line_end s (line_start s l)) ≡ None → C) → C
unfolding entry_of too_long
wrong_says s room l x e u header circuit =
    by_wrong (too_long s) (header_from (suc (length s)) s 0 1) (length (read s room).circuits) (read s room).stopped l x e u
    (λ found.
    let y = told_lacking s (record { line = l; expected = x }) found in
    let z : header_from (suc (length s)) s 0 1 ≡ headless l = found ∙ ap (λ (t : Expected). Err (record { line = l; expected = t })) y in
    header y (headless_says (suc (length s)) s 0 1 l (omega arith) (numbered_first s) z))
    (λ g i k long found stopped.
    let r = read_as s room g i k (ltb-false 1048576 (length s) long) found in
    let h = heading_says (suc (length s)) (suc (length s)) s 0 1 (record { number = 0; first = 0; last = 0 }) g i k (omega arith) (numbered_first s) found in
    let z = stop_says (suc (length s)) s i k room (record { line = l; expected = x }) h.2 u (rw r at stopped) in
    circuit z.0 z.1)

-- the line that is told as wrong is one that could not be read: no circuit ..
pub stopped_circuit : (s : List ℕ) (room l : ℕ) → entry_of s room ≡ wrong l CircuitLine → circuit_in s (line_start s l) (line_end s (line_start s l)) ≡ None
stopped_circuit s room l e = wrong_says s room l CircuitLine e tt (λ x q. absurd (let z : ◌≡◌ {A = ℕ} 0 1 = cc in omega arith)) (λ x q. q)

-- .. or no header (or the text ends before any line that counts, and then the line told is past its end)
pub stopped_header : (s : List ℕ) (room l : ℕ) → entry_of s room ≡ wrong l HeaderLine → header_in s (line_start s l) (line_end s (line_start s l)) ≡ None
stopped_header s room l e = wrong_says s room l HeaderLine e tt (λ x q. q) (λ x q. absurd (let z : ◌≡◌ {A = ℕ} 0 1 = cc in omega arith))
