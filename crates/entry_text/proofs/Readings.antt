-- Reading line by line: a turn at a line, and the end. Assumes nothing.
use Prim.Native.Nat.{ℕ, zero, suc, ◌+◌, ◌-◌, ◌*◌, ◌/◌, ◌<◌, ◌≤◌}
use mathlib.Core.Bool.{true, false}
use mathlib.Core.List.{List, [], ◌∷◌, ◌++◌, append_assoc, append-nil}
use Rattle.std.specs.Prelude.{Option, None, Some, Result, Ok, Err}
use Rattle.std.specs.Option.{ok_or}
use mathlib.Core.Path.{◌≡◌, ◌∙◌, sym, ap, refl}
use native.Mathlib.Nat.{sub-zero}
use native.Mathlib.Numerals.{add-one}
use native.Mathlib.Omega.{arith}
use lib.ListN.{length, drop, length-append}
use borrow.Author.Tests.{le-leb, lt-leb}
use Rattle.records.specs.declared.Circuit.{Circuit}
use Rattle.records.specs.Records.{file_of, circuit_bytes, put_record}
use Rattle.records.proofs.Files.{length_file_of}
use Rattle.records.proofs.Series.{put_record_more}
use Rattle.entry_text.specs.declared.Expected.TheVariants.{CircuitLine, NoMoreCircuits}
use Rattle.entry_text.specs.declared.Wrong.{Wrong}
use Rattle.entry_text.specs.Entries.{Reading, line_end, idle_line, circuit_in, circuits_from, header_in, header_from, headless, found_by, after}
use Rattle.entry_text.specs.inner.Told.{ending_by, ending, Reads, Walked, here, past}
use Rattle.entry_text.proofs.Places.{line_ge, line_le}

-- an option that was taken for an error holds nothing
pub ok_or_err : (o : Option Circuit) (w x : Wrong) (r : Result Circuit Wrong) → r ≡ ok_or o w → r ≡ Err x → (o ≡ None) × (x ≡ w)
ok_or_err None w x r p q = let z : ◌≡◌ {A = Result Circuit Wrong} (Err w) (Err x) = sym p ∙ q in let y : w ≡ x = cc in (refl, sym y)
ok_or_err (Some c) w x r p q = let z : ◌≡◌ {A = Result Circuit Wrong} (Ok c) (Err x) = sym p ∙ q in absurd (let y : ◌≡◌ {A = ℕ} 0 1 = cc in omega arith)

-- and one that was not holds what was taken
pub ok_or_ok : (o : Option Circuit) (w : Wrong) (c : Circuit) (r : Result Circuit Wrong) → r ≡ ok_or o w → r ≡ Ok c → o ≡ Some c
ok_or_ok None w c r p q = let z : ◌≡◌ {A = Result Circuit Wrong} (Err w) (Ok c) = sym p ∙ q in absurd (let y : ◌≡◌ {A = ℕ} 0 1 = cc in omega arith)
ok_or_ok (Some d) w c r p q = let z : ◌≡◌ {A = Result Circuit Wrong} (Ok d) (Ok c) = sym p ∙ q in let y : d ≡ c = cc in ap (λ (t : Circuit). Some t) y

-- no line is left
pub header_over : (f : ℕ) (s : List ℕ) (i l : ℕ) → length s ≤ i → header_from f s i l ≡ headless l
unfolding header_from
header_over zero s i l h = refl
header_over (suc f) s i l h = rw (le-leb (length s) i h)

-- a line that does not count
pub header_idle : (f g : ℕ) (s : List ℕ) (i l e : ℕ) → f ≡ suc g → i < length s → e ≡ line_end s i → idle_line s i e ≡ true → header_from f s i l ≡ header_from g s (e + 1) (l + 1)
unfolding header_from
header_idle f g s i l e q h he t = rw (q, lt-leb (length s) i h, ← he, t, add-one e, add-one l)

-- the line that counts
pub header_here : (f g : ℕ) (s : List ℕ) (i l e : ℕ) → f ≡ suc g → i < length s → e ≡ line_end s i → idle_line s i e ≡ false → header_from f s i l ≡ found_by (suc e) l (header_in s i e)
unfolding header_from
header_here f g s i l e q h he t = rw (q, lt-leb (length s) i h, ← he, t)

-- no line is left
pub circuits_over : (f : ℕ) (s : List ℕ) (i l room : ℕ) → length s ≤ i → circuits_from f s i l room ≡ record { circuits = []; stopped = None }
unfolding circuits_from
circuits_over zero s i l room h = refl
circuits_over (suc f) s i l room h = rw (le-leb (length s) i h)

-- a line that does not count
pub circuits_idle : (f g : ℕ) (s : List ℕ) (i l room e : ℕ) → f ≡ suc g → i < length s → e ≡ line_end s i → idle_line s i e ≡ true → circuits_from f s i l room ≡ circuits_from g s (e + 1) (l + 1) room
unfolding circuits_from
circuits_idle f g s i l room e q h he t = rw (q, lt-leb (length s) i h, ← he, t, add-one e, add-one l)

-- a line that says no circuit
pub circuits_wrong : (f g : ℕ) (s : List ℕ) (i l room e : ℕ) → f ≡ suc g → i < length s → e ≡ line_end s i → idle_line s i e ≡ false → circuit_in s i e ≡ None
    → circuits_from f s i l room ≡ record { circuits = []; stopped = Some (record { line = l; expected = CircuitLine }) }
unfolding circuits_from
circuits_wrong f g s i l room e q h he t n = rw (q, lt-leb (length s) i h, ← he, t, n)

-- a circuit for which there is no room
pub circuits_full : (f g : ℕ) (s : List ℕ) (i l room e : ℕ) (c : Circuit) → f ≡ suc g → i < length s → e ≡ line_end s i → idle_line s i e ≡ false → circuit_in s i e ≡ Some c → room ≡ 0
    → circuits_from f s i l room ≡ record { circuits = []; stopped = Some (record { line = l; expected = NoMoreCircuits }) }
unfolding circuits_from
circuits_full f g s i l room e c q h he t n z = rw (q, lt-leb (length s) i h, ← he, t, n, z)

-- a circuit for which there is room
pub circuits_more : (f g : ℕ) (s : List ℕ) (i l room rest e : ℕ) (c : Circuit) → f ≡ suc g → i < length s → e ≡ line_end s i → idle_line s i e ≡ false → circuit_in s i e ≡ Some c → room ≡ suc rest
    → circuits_from f s i l room ≡ after c (circuits_from g s (e + 1) (l + 1) rest)
unfolding circuits_from
circuits_more f g s i l room rest e c q h he t n z =
    let k : suc rest - 1 ≡ rest = omega arith in
    rw (q, lt-leb (length s) i h, ← he, t, n, z, k, add-one e, add-one l)

-- circuits before a reading
abbrev pub joined : List Circuit → Reading → Reading
joined done r = record { circuits = done ++ r.circuits; stopped = r.stopped }

-- a circuit at the end of those that were read, or at the start of the rest
pub joined_more : (done : List Circuit) (c : Circuit) (r : Reading) → joined done (after c r) ≡ joined (done ++ (c ∷ [])) r
joined_more done c r = ap (λ (z : List Circuit). record { circuits = z; stopped = r.stopped }) (sym (append_assoc done (c ∷ []) r.circuits))

-- the bytes of one circuit more
pub file_more : (done : List Circuit) (c : Circuit) → file_of (done ++ (c ∷ [])) ≡ file_of done ++ circuit_bytes c
unfolding file_of
file_more [] c = refl
file_more (d ∷ done) c = ap (λ (z : List ℕ). circuit_bytes d ++ z) (file_more done c)

-- where the loop is: so many circuits were read and written, and the rest is read from the line numbered l at i
pub record Going (s : List ℕ) (i₀ l₀ : ℕ) (out₀ : List ℕ) (i l m : ℕ) (out : List ℕ) : Type 0 where
  pub fuel : ℕ
  pub enough : length s < i + fuel
  pub done : List Circuit
  pub many : length done ≡ m
  pub left : circuits_from (suc (length s)) s i₀ l₀ (length out₀ / 8) ≡ joined done (circuits_from fuel s i l (length out₀ / 8 - m))
  pub wrote : out ≡ file_of done ++ drop (8 * m) out₀

-- at the start
pub going_start : (s : List ℕ) (i l : ℕ) (out : List ℕ) → Going s i l out i l 0 out
unfolding file_of
going_start s i l out = record {
  fuel = suc (length s);
  enough = omega arith;
  done = [];
  many = refl;
  left = rw (sub-zero (length out / 8));
  wrote = refl;
}

-- after a line that does not count
pub going_idle : (s : List ℕ) (i₀ l₀ : ℕ) (out₀ : List ℕ) (i l m e : ℕ) (out : List ℕ) → Going s i₀ l₀ out₀ i l m out → i < length s → i ≤ e → e ≡ line_end s i → idle_line s i e ≡ true
    → Going s i₀ l₀ out₀ (e + 1) (l + 1) m out
going_idle s i₀ l₀ out₀ i l m e out g h a he t =
    let n = g.enough in
    record {
      fuel = g.fuel - 1;
      enough = omega arith;
      done = g.done;
      many = g.many;
      left = g.left ∙ ap (joined g.done) (circuits_idle g.fuel (g.fuel - 1) s i l (length out₀ / 8 - m) e (omega arith) h he t);
      wrote = g.wrote;
    }

-- after a circuit
pub going_more : (s : List ℕ) (i₀ l₀ : ℕ) (out₀ : List ℕ) (i l m e : ℕ) (out out' : List ℕ) (c : Circuit) → Going s i₀ l₀ out₀ i l m out → i < length s → i ≤ e → e ≡ line_end s i → idle_line s i e ≡ false
    → circuit_in s i e ≡ Some c → m < length out₀ / 8 → out' ≡ put_record out m (circuit_bytes c) → Going s i₀ l₀ out₀ (e + 1) (l + 1) (m + 1) out'
going_more s i₀ l₀ out₀ i l m e out out' c g h a he t n r w =
    let k = g.enough in
    let y = g.many in
    record {
      fuel = g.fuel - 1;
      enough = omega arith;
      done = g.done ++ (c ∷ []);
      many = length-append g.done (c ∷ []) ∙ ap (λ (z : ℕ). z + 1) g.many;
      left = g.left ∙ ap (joined g.done) (circuits_more g.fuel (g.fuel - 1) s i l (length out₀ / 8 - m) (length out₀ / 8 - (m + 1)) e c (omega arith) h he t n (omega arith))
          ∙ joined_more g.done c _;
      wrote = w ∙ ap (λ (z : List ℕ). put_record z m (circuit_bytes c)) g.wrote
          ∙ put_record_more (file_of g.done) (circuit_bytes c) out₀ m (length_file_of g.done ∙ ap (λ (z : ℕ). 8 * z) g.many) refl
          ∙ ap (λ (z : List ℕ). z ++ drop (8 * (m + 1)) out₀) (sym (file_more g.done c));
    }

-- where reading ends: all was read and written
pub going_end : (s : List ℕ) (i₀ l₀ : ℕ) (out₀ : List ℕ) (i l m : ℕ) (out : List ℕ) (stop : Option Wrong) (g : Going s i₀ l₀ out₀ i l m out)
    → circuits_from g.fuel s i l (length out₀ / 8 - m) ≡ record { circuits = []; stopped = stop }
    → circuits_from (suc (length s)) s i₀ l₀ (length out₀ / 8) ≡ record { circuits = g.done; stopped = stop }
going_end s i₀ l₀ out₀ i l m out stop g q =
    g.left ∙ ap (joined g.done) q ∙ ap (λ (z : List Circuit). record { circuits = z; stopped = stop }) (append-nil g.done)

-- what the loop answers there
pub going_answer : (m : ℕ) (done : List Circuit) (stop : Option Wrong) (r : Reading) → length done ≡ m → r ≡ record { circuits = done; stopped = stop } → ending_by m stop ≡ ending r
going_answer m done stop r y q = ap (λ (z : ℕ). ending_by z stop) (sym y) ∙ ap ending (sym q)

-- what stands in the output there
pub going_written : (m : ℕ) (done : List Circuit) (stop : Option Wrong) (r : Reading) (out out₀ : List ℕ) → length done ≡ m → r ≡ record { circuits = done; stopped = stop } → out ≡ file_of done ++ drop (8 * m) out₀
    → out ≡ file_of r.circuits ++ drop (8 * length r.circuits) out₀
going_written m done stop r out out₀ y q w =
    w ∙ ap (λ (z : ℕ). file_of done ++ drop (8 * z) out₀) (sym y)
    ∙ ap (λ (z : Reading). file_of z.circuits ++ drop (8 * length z.circuits) out₀) (sym q)

-- where reading ends: the answer, and what stands in the output
pub going_stop : (s : List ℕ) (i₀ l₀ : ℕ) (out₀ : List ℕ) (i l m : ℕ) (out : List ℕ) (stop : Option Wrong) (g : Going s i₀ l₀ out₀ i l m out)
    → circuits_from g.fuel s i l (length out₀ / 8 - m) ≡ record { circuits = []; stopped = stop }
    → Reads s i₀ l₀ out₀ (ending_by m stop) out
going_stop s i₀ l₀ out₀ i l m out stop g q =
    let e = going_end s i₀ l₀ out₀ i l m out stop g q in (
      going_answer m g.done stop (circuits_from (suc (length s)) s i₀ l₀ (length out₀ / 8)) g.many e,
      going_written m g.done stop (circuits_from (suc (length s)) s i₀ l₀ (length out₀ / 8)) out out₀ g.many e g.wrote,
    )

-- at the end of the text
pub going_over : (s : List ℕ) (i₀ l₀ : ℕ) (out₀ : List ℕ) (i l m : ℕ) (out : List ℕ) → Going s i₀ l₀ out₀ i l m out → length s ≤ i
    → Reads s i₀ l₀ out₀ (ending_by m None) out
going_over s i₀ l₀ out₀ i l m out g h = going_stop s i₀ l₀ out₀ i l m out None g (circuits_over g.fuel s i l (length out₀ / 8 - m) h)

-- at a line that says no circuit
pub going_wrong : (s : List ℕ) (i₀ l₀ : ℕ) (out₀ : List ℕ) (i l m e : ℕ) (out : List ℕ) → Going s i₀ l₀ out₀ i l m out → i < length s → e ≡ line_end s i → idle_line s i e ≡ false → circuit_in s i e ≡ None
    → Reads s i₀ l₀ out₀ (ending_by m (Some (record { line = l; expected = CircuitLine }))) out
going_wrong s i₀ l₀ out₀ i l m e out g h he t n =
    let k = g.enough in
    going_stop s i₀ l₀ out₀ i l m out (Some (record { line = l; expected = CircuitLine })) g
    (circuits_wrong g.fuel (g.fuel - 1) s i l (length out₀ / 8 - m) e (omega arith) h he t n)

-- at a circuit for which there is no room
pub going_full : (s : List ℕ) (i₀ l₀ : ℕ) (out₀ : List ℕ) (i l m e : ℕ) (out : List ℕ) (c : Circuit) → Going s i₀ l₀ out₀ i l m out → i < length s → e ≡ line_end s i → idle_line s i e ≡ false → circuit_in s i e ≡ Some c
    → length out₀ / 8 ≤ m
    → Reads s i₀ l₀ out₀ (ending_by m (Some (record { line = l; expected = NoMoreCircuits }))) out
going_full s i₀ l₀ out₀ i l m e out c g h he t n r =
    let k = g.enough in
    going_stop s i₀ l₀ out₀ i l m out (Some (record { line = l; expected = NoMoreCircuits })) g
    (circuits_full g.fuel (g.fuel - 1) s i l (length out₀ / 8 - m) e c (omega arith) h he t n (omega arith))

-- on to another line, past lines that do not count
pub going_walked : (s : List ℕ) (i₀ l₀ : ℕ) (out₀ : List ℕ) (i l m j k : ℕ) (out : List ℕ) → Walked s i l j k → Going s i₀ l₀ out₀ i l m out → Going s i₀ l₀ out₀ j k m out
going_walked s i₀ l₀ out₀ i l m _ _ out here g = g
going_walked s i₀ l₀ out₀ i l m _ _ out (past j k w b t) g =
    going_idle s i₀ l₀ out₀ j k m (line_end s j) out (going_walked s i₀ l₀ out₀ i l m j k out w g) b (line_ge s j) refl t

-- the header is found from a line that the walk came to as from the first
pub header_walked : (s : List ℕ) (j k : ℕ) → Walked s 0 1 j k
    → (j ≤ length s + 1) × (1 ≤ k) × (k ≤ j + 1) × (header_from (length s + 2 - k) s j k ≡ header_from (suc (length s)) s 0 1)
header_walked s _ _ here =
    let e : length s + 2 - 1 ≡ suc (length s) = omega arith in
    (omega arith, omega arith, omega arith, rw e)
header_walked s _ _ (past j k w b t) =
    let r = header_walked s j k w in
    let a = line_ge s j in
    let d = line_le s j (omega arith) in
    (omega arith, omega arith, omega arith, sym (header_idle (length s + 2 - k) (length s + 2 - (k + 1)) s j k (line_end s j) (omega arith) b refl t) ∙ r.3)
