-- The report and the fibre list read back from their bytes. Assumes nothing.
use Prim.Native.Nat.{ℕ, zero, suc, ◌+◌, ◌*◌, ◌-◌, ◌/◌, ◌%◌, ◌<◌, ◌≤◌}
use mathlib.Core.Path.{◌≡◌, refl, ap, ◌∙◌, sym}
use mathlib.Core.List.{List, [], ◌∷◌, ◌++◌, append_assoc}
use native.Mathlib.Nat.{zero-add}
use native.Mathlib.Omega.{arith}
use lib.ListN.{length, get_or, get_or-append, take, drop, length-append, length-drop}
use lib.Seq.{drop-append-add, drop_at, drop-drop, ext_get_or, get_or-append-add, length-take-le, take_at, take-take}
use Rattle.basics.specs.Tools.{each}
use Rattle.basics.proofs.Bools.{by_le}
use Rattle.basics.proofs.Tables.{get_d_each, get_d_part, length_each, part_kept, table_is}
use Rattle.records.specs.Records.{fibre_of, record_at}
use Rattle.records.proofs.Inverse.{le16_bytes16, le32_bytes32}
use Rattle.method.specs.Line.{Fibre, no_fibre}
use Rattle.register.specs.Lists.{behind, fibre_list, fibre_record, fibre_records}
use Rattle.register.specs.Plans.{Numbered, plan_in, span_of}
use Rattle.register.proofs.Reading.{fibre_read, fibre_record_lem, length_fibre_records}
use Rattle.mending.specs.Mending.{ReportLine}
use Rattle.mending.specs.Mended.{no_line}
use Rattle.mender.specs.Report.{line_bytes, line_of_bytes, report_bytes, report_in, report_list}

-- THE REPORT. A line that is written is read back as it was
line_read_written : (l : ReportLine) → line_of_bytes (line_bytes l) ≡ l
line_read_written l =
    λ i. record {
      number = le32_bytes32 l.number i;
      found = record { fibre = le16_bytes16 l.found.fibre i; wavelength = le16_bytes16 l.found.wavelength i };
      given = record { fibre = le16_bytes16 l.given.fibre i; wavelength = le16_bytes16 l.given.wavelength i };
    }

-- the lines of a report have 12 bytes each
pub length_report_bytes : (ls : List ReportLine) → length (report_bytes ls) ≡ 12 * length ls
unfolding report_bytes
length_report_bytes [] = refl
length_report_bytes (l ∷ ls) = let h = length_report_bytes ls in omega arith

-- line t is that of the report
line_at : (ls : List ReportLine) (rest : List ℕ) (t : ℕ) → t < length ls → take 12 (drop (12 * t) (report_bytes ls ++ rest)) ≡ line_bytes (get_or ls t no_line)
unfolding report_bytes
line_at [] rest t h = absurd (omega arith)
line_at (l ∷ ls) rest zero h = refl
line_at (l ∷ ls) rest (suc t) h =
    let k : 12 * suc t ≡ 12 + 12 * t = omega arith in
    ap (λ (x : ℕ). take 12 (drop x (line_bytes l ++ report_bytes ls ++ rest))) k
    ∙ ap (take 12) (sym (drop-drop (12 * t) 12 (line_bytes l ++ report_bytes ls ++ rest)))
    ∙ line_at ls rest t (omega arith)

-- the buffer that a report is written to holds that report
pub report_read : (ls : List ReportLine) (report : List ℕ) → report_in (length ls) (report_list ls report) ≡ ls
unfolding report_in report_list
report_read ls report =
    table_is no_line (λ t. line_of_bytes (take 12 (drop (12 * t) (report_bytes ls ++ drop (12 * length ls) report)))) ls
    (λ t h. ap line_of_bytes (line_at ls (drop (12 * length ls) report) t h) ∙ line_read_written (get_or ls t no_line))

-- LISTS OF m RECORDS that have the same records are the same
pub by_records : (m : ℕ) (xs ys : List ℕ) → length xs ≡ 8 * m → length ys ≡ 8 * m → ((j : ℕ) → j < m → record_at xs j ≡ record_at ys j) → xs ≡ ys
by_records m xs ys a b h =
    ext_get_or 0 xs ys (omega arith)
    (λ i l.
    let j = i / 8 in
    let z : 8 * j + i % 8 ≡ i = omega arith in
    let at : (zs : List ℕ) → get_or zs i 0 ≡ get_or (record_at zs j) (i % 8) 0 = λ zs. ap (λ (x : ℕ). get_or zs x 0) (sym z) ∙ sym (get_d_part (8 * j) 8 zs (i % 8) 0 (omega arith)) in
    at xs ∙ ap (λ (r : List ℕ). get_or r (i % 8) 0) (h j (omega arith)) ∙ sym (at ys))

-- THE FIBRE LIST, of which the first `many` records stay: those of the fibres `more` follow, and the rest is as it was
module _ (many : ℕ) (more : List Fibre) (fibres after : List ℕ) (room : 8 * (many + length more) ≤ length fibres)
    (listed : after ≡ behind (8 * many) (fibre_list many more) fibres) where
  -- how many fibres there are then
  abbrev all : ℕ
  all = many + length more

  -- the records that stay
  abbrev old : List ℕ
  old = take (8 * many) fibres

  old_long : length old ≡ 8 * many
  old_long = length-take-le (8 * many) fibres (omega arith)

  -- the list is the old records, the new ones, and the rest
  in_three : after ≡ (old ++ fibre_records many more) ++ drop (8 * all) fibres
  unfolding behind fibre_list
  in_three =
      let z : 8 * many + 8 * length more ≡ 8 * all = omega arith in
      listed
      ∙ ap (λ (x : List ℕ). old ++ (fibre_records many more ++ x)) (drop-drop (8 * length more) (8 * many) fibres ∙ ap (λ (x : ℕ). drop x fibres) z)
      ∙ sym (append_assoc old (fibre_records many more) (drop (8 * all) fibres))

  both_long : length (old ++ fibre_records many more) ≡ 8 * all
  both_long = omega (arith, length-append old (fibre_records many more), old_long, length_fibre_records many more)

  -- all fibre records
  pub records_are : take (8 * all) after ≡ old ++ fibre_records many more
  records_are = ap (take (8 * all)) in_three ∙ take_at (old ++ fibre_records many more) (drop (8 * all) fibres) (8 * all) both_long

  -- the rest
  pub rest_is : drop (8 * all) after ≡ drop (8 * all) fibres
  rest_is = ap (drop (8 * all)) in_three ∙ drop_at (old ++ fibre_records many more) (drop (8 * all) fibres) (8 * all) both_long

  -- as many bytes
  pub as_long : length after ≡ length fibres
  as_long =
      omega (arith, ap length in_three, length-append (old ++ fibre_records many more) (drop (8 * all) fibres), both_long, length-drop (8 * all) fibres)

  -- the old records stay
  pub olds_stay : take (8 * many) after ≡ old
  unfolding behind
  olds_stay = ap (take (8 * many)) listed ∙ take_at old (fibre_list many more (drop (8 * many) fibres)) (8 * many) old_long

  -- an old record
  record_stays : (i : ℕ) → i < many → record_at after i ≡ record_at fibres i
  record_stays i h =
      part_kept (8 * i) 8 after fibres
      (sym (take-take (8 * i + 8) (8 * many) after (omega arith)) ∙ ap (take (8 * i + 8)) olds_stay ∙ take-take (8 * i + 8) (8 * many) fibres (omega arith))

  -- a new one
  record_added : (i : ℕ) → i < length more → record_at after (many + i) ≡ fibre_record (many + suc i) (get_or more i no_fibre)
  unfolding behind fibre_list
  record_added i h =
      let z : 8 * (many + i) ≡ length old + 8 * i = omega (arith, old_long) in
      ap (λ (x : List ℕ). record_at x (many + i)) listed
      ∙ ap (λ (x : ℕ). take 8 (drop x (old ++ fibre_list many more (drop (8 * many) fibres)))) z
      ∙ ap (take 8) (drop-append-add old (fibre_list many more (drop (8 * many) fibres)) (8 * i))
      ∙ fibre_record_lem many more _ i h

  -- they are numbered on
  pub numbered_on : Numbered many fibres → Numbered all after
  numbered_on numbered i h =
      by_le many i
      (λ l.
      let z : i ≡ many + (i - many) = omega arith in
      let r = record_added (i - many) (omega arith) in
      ap (λ (x : ℕ). (fibre_of (record_at after x)).number) z ∙ (fibre_read (many + suc (i - many)) _ (record_at after (many + (i - many))) r).0 ∙ omega arith)
      (λ l. ap (λ (r : List ℕ). (fibre_of r).number) (record_stays i l) ∙ numbered i l)

  -- and hold the old fibres and the new ones
  pub fibres_read : (m : ℕ) (assigns before : List ℕ) → (plan_in all m after assigns).fibres ≡ (plan_in many 0 fibres before).fibres ++ more
  unfolding plan_in
  fibres_read m assigns before =
      let was : ℕ → Fibre = λ i. span_of (fibre_of (record_at fibres i)) in
      let olds = each was 0 many in
      let l = length_each was 0 many in
      let k : length (olds ++ more) ≡ all = omega (arith, length-append olds more) in
      ap (each (λ i. span_of (fibre_of (record_at after i))) 0) (sym k)
      ∙ table_is no_fibre (λ i. span_of (fibre_of (record_at after i))) (olds ++ more)
      (λ i h.
      by_le many i
      (λ g.
      let z : i ≡ many + (i - many) = omega arith in
      let y : i ≡ length olds + (i - many) = omega arith in
      let r = record_added (i - many) (omega arith) in
      ap (λ (x : ℕ). span_of (fibre_of (record_at after x))) z ∙ (fibre_read (many + suc (i - many)) _ (record_at after (many + (i - many))) r).1
      ∙ sym (ap (λ (x : ℕ). get_or (olds ++ more) x no_fibre) y ∙ get_or-append-add olds more (i - many) no_fibre))
      (λ g.
      ap (λ (r : List ℕ). span_of (fibre_of r)) (record_stays i g)
      ∙ sym (get_or-append olds more no_fibre i (omega arith) ∙ get_d_each was 0 many i no_fibre g ∙ ap was (zero-add i))))
