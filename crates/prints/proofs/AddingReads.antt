-- What `adds` keeps and prints, by what was read of each file. Assumes nothing.
use Prim.Native.Nat.{ℕ, ◌+◌, ◌≤◌}
use mathlib.Core.Path.{◌≡◌, ap, subst, sym, ◌∙◌}
use mathlib.Core.List.{List, ◌++◌, append_assoc}
use native.Mathlib.Omega.{arith}
use lib.ListN.{length, length-append, drop, take}
use lib.Seq.{length-take-le, take_all}
use Rattle.records.specs.LineFiles.{line_in}
use Rattle.records.specs.declared.Line.{Line}
use Rattle.std.specs.Prelude.{Option, Some, None, Result, Ok, Err, IfSome}
use Rattle.refusals.specs.declared.Refusal.{Refusal}
use Rattle.adder.specs.Additions.{Files}
use Rattle.prints.specs.Adding.{AddRead, add_printed, all_read, files_by, Folder, folder_verdict, grown, grown_by, grown_files, grown_of, grown_text, grown_text_by, Filed, new_in, old_in}
use Rattle.prints.specs.Reads.{AtMost, file_read}
use Rattle.prints.specs.declared.adding.Lengths.{Lengths}
use Rattle.prints.specs.inner.Lent.{Appendable, Appended, ListsLaid, old_read}

-- THE CIRCUITS, of an addition whose lists are laid
module _ (line : Line) (new : List ℕ) (c f a : ℕ) (circuits₀ fibres₀ fibres assigns₀ assigns : List ℕ) (front : c ≤ length circuits₀) where
  -- the old plan, as it was read
  abbrev old : Files
  old = old_read (take c circuits₀) f fibres₀ a assigns₀

  -- all circuits are counted
  counted : (n : ℕ) → n ≡ length (grown_files line old new).circuits → n ≡ c + length new
  counted n e = omega (arith, e, length-append (take c circuits₀) new, length-take-le c circuits₀ front)

  appendable_by : (t : Result ℕ Refusal) (r : Option Lengths) → 16384 ≤ length circuits₀ → ListsLaid (files_by t (grown_files line old new)) r fibres₀ fibres assigns₀ assigns → Appendable r c new circuits₀
  appendable_by (Ok m) (Some long) h l = omega (arith, h, l.1, counted long.circuits l.0)
  appendable_by (Ok m) None h l = absurd l
  appendable_by (Err q) (Some long) h l = absurd l
  appendable_by (Err q) None h l = tt

  -- the buffer has room for the new ones
  pub room_behind : (r : Option Lengths) → 16384 ≤ length circuits₀ → ListsLaid (grown_of line old new) r fibres₀ fibres assigns₀ assigns → Appendable r c new circuits₀
  unfolding grown_of
  room_behind r h l = appendable_by (folder_verdict line old new) r h l

  filed_by : (t : Result ℕ Refusal) (r : Option Lengths) (circuits : List ℕ) → ListsLaid (files_by t (grown_files line old new)) r fibres₀ fibres assigns₀ assigns → Appended r c new circuits₀ circuits
      → Filed (files_by t (grown_files line old new)) r circuits₀ circuits fibres₀ fibres assigns₀ assigns
  filed_by (Ok m) (Some long) circuits l e =
      let n = long.circuits in
      let q : circuits ≡ (take c circuits₀ ++ new) ++ drop n circuits₀ =
      e ∙ sym (append_assoc (take c circuits₀) new (drop (c + length new) circuits₀)) ∙ ap (λ (j : ℕ). (take c circuits₀ ++ new) ++ drop j circuits₀) (sym (counted n l.0)) in
      ((l.0, q), l.2, l.3)
  filed_by (Ok m) None circuits l e = absurd l
  filed_by (Err r) (Some long) circuits l e = absurd l
  filed_by (Err r) None circuits l e = (e, l.0, l.1)

  -- with the new ones behind the old, all of it is as it should be
  pub all_filed : (r : Option Lengths) (circuits : List ℕ) → ListsLaid (grown_of line old new) r fibres₀ fibres assigns₀ assigns → Appended r c new circuits₀ circuits
      → Filed (grown_of line old new) r circuits₀ circuits fibres₀ fibres assigns₀ assigns
  unfolding grown_of
  all_filed r circuits l e = filed_by (folder_verdict line old new) r circuits l e

-- all files were read, and `line.rec` says a line
module _ (line new : Option (List ℕ)) (got_circuits got_fibres got_assigns : Option ℕ) (circuits fibres assigns : List ℕ) (read : AddRead got_circuits new got_fibres got_assigns circuits fibres assigns)
    (s n : List ℕ) (c f a : ℕ) (l : Line) (e : line ≡ Some s) (p : got_circuits ≡ Some c) (q : new ≡ Some n) (t : got_fibres ≡ Some f) (x : got_assigns ≡ Some a) (u : line_in s ≡ Some l) where
  -- the folder, as it was read
  abbrev given : Folder
  given = record { line = s; circuits = take c circuits; new = n; fibres = take f fibres; assigns = take a assigns }

  -- no more bytes of `circuits.rec` and `new.rec` were read than count
  few : c ≤ 16392
  few = subst (λ (o : Option ℕ). IfSome o (λ k. k ≤ 16392)) p read.circuits_read

  old_counts : old_in given ≡ old_read (take c circuits) f fibres a assigns
  old_counts =
      let short : length (take c circuits) ≤ 16392 = omega (arith, few, read.circuits_long, length-take-le c circuits (omega (arith, few, read.circuits_long))) in
      λ i. record { circuits = take_all 16392 (take c circuits) short i; fibres = take f fibres; assigns = take a assigns }

  new_counts : new_in given ≡ n
  new_counts = take_all 16392 n (subst (AtMost 16392) q read.new_read)

  -- so the files are those of the line
  pub line_grown : grown (all_read line (file_read got_circuits circuits) new (file_read got_fibres fibres) (file_read got_assigns assigns)) ≡ grown_of l (old_read (take c circuits) f fibres a assigns) n
  unfolding all_read grown
  line_grown =
      (λ i. grown (all_read (e i) (file_read (p i) circuits) (q i) (file_read (t i) fibres) (file_read (x i) assigns)))
      ∙ ap (λ (y : Option Line). grown_by y given) u ∙ (λ i. grown_of l (old_counts i) (new_counts i))

  -- and so is the text
  pub line_text : add_printed (all_read line (file_read got_circuits circuits) new (file_read got_fibres fibres) (file_read got_assigns assigns))
      ≡ grown_text l (old_read (take c circuits) f fibres a assigns) n
  unfolding all_read add_printed
  line_text =
      (λ i. add_printed (all_read (e i) (file_read (p i) circuits) (q i) (file_read (t i) fibres) (file_read (x i) assigns)))
      ∙ ap (λ (y : Option Line). grown_text_by y given) u ∙ (λ i. grown_text l (old_counts i) (new_counts i))
