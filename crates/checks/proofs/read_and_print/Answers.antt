-- `read_and_print`: each file was read into a buffer of the size that counts. Assumes nothing.
use Prim.Native.Nat.{ℕ}
use mathlib.Core.Path.{◌≡◌, subst, sym}
use Rattle.std.specs.Prelude.{Option, Result, Ok, Err, IfOk, IfSome}
use Rattle.std.specs.Result.{result_ok}
use Rattle.files.specs.Starts.{ReadInto}
use Rattle.files.specs.declared.Start.{Start}
use Rattle.checks.proofs.read_and_print.Goals as goal

-- what was read of a file stands in a buffer of this length
into : {E : Type 0} (r : Result Start E) (o : Option Start) (a b : ℕ) → IfOk r (ReadInto a) → o ≡ result_ok r → a ≡ b → IfSome o (ReadInto b)
into (Ok s) o a b h p q = subst (λ (x : Option Start). IfSome x (ReadInto b)) (sym p) (subst (λ (n : ℕ). ReadInto n s) q h)
into (Err e) o a b h p q = subst (λ (x : Option Start). IfSome x (ReadInto b)) (sym p) tt

pub print_check_from_starts-k-requires : goal.print_check_from_starts-k-requires
print_check_from_starts-k-requires g c =
    let p = c.requires in (
      record {
        sheet_read = record {
          line_read = into _ _ _ 7 c.read_file.ensures c.ok-line.ensures.value p.0;
          circuits_read = into _ _ _ 16392 c.read_file-2.ensures c.ok-circuits.ensures.value p.1;
        };
        fibres_read = into _ _ _ 32776 c.read_file-3.ensures c.ok-fibres.ensures.value p.2;
        assigns_read = into _ _ _ 16392 c.read_file-4.ensures c.ok-assigns.ensures.value p.3;
      },
      p.4,
    )
