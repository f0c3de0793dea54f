-- Laws of the new file: a test's answer counts on, and its place is one of the file's. Assumes nothing.
use Prim.Native.Nat.{ℕ, ◌≤◌}
use mathlib.Core.Path.{◌≡◌, refl, ap, ◌∙◌, sym}
use mathlib.Core.Bool.{Bool}
use mathlib.Core.Option.{Option, none, some}
use native.Mathlib.Omega.{arith}
use Rattle.refusals.specs.Table.{Row, first_record, no_end, tested, wherever}
use Rattle.std.specs.Prelude.{Option as Told, Result, Ok, Err}
use Rattle.refusals.specs.Refusals.{number_of}
use Rattle.refusals.specs.declared.Refusal.{Refusal}
use Rattle.refusals.specs.declared.Reason.{Reason}
use Rattle.refusals.specs.declared.End.{End}
use Rattle.refusals.proofs.First.{record_first}
use Rattle.two_files.specs.Rows.{later}
use Rattle.two_files.specs.Joint.{or_else, counted_on, place_of}

-- the row of the new file answers as the row of that file alone, counted on
pub counted_row : (k : ℕ) (row : Row) (x : ℕ) → counted_on k (tested row x) ≡ tested (later k row) x
counted_row k none x = refl
counted_row k (some r) x = refl

-- the place of the first of m records is at most m
pub place_low : (p : ℕ → Bool) (end_at : ℕ → Told End) (m : ℕ) (reason : Reason) (x : ℕ) (t : Result ℕ Refusal) → t ≡ tested (wherever reason end_at (first_record p m)) x → place_of t ≤ m
place_low p end_at m reason x t e = go (first_record p m) refl
  where
    go : (o : Option ℕ) → first_record p m ≡ o → place_of t ≤ m
    go none f = let z : place_of t ≡ 0 = ap place_of (e ∙ ap (λ (o : Option ℕ). tested (wherever reason end_at o) x) f) in omega arith
    go (some a) f =
        let z : place_of t ≡ a = ap place_of (e ∙ ap (λ (o : Option ℕ). tested (wherever reason end_at o) x) f) in
        let r = record_first p m a f in
        let q = r.1 in
        let h = r.2 in
        omega arith

-- a row of the new file that does not apply does not apply to that file alone
pub later_out : (k : ℕ) (row : Row) → later k row ≡ none → row ≡ none
later_out k none e = refl
later_out k (some r) e = cc

-- a row of the new file gives its number
pub later_gives : (k : ℕ) (x : Reason) (o : Option ℕ) (r : Refusal) → later k (wherever x no_end o) ≡ some r → number_of r.reason ≡ number_of x
later_gives k x (some place) r e = cc
later_gives k x none r e = cc

-- of two rows of which none applies neither does
pub neither : (a b : Row) → or_else a b ≡ none → (a ≡ none) × (b ≡ none)
neither none b e = (refl, e)
neither (some r) b e = (cc, cc)

-- the test of the old file refuses: so does that of the joined file
pub old_gives : (k : ℕ) (row a b : Row) (x z : ℕ) (r : Refusal) → row ≡ or_else a (later k b) → tested a z ≡ Err r → tested row x ≡ Err r
old_gives k row none b x z r q e = cc
old_gives k row (some s) b x z r q e = ap (λ (o : Row). tested o x) q ∙ e

-- it passes: the joined file is tested as the new one, counted on
pub new_gives : (k : ℕ) (row a b : Row) (x z y : ℕ) → row ≡ or_else a (later k b) → tested a z ≡ Ok y → tested row x ≡ counted_on k (tested b x)
new_gives k row none b x z y q e = ap (λ (o : Row). tested o x) q ∙ sym (counted_row k b x)
new_gives k row (some s) b x z y q e = cc
