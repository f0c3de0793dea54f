-- What the search for a circuit sees of a row, of the work area and of the file. Assumes nothing.
use Prim.Native.Nat.{ℕ, suc, ◌+◌, ◌-◌, ◌*◌, ◌≤◌, ◌<◌}
use mathlib.Core.Bool.{Bool, true, false, ◌||◌, ◌&&◌}
use mathlib.Core.List.{List}
use mathlib.Core.Option.{Option, some}
use mathlib.Core.Path.{◌≡◌, refl, ap, ap₂, ◌∙◌, sym}
use native.Mathlib.Omega.{arith}
use lib.Dec.{leb, ltb, eqb}
use lib.ListN.{length, get_or}
use borrow.Author.Tests.{le-leb, lt-leb, le-ltb, lt-ltb}
use Rattle.basics.specs.Tools.{better, every, lowest}
use Rattle.basics.proofs.Searches.{every_same}
use Rattle.basics.proofs.Tables.{get_d_part}
use Rattle.records.specs.Area.{rows_in}
use Rattle.records.specs.Bytes.{cell, cells_of}
use Rattle.records.specs.Records.{circuit_of, record_at}
use Rattle.records.specs.declared.Circuit.{Circuit}
use Rattle.records.proofs.CellLaws.{cell_is}
use Rattle.method.specs.Sheet.{at, blue, fits, in_run, run_from, run_past}
use Rattle.method.proofs.Circuits.{circuit_in_lem}
use Rattle.std.specs.Prelude.{Option as Told, Some, None}
use Rattle.whole_sheet.specs.declared.colours.Run.{Run}
use Rattle.whole_sheet.specs.inner.Board.{AtRun, light}
use Rattle.whole_sheet.specs.inner.Choices.{number_of, place_of}

module _ (n : ℕ) (row : List ℕ) (run : Run) (at-run : AtRun n row run) where
  -- in the run or blue
  light_is : (x : ℕ) → light run row x ≡ in_run n row x || eqb (at row x) blue
  unfolding light in_run
  light_is x = ap₂ (λ (f p : ℕ). (leb f x && ltb x p) || eqb (at row x) blue) at-run.starts at-run.ends

  module _ (c : Circuit) where
    -- it ends before the run begins
    pub fits_before : c.last < run.from → fits n row c ≡ false
    unfolding fits
    fits_before h = rw (lt-leb (run_from n row) c.last (omega (arith, at-run.starts)))

    -- it begins behind the run
    pub fits_behind : run.from ≤ c.last → run.past ≤ c.first → fits n row c ≡ false
    unfolding fits
    fits_behind a b = rw (le-leb (run_from n row) c.last (omega (arith, at-run.starts)), le-ltb c.first (run_past n row) (omega (arith, at-run.ends)))

    -- it uses a link of the run, so its links decide
    pub fits_every : run.from ≤ c.last → c.first < run.past → every (light run row) c.first (suc c.last - c.first) ≡ fits n row c
    unfolding fits
    fits_every a b =
        rw (le-leb (run_from n row) c.last (omega (arith, at-run.starts)), lt-ltb c.first (run_past n row) (omega (arith, at-run.ends)))
        (every_same _ _ c.first (suc c.last - c.first) (λ x p q. light_is x))

-- the row of circuit j, read from the work area
pub row_read : (n m j v : ℕ) (work : List ℕ) → length work ≡ 4 * n + 4 * m → j < m → v ≡ cell work (2 * n + j) → get_or (rows_in n m (cells_of work)) j 0 ≡ v
row_read n m j v work l h e = get_d_part (2 * n) m (cells_of work) j 0 h ∙ sym (cell_is work (2 * n + j) (omega arith)) ∙ sym e

-- THE BEST SO FAR, once circuit j may go: nobody was found before
pub first_found : (m j : ℕ) (s : List ℕ) (best : Told ℕ) → best ≡ None → some j ≡ better true (number_of m s) j (place_of best)
unfolding better
first_found m j s best e = rw e refl

module _ (m j b : ℕ) (s : List ℕ) (best : Told ℕ) (c d : Circuit) (e : best ≡ Some b) (h : j < m) (g : b < m)
    (x : c ≡ circuit_of (record_at s j)) (y : d ≡ circuit_of (record_at s b)) where
  -- the number of circuit j
  one : c.number ≡ number_of m s j
  unfolding number_of
  one = ap (λ (z : Circuit). z.number) (x ∙ sym (circuit_in_lem m s j h))

  -- and of the best so far
  two : d.number ≡ number_of m s b
  unfolding number_of
  two = ap (λ (z : Circuit). z.number) (y ∙ sym (circuit_in_lem m s b g))

  -- j has the lower one
  pub lower_new : c.number < d.number → some j ≡ better true (number_of m s) j (place_of best)
  unfolding better
  lower_new l = rw (e, lt-ltb (number_of m s j) (number_of m s b) (omega (arith, one, two))) refl

  -- the best so far has it
  pub lower_old : d.number ≤ c.number → some b ≡ better true (number_of m s) j (place_of best)
  unfolding better
  lower_old l = rw (e, le-ltb (number_of m s j) (number_of m s b) (omega (arith, one, two))) refl

-- one circuit more is looked at
pub lowest_turn : (p : ℕ → Bool) (number : ℕ → ℕ) (j : ℕ) (o o' : Option ℕ) → o ≡ lowest p number j → o' ≡ better (p j) number j o → o' ≡ lowest p number (j + 1)
unfolding lowest
lowest_turn p number j o o' e f = let z : j + 1 ≡ suc j = omega arith in rw (z, sym e) f
