-- What is done with a run is a step of the method. Assumes nothing.
use Prim.Native.Nat.{ℕ, ◌+◌, ◌*◌, ◌≤◌, ◌<◌, max}
use mathlib.Core.Bool.{◌&&◌, cond}
use mathlib.Core.List.{List}
use mathlib.Core.Option.{none, some}
use mathlib.Core.Path.{◌≡◌, ap, ap₂, ◌∙◌, sym}
use native.Mathlib.Omega.{arith}
use lib.ListN.{length}
use borrow.Author.Tests.{le-leb, lt-leb, le-ltb, lt-ltb}
use Rattle.basics.proofs.Bools.{by_le}
use Rattle.basics.proofs.Tables.{length_each}
use Rattle.records.specs.Bytes.{cells_of, set_cell}
use Rattle.records.specs.Records.{circuit_of, circuits_in, record_at}
use Rattle.records.specs.declared.Circuit.{Circuit}
use Rattle.records.proofs.CellLaws.{stored}
use Rattle.method.specs.Line.{circuit, uses}
use Rattle.method.specs.Sheet.{State, act, at, blue, chosen, in_run, paint, run_from, step, taken}
use Rattle.method.proofs.Circuits.{circuit_in_lem}
use Rattle.rows.proofs.AreaLaws.{enter_row}
use Rattle.rows.proofs.Written.{links_are}
use Rattle.rows.specs.inner.Colours.{between}
use Rattle.rows.specs.inner.Loops.{Written}
use Rattle.whole_sheet.specs.declared.colours.Run.{Run}
use Rattle.whole_sheet.specs.inner.Board.{AtRun, BroughtTo, placed_state, state_in}

-- the loop over the run has taken the circuit's links
pub take_done : (n from past i : ℕ) (c : Circuit) (R₀ R : List ℕ) → length R₀ ≡ n → past ≤ i → i ≤ max from past
    → Written (λ x. cond (uses c x) taken (at R₀ x)) from i R₀ R → R ≡ paint n (λ x. between from past x && uses c x) taken R₀
unfolding paint between
take_done n from past i c R₀ R l e e' y =
    links_are n R (λ x. cond (between from past x && uses c x) taken (at R₀ x)) (y.long ∙ l)
    (λ x p q.
    by_le from x
    (λ g. by_le past x (λ h. rw (le-leb from x g, le-ltb x past h) (y.late x (omega arith))) (λ h. rw (le-leb from x g, lt-ltb x past h) (y.done x g (omega arith))))
    (λ g. rw (lt-leb from x g) (y.early x g)))

module _ (n m k : ℕ) (s work row : List ℕ) (run : Run) (at-run : AtRun n row run) where
  -- nobody fits: the run turns blue
  pub blue_step : (row' : List ℕ) → chosen n (circuits_in m s) (state_in n m work row) ≡ none → row' ≡ paint n (between run.from run.past) blue row
      → state_in n m work row' ≡ step n (circuits_in m s) k (state_in n m work row)
  unfolding step act between in_run
  blue_step row' e p =
      rw (le-leb (run_from n row) n (omega (arith, at-run.starts, at-run.there)), e)
      (ap (state_in n m work) (p ∙ ap₂ (λ (f g : ℕ). paint n (between f g) blue row) at-run.starts at-run.ends))

  -- circuit j is placed
  pub place_step : (j : ℕ) (state : State) → chosen n (circuits_in m s) (state_in n m work row) ≡ some j → state ≡ placed_state n m k j s work row
      → state ≡ step n (circuits_in m s) k (state_in n m work row)
  unfolding step act
  place_step j state e p = rw (le-leb (run_from n row) n (omega (arith, at-run.starts, at-run.there)), e) p

  -- what is done to place it: its row is stored, and its links within the run are taken
  pub placed : (j : ℕ) (c : Circuit) (work' row' : List ℕ) → j < m → length work' ≡ 4 * n + 4 * m → c ≡ circuit_of (record_at s j) → work' ≡ set_cell work (2 * n + j) k
      → row' ≡ paint n (λ x. between run.from run.past x && uses c x) taken row → BroughtTo n m (placed_state n m k j s work row) work work' row'
  unfolding between in_run paint
  placed j c work' row' h l x w p =
      let t = enter_row n m j k (cells_of work) (cells_of work') h (stored work work' (2 * n + j) k w) in
      let d : c ≡ circuit (circuits_in m s) j = x ∙ sym (circuit_in_lem m s j h) in
      record {
        room = l;
        wide = ap length p ∙ length_each _ 1 n;
        needs = t.0;
        shows = ap₂ (λ (a b : List ℕ). (let z : State = record { colours = a; rows = b } in z))
            (p ∙ ap₂ (λ (f g : ℕ). paint n (λ x. between f g x && uses c x) taken row) at-run.starts at-run.ends ∙ ap (λ (o : Circuit). paint n (λ x. in_run n row x && uses o x) taken row) d)
            t.2;
      }
