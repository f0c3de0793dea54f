-- The records of what the circuits are given, one after the other, are those of the list. Assumes nothing.
use Prim.Native.Nat.{ℕ, ◌+◌, ◌*◌}
use mathlib.Core.Path.{◌≡◌, sym, ap, ap₂}
use mathlib.Core.List.{List, ◌++◌}
use lib.ListN.{drop}
use Rattle.basics.specs.Tools.{each}
use Rattle.records.specs.Records.{circuits_in}
use Rattle.records.proofs.Files.{length_circuits_in}
use Rattle.method.specs.Fibres.{assignments, given}
use Rattle.method.specs.Line.{circuit}
use Rattle.method.specs.Sheet.{rows}
use Rattle.register.specs.Lists.{assignment_list, assignment_records}
use Rattle.register.proofs.Writing.{each_circuit, records_turn}
use Rattle.strands.specs.inner.Area.{given_in, put_assignment, records_to}

module _ (n w m : ℕ) (s : List ℕ) where
  -- a turn of the loop that writes record j
  pub assigned_turn : (j : ℕ) (out₀ out out' : List ℕ) → out ≡ records_to n w m s j ++ drop (8 * j) out₀ → out' ≡ put_assignment n w m s j out
      → out' ≡ records_to n w m s (j + 1) ++ drop (8 * (j + 1)) out₀
  unfolding records_to put_assignment
  assigned_turn = records_turn 0 (circuit (circuits_in m s)) (given_in n w m s)

  -- all of them are the list
  pub assigned_all : (out₀ : List ℕ) → records_to n w m s m ++ drop (8 * m) out₀ ≡ assignment_list 0 (circuits_in m s) (assignments n w (circuits_in m s)) out₀
  unfolding records_to assignments given_in assignment_list
  assigned_all out₀ =
      ap₂ (λ (x : List ℕ) (k : ℕ). x ++ drop (8 * k) out₀)
      (ap₂ (assignment_records 0) (each_circuit m s) (ap (each (given n w (circuits_in m s) (rows n w (circuits_in m s))) 0) (sym (length_circuits_in m s)))) (sym (length_circuits_in m s))
