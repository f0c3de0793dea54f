-- The circuits of a file: circuit j of the list is the one that record j holds. Assumes nothing.
use Prim.Native.Nat.{ℕ, ◌<◌, ◌≤◌}
use mathlib.Core.Path.{◌≡◌, ap}
use mathlib.Core.List.{List}
use native.Mathlib.Omega.{arith}
use Rattle.method.specs.Line.{circuit, nobody, Lies}
use Rattle.records.specs.Records.{record_at, circuit_of, circuits_in}
use Rattle.records.specs.declared.Circuit.{Circuit}
use Rattle.records.proofs.Files.{length_circuits_in, circuits_in_at}

-- circuit j, by its record
pub circuit_in_lem : (m : ℕ) (s : List ℕ) (j : ℕ) → j < m → circuit (circuits_in m s) j ≡ circuit_of (record_at s j)
unfolding circuit
circuit_in_lem m s j h = circuits_in_at m s j nobody h

-- a circuit [a, b] lies on the line of n links
pub record OnLine (n a b : ℕ) : Type 0 where
  pub pos : 1 ≤ a
  pub order : a ≤ b
  pub high : b ≤ n

-- what `Lies` says of the circuit that record j holds
pub lies_at : (n m : ℕ) (s : List ℕ) (j : ℕ) → Lies n (circuits_in m s) → j < m → OnLine n (circuit_of (record_at s j)).first (circuit_of (record_at s j)).last
unfolding circuit
lies_at n m s j lies h =
    let l = lies j (omega (arith, length_circuits_in m s)) in
    let e = circuit_in_lem m s j h in
    let f = ap (λ (c : Circuit). c.first) e in
    let g = ap (λ (c : Circuit). c.last) e in
    record { pos = omega arith; order = omega arith; high = omega arith }
