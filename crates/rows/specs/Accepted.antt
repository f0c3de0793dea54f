-- What the phases ask of a file: what the tests leave. A contract between crates.
-- Assumes nothing.
use Rattle.std.specs.Prelude.{◌≡◌, ℕ, ◌*◌, ◌≤◌, List, length}
use Rattle.records.specs.Records.{circuits_in}
use Rattle.method.specs.Line.{Lies, Distinct}

-- m circuits of a file, each on the line of n links, and no number twice
pub record OnLine (n m : ℕ) (s : List ℕ) : Type 0 where
  pub line : n ≤ 512
  pub few : m ≤ 2048
  pub whole : length s ≡ 8 * m
  pub lies : Lies n (circuits_in m s)
  pub distinct : Distinct (circuits_in m s)

-- and w wavelengths; 80 is the most that a grid has
pub record Accepted (n w m : ℕ) (s : List ℕ) : Type 0 where
  pub file : OnLine n m s
  pub waves : (1 ≤ w) × (w ≤ 80)
