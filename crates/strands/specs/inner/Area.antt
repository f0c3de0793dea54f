-- What the assignments are read from, the work area once the halves are chosen and the table of the pairs, and how they are written, with fibres counted from 1.
-- Assumes nothing.
use Rattle.std.specs.Prelude.{ℕ, ◌+◌, ◌*◌, ◌<◌, ◌≤◌, Bool, cond, ◌≡◌, List, leb, length, get_or}
use Rattle.basics.specs.Tools.{each}
use Rattle.records.specs.Area.{rows_in, spare_in}
use Rattle.records.specs.Bytes.{cells_of}
use Rattle.records.specs.Records.{circuits_in, put_record}
use Rattle.method.specs.Fibres.{given, layers, on_first, pair_of, pairs}
use Rattle.method.specs.Line.{Assignment, circuit, no_fibre}
use Rattle.method.specs.Sheet.{most, rows}
use Rattle.register.specs.Lists.{assignment_record, assignment_records}
use Rattle.rows.specs.Accepted.{Accepted}

-- in the rows' part stands, for each circuit, twice its row, and 1 more for the second fibre; in the spare part, for each layer, the number of pairs before it
pub record Marked (n w m : ℕ) (s work : List ℕ) : Type 0 where
  pub long : length work ≡ 4 * n + 4 * m
  pub halves : (j : ℕ) → j < m
      → get_or (rows_in n m (cells_of work)) j 0 ≡ 2 * get_or (rows n w (circuits_in m s)) j 0 + cond (on_first (circuits_in m s) (rows n w (circuits_in m s)) (pair_of n w (circuits_in m s) (rows n w (circuits_in m s))) j) 0 1
  pub starts : (h : ℕ) → h < most n w (circuits_in m s) → get_or (spare_in n m (cells_of work)) h 0 ≡ length (layers n w (circuits_in m s) h)

-- the table has `count` pairs, as many as the method's, and the last link of each
pub record Strung (n w m count : ℕ) (s table : List ℕ) : Type 0 where
  pub count_is : count ≡ length (pairs n w (circuits_in m s))
  pub lasts : (i : ℕ) → i < count → get_or table i 0 ≡ (get_or (pairs n w (circuits_in m s)) i no_fibre).last

-- what the assignments are read from: an accepted file, the work area and the table
pub record Sources (n w m count : ℕ) (s work table : List ℕ) : Type 0 where
  pub accepted : Accepted n w m s
  pub marked : Marked n w m s work
  pub strung : Strung n w m count s table

-- whether pair i of the table reaches link x: its last link is x or a later one
abbrev pub pair_reaches : List ℕ → ℕ → ℕ → Bool
pair_reaches table x i = leb x (get_or table i 0)

-- what circuit j of the file is given
unfoldable pub given_in : ℕ → ℕ → ℕ → List ℕ → ℕ → Assignment
given_in n w m s j = given n w (circuits_in m s) (rows n w (circuits_in m s)) j

-- fibre and wavelength are what circuit j is given: one of 2 m fibres, and a wavelength of two bytes
pub record PlacedAt (n w m : ℕ) (s : List ℕ) (j fibre wavelength : ℕ) : Type 0 where
  pub fibre_is : fibre ≡ (given_in n w m s j).fibre
  pub wavelength_is : wavelength ≡ (given_in n w m s j).wavelength
  pub fibre_few : fibre ≤ 2 * m
  pub wavelength_small : wavelength ≤ 65535

-- the record of what circuit j is given, at its place in the list
unfoldable pub put_assignment : ℕ → ℕ → ℕ → List ℕ → ℕ → List ℕ → List ℕ
put_assignment n w m s j out = put_record out j (assignment_record 0 (circuit (circuits_in m s) j) (given_in n w m s j))

-- the records of what the first j circuits are given
unfoldable pub records_to : ℕ → ℕ → ℕ → List ℕ → ℕ → List ℕ
records_to n w m s j = assignment_records 0 (each (circuit (circuits_in m s)) 0 j) (each (given_in n w m s) 0 j)
