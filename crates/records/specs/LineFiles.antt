-- The file of a line. What a reader must believe.
-- Assumes nothing.
use Rattle.std.specs.Prelude.{ℕ, Bool, cond, List, [], ◌++◌, length, eqb, Option, Some, None}
use Rattle.records.specs.Bytes.{le16, bytes16}
use Rattle.records.specs.declared.Line.{Line}

-- the line on a grid whose n and w, in this order, are the first 4 bytes
unfoldable pub line_on : List ℕ → ℕ → Line
line_on s grid = record { links = le16 s 0; wavelengths = le16 s 2; grid = grid }

-- what `line.rec` says: exactly 4 bytes mean grid 1, exactly 6 have the grid last
unfoldable pub line_in : List ℕ → Option Line
line_in s = cond (eqb (length s) 4) (Some (line_on s 1)) (cond (eqb (length s) 6) (Some (line_on s (le16 s 4))) None)

-- the bytes of `line.rec`: n, then w, and then the grid if it is named
unfoldable pub line_bytes : ℕ → ℕ → ℕ → Bool → List ℕ
line_bytes n w grid named = bytes16 n ++ bytes16 w ++ cond named (bytes16 grid) []
