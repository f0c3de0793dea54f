-- The verdict of a table, test by test and piece by piece: what the returns of a chain of tests ask. Assumes nothing.
use Prim.Native.Nat.{ℕ, ◌*◌, ◌/◌, ◌≤◌}
use mathlib.Core.Path.{◌≡◌, refl}
use mathlib.Core.List.{List, [], ◌∷◌, ◌++◌}
use mathlib.Core.Option.{none, some}
use native.Mathlib.Omega.{arith}
use lib.ListN.{length}
use Rattle.records.specs.declared.Line.{Line}
use Rattle.std.specs.Prelude.{Ok, Err}
use Rattle.refusals.specs.declared.Refusal.{Refusal}
use Rattle.refusals.specs.Table.{Row, tested, verdict, file_rows, line_rows, circuit_rows}
use Rattle.refusals.proofs.First.{verdict_passed}
use Rattle.refusals.proofs.Passed.{passed1, passed2, passed3}
use Rattle.refusals.proofs.Pieces.{none_first, none_left, none_rest, none_right}

-- a test that refuses gives the verdict
pub gives : (row : Row) (rows : List Row) (x z : ℕ) (r : Refusal) → tested row z ≡ Err r → verdict (row ∷ rows) x ≡ Err r
unfolding verdict
gives none rows x z r e = cc
gives (some q) rows x z r e = e

-- after a test that passes the verdict is that of the rows after it
pub leaves : (row : Row) (rows : List Row) (x z y : ℕ) → tested row z ≡ Ok y → verdict (row ∷ rows) x ≡ verdict rows x
unfolding verdict
leaves none rows x z y e = refl
leaves (some q) rows x z y e = cc

-- with no row left nothing is refused
pub accepts : (x : ℕ) → verdict [] x ≡ Ok x
unfolding verdict
accepts x = refl

-- a piece that refuses gives the verdict
pub piece_gives : (rs rows : List Row) (x z : ℕ) (r : Refusal) → verdict rs z ≡ Err r → verdict (rs ++ rows) x ≡ Err r
unfolding verdict
piece_gives [] rows x z r e = cc
piece_gives (none ∷ rs) rows x z r e = piece_gives rs rows x z r e
piece_gives (some q ∷ rs) rows x z r e = cc

-- after a piece that passes the verdict is that of the pieces after it
pub piece_leaves : (rs rows : List Row) (x z y : ℕ) → verdict rs z ≡ Ok y → verdict (rs ++ rows) x ≡ verdict rows x
unfolding verdict
piece_leaves [] rows x z y e = refl
piece_leaves (none ∷ rs) rows x z y e = piece_leaves rs rows x z y e
piece_leaves (some q ∷ rs) rows x z y e = cc

-- what is found where all pieces pass
pub piece_found : (rs : List Row) (z y : ℕ) → verdict rs z ≡ Ok y → y ≡ z
piece_found rs z y e = (verdict_passed rs z y e).0

-- the file passed: it is whole records
pub file_whole : (s : List ℕ) (z y : ℕ) → verdict (file_rows s) z ≡ Ok y → 8 * (length s / 8) ≤ length s
unfolding file_rows
file_whole s z y e = let p = passed1 s (none_first _ _ (verdict_passed (file_rows s) z y e).1) in omega arith

-- the file passed: there are at most 2,048 circuits
pub file_few : (s : List ℕ) (z y : ℕ) → verdict (file_rows s) z ≡ Ok y → length s / 8 ≤ 2048
unfolding file_rows
file_few s z y e = passed2 (length s / 8) (none_first _ _ (none_rest _ _ (verdict_passed (file_rows s) z y e).1))

-- tests 1 to 7 and 12 passed: there are at most 2,048 circuits
pub circuits_few : (line : Line) (s : List ℕ) (z y : ℕ) → verdict (circuit_rows line s) z ≡ Ok y → length s / 8 ≤ 2048
unfolding circuit_rows file_rows
circuits_few line s z y e =
    let p = none_left (file_rows s) _ (verdict_passed (circuit_rows line s) z y e).1 in
    passed2 (length s / 8) (none_first _ _ (none_rest _ _ p))

-- tests 1 to 7 and 12 passed: there are at most 512 links
pub circuits_short : (line : Line) (s : List ℕ) (z y : ℕ) → verdict (circuit_rows line s) z ≡ Ok y → line.links ≤ 512
unfolding circuit_rows line_rows
circuits_short line s z y e =
    let p = none_left (line_rows line) _ (none_right (file_rows s) _ (verdict_passed (circuit_rows line s) z y e).1) in
    (passed3 512 line.links (none_first _ _ p)).1

-- the line passed: it has at most 512 links
pub line_short : (line : Line) (z y : ℕ) → verdict (line_rows line) z ≡ Ok y → line.links ≤ 512
unfolding line_rows
line_short line z y e = (passed3 512 line.links (none_first _ _ (verdict_passed (line_rows line) z y e).1)).1
