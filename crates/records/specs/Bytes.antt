-- Numbers low byte first, and 2-byte cells in a list of bytes. What a reader must believe.
-- Assumes nothing.
use Rattle.std.specs.Prelude.{ℕ, ◌+◌, ◌*◌, ◌/◌, ◌%◌, List, [], ◌∷◌, ◌++◌, get_or, set}

-- the 2-byte number at byte k, low byte first
abbrev pub le16 : List ℕ → ℕ → ℕ
le16 s k = get_or s k 0 + 256 * get_or s (k + 1) 0

-- the 4-byte number at byte k, low byte first
abbrev pub le32 : List ℕ → ℕ → ℕ
le32 s k = le16 s k + 65536 * le16 s (k + 2)

-- the two bytes of a number, low byte first
abbrev pub bytes16 : ℕ → List ℕ
bytes16 v = v % 256 ∷ v / 256 ∷ []

-- the four bytes of a number, low byte first
abbrev pub bytes32 : ℕ → List ℕ
bytes32 v = bytes16 (v % 65536) ++ bytes16 (v / 65536)

-- cell k: the 2-byte number at byte 2 k
unfoldable pub cell : List ℕ → ℕ → ℕ
cell s k = le16 s (2 * k)

-- the bytes with cell k set to v
unfoldable pub set_cell : List ℕ → ℕ → ℕ → List ℕ
set_cell s k v = set (set s (2 * k) (v % 256)) (2 * k + 1) (v / 256)

-- all cells of a list of bytes (an odd last byte belongs to none)
unfoldable pub cells_of : List ℕ → List ℕ
cells_of [] = []
cells_of (x ∷ []) = []
cells_of (x ∷ y ∷ s) = (x + 256 * y) ∷ cells_of s

-- the bytes of a list of cells
unfoldable pub encode : List ℕ → List ℕ
encode [] = []
encode (v ∷ cells) = bytes16 v ++ encode cells
