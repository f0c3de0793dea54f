-- Numbers stored in bytes, low byte first.
-- Assumes nothing.
use Rattle.std.specs.Prelude.{ℕ, ◌+◌, ◌/◌, ◌%◌, List, set}

-- the bytes with the 2-byte number at byte k set to v
abbrev pub set16 : List ℕ → ℕ → ℕ → List ℕ
set16 s k v = set (set s k (v % 256)) (k + 1) (v / 256)

-- the bytes with the 4-byte number at byte k set to v
abbrev pub set32 : List ℕ → ℕ → ℕ → List ℕ
set32 s k v = set16 (set16 s k (v % 65536)) (k + 2) (v / 65536)
