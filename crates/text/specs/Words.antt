-- Quoted words as bytes. What a reader must believe.
-- Assumes nothing.
use Rattle.std.specs.Prelude.{ℕ, zero, suc, List, [], ◌∷◌}
use Prim.Native.Char.{code}
use Prim.Native.String.{String, len, char_at}

-- k characters from place i on, each by its code
unfoldable pub codes : ℕ → String → ℕ → List ℕ
codes zero s i = []
codes (suc k) s i = code (char_at s i) ∷ codes k s (suc i)

-- the bytes of words whose characters are one byte each
unfoldable pub words : String → List ℕ
words s = codes (len s) s 0
