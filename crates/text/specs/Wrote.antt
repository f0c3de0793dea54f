-- What a writer leaves in a lent buffer. What a reader must believe.
-- Assumes nothing.
use Rattle.std.specs.Prelude.{ℕ, List, ◌++◌, ◌≡◌, length, drop}

-- the n bytes of a text stand at the start, and all else is as it was
abbrev pub Wrote : List ℕ → ℕ → List ℕ → List ℕ → Type 0
Wrote text n before after = (n ≡ length text) × (after ≡ text ++ drop n before)
