-- The lent areas. What a reader must believe.
-- Assumes nothing.
use Rattle.std.specs.Prelude.{ℕ, List, ◌++◌, drop, replicate}

-- the three lent areas, as bytes
pub record Areas : Type 0 where
  pub fibres : List ℕ
  pub assigns : List ℕ
  pub work : List ℕ

-- the areas of these bytes
abbrev pub areas : List ℕ → List ℕ → List ℕ → Areas
areas fibres assigns work = record { fibres = fibres; assigns = assigns; work = work }

-- a work area of which the first k bytes are zeroed
unfoldable pub zeroed_to : ℕ → List ℕ → List ℕ
zeroed_to k work = replicate k 0 ++ drop k work
