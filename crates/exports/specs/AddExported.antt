-- What a caller of `fibre_add` names. What a reader must believe.
-- Assumes nothing.
use Rattle.std.specs.Prelude.{ℕ}
use Rattle.adder.specs.declared.Named.{Named}

-- how many old fibres and old assignments there are
abbrev pub named_of : ℕ → ℕ → Named
named_of fibres assignments = record { fibres = fibres; assignments = assignments }
