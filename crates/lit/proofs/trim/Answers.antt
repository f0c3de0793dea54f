-- `trim` meets its contract: the chains are made, the sweep begins with nothing listed, and what it leaves is `Lean`. Assumes nothing.
use mathlib.Core.Path.{refl}
use Rattle.basics.proofs.Tables.{zeros_at}
use Rattle.lit.proofs.Whole.{origin, held_unchained, held_ground, held_start, held_done}
use Rattle.lit.proofs.trim.Goals as goal

pub by_fibre-requires : goal.by_fibre-requires
by_fibre-requires c = let t = c.requires in held_unchained t t.plan t.held _ _ refl refl (zeros_at 4096)

pub trim_all-requires : goal.trim_all-requires
trim_all-requires c = let t = c.requires in record {
  fibres = t.fibres_few;
  swept_some = record { file = t.file; origin = origin t t.plan t.held; ground = held_ground t t.plan t.held _ _ c.by_fibre.ensures; swept = held_start t t.plan t.held };
}

pub returns : goal.returns
returns c = let t = c.requires in let a = c.trim_all in
    λ p h. let g = held_ground t p h _ _ c.by_fibre.ensures in held_done t p h _ _ _ _ a.result g (a.ensures (origin t p h) g (held_start t p h))
