-- `skip`: the search goes on by N places. Assumes nothing.
use Rattle.std.proofs.Common.{arith, rules}
use Rattle.scans.proofs.ScanLaws.{came_skip}
use Rattle.scans.proofs.skip.Goals as goal

pub loop-i-preserved : goal.loop-i-preserved
loop-i-preserved g c =
    let l = c.loop-i in (
      search rules,
      search rules,
      λ p t.
          came_skip p _ _ l.i g.row.N _ (l.invariant.2 p t) (omega arith)
          (c.any_of.ensures p (λ x b k h q. t x b (omega arith) (omega arith) q)) c.if-not-any_of.true,
    )
