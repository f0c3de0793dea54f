-- `put_record` meets its contract: the part that was lent comes back as record i. Assumes nothing.
use Prim.Native.Nat.{◌+◌, ◌*◌}
use mathlib.Core.List.{◌++◌}
use lib.ListN.{take}
use native.Mathlib.Omega.{arith}
use borrow.Rule.Slice.PartMut.{Post-is}
use Rattle.records.specs.Records.{put_record}
use Rattle.records.proofs.put_record.Goals as goal

pub returns : goal.returns
unfolding put_record
returns g c = let a = c.args in
    λ k. take (8 * a.i) a.list.now ++ (c.write.ensures k ++ Post-is (8 * a.i) (8 * a.i + 8) a.list.now (omega arith) k)
