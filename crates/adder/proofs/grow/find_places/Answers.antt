-- `find_places` meets its contract: the new circuits are sorted, and placed in that order. Assumes nothing.
use borrow.Author.Rules.{rules}
use Prim.Native.Nat.{◌/◌}
use lib.ListN.{length}
use native.Mathlib.Omega.{arith}
use Rattle.adder.proofs.Growing.{from_first, old_given}
use Rattle.adder.proofs.grow.find_places.Goals as goal

pub place_new-requires : goal.place_new-requires
place_new-requires c = let a = c.args in let k = length a.old.now / 8 in let m = length a.new.now / 8 in let n = c.requires.asked.0 in let W = c.requires.asked.1 in let h = c.requires.asked.2 in
    let waves = h.olds.waves.1 in
    let room = h.fibre_room in record {
      room = (h.olds.file.whole, h.news.file.whole, h.few, search rules, h.few_fibres, omega (arith, room), omega (arith, waves), h.assign_room, c.requires.room);
      files = (
        old_given n a.w k m a.many a.old.now a.new.now a.fibres.now a.assigns.now W h,
        h.news.file.distinct,
        c.sort.ensures.1,
        h.from_one,
        from_first n a.w k m a.many a.old.now a.new.now a.fibres.now a.assigns.now W h,
      );
    }
