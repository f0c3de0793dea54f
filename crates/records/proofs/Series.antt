-- Records that are written one after the other, from the start of a list. Assumes nothing.
use Prim.Native.Nat.{ℕ, ◌+◌, ◌*◌}
use mathlib.Core.Path.{◌≡◌, ◌∙◌}
use mathlib.Core.List.{List, ◌++◌}
use native.Mathlib.Omega.{arith}
use lib.ListN.{length, drop}
use Rattle.records.specs.Records.{put_record}
use Rattle.records.proofs.Parts.{block_more}

-- d fills the first i records; with r as record i, d and r are written and the rest is as it was
pub put_record_more : (d r out₀ : List ℕ) (i : ℕ) → length d ≡ 8 * i → length r ≡ 8 → put_record (d ++ drop (8 * i) out₀) i r ≡ (d ++ r) ++ drop (8 * (i + 1)) out₀
unfolding put_record
put_record_more d r out₀ i l e =
    let k : 8 * (i + 1) ≡ 8 * i + 8 = omega arith in
    block_more d r out₀ (8 * i) (8 * i + 8) l (omega arith) ∙ rw k
