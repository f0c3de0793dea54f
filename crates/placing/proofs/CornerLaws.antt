-- Whom a fibre shuts out: the corner's lemma, and the walk that finds a corner. Assumes nothing.
use Prim.Native.Nat.{◌+◌, ◌*◌, ◌-◌, ◌<◌, ◌≤◌, suc, ℕ}
use borrow.Author.Tests.{le-leb, leb-true}
use lib.Dec.{leb}
use lib.ListN.{get_or, length, set}
use lib.Seq.{get_or-set_other, get_or-set_same}
use mathlib.Core.Bool.{false, true}
use mathlib.Core.List.{List}
use mathlib.Core.Logic.{⊎_elim}
use mathlib.Core.Path.{◌∙◌, ◌≡◌, ap, subst, sym}
use native.Mathlib.Omega.{arith}
use Rattle.basics.specs.Tools.{any, seek}
use Rattle.basics.proofs.Bools.{and_l, and_of, and_r, by_eq, by_le, clash, on}
use Rattle.basics.proofs.Searches.{any_true, seek_ge, seek_hit, seek_miss}
use Rattle.records.specs.Bytes.{cell}
use Rattle.records.specs.declared.Circuit.{Circuit}
use Rattle.method.specs.Line.{overlap}
use Rattle.places.specs.Places.{Rider, clashes, free, free_wavelength, rider}
use Rattle.places.proofs.PlaceLaws.{clashes_fibre, clashes_of, clashes_overlap, clashes_wavelength, free_apart, free_of}
use Rattle.placing.specs.Riding.{Among, Chain, Chained}
use Rattle.placing.specs.inner.Spots.{Bounded, Cornered, Cornering, CornersHold, ShutsOut, within}
use Rattle.placing.specs.inner.Rides.{hops}
use Rattle.placing.proofs.ChainLaws.{ended, walk_all, walk_at, walk_less, walk_on, walk_passed, walk_start}

-- where a wavelength is not free some rider clashes
taken_by : (rs : List Rider) (c : Circuit) (q v : ℕ) → free rs c q v ≡ false → (d : ℕ) × (d < length rs) × (clashes (rider rs d) c q v ≡ true)
unfolding free
taken_by rs c q v e =
    on (any (λ d. clashes (rider rs d) c q v) (length rs))
    (λ a. any_true (λ d. clashes (rider rs d) c q v) (length rs) a)
    (λ a. clash (free rs c q v) (rw a) e)

-- if each wavelength that is free for c beside rs is so for d beside ss, a fibre with none for d has none for c
pub none_either : (lo hi : ℕ) (rs ss : List Rider) (c d : Circuit) (q : ℕ) → ((v : ℕ) → free rs c q v ≡ true → free ss d q v ≡ true) → hi < free_wavelength lo hi ss d q → hi < free_wavelength lo hi rs c q
unfolding free_wavelength
none_either lo hi rs ss c d q to h =
    by_le (seek (free rs c q) lo (suc hi - lo)) hi
    (λ l.
    let g = seek_ge (free rs c q) lo (suc hi - lo) in
    let t = seek_hit (free rs c q) lo (suc hi - lo) (omega arith) in
    clash (free ss d q (seek (free rs c q) lo (suc hi - lo))) (to _ t) (seek_miss (free ss d q) lo (suc hi - lo) (seek (free rs c q) lo (suc hi - lo)) g (omega arith)))
    (λ l. l)

-- THE CORNER. Where c finds no wavelength, nor does who begins at p or before and ends at t or later: it overlaps all riders that c overlaps
pub corner_shuts : (lo hi : ℕ) (rs : List Rider) (c : Circuit) (q p t : ℕ) → hi < free_wavelength lo hi rs c q → Cornered rs c q p t → ShutsOut lo hi rs q p t
unfolding overlap
corner_shuts lo hi rs c q p t h k d one a b =
    none_either lo hi rs rs d c q
    (λ v f. free_of rs c q v (λ e l o.
    let y = k e l (clashes_fibre (rider rs e) c q v o) (clashes_overlap (rider rs e) c q v o) in
    let y₀ = y.0 in
    let y₁ = y.1 in
    free_apart rs d q v f e l
    (clashes_of (rider rs e) d q v (and_of _ _ (le-leb (rider rs e).who.first d.last (omega arith)) (le-leb d.first (rider rs e).who.last (omega arith)))
    (clashes_fibre (rider rs e) c q v o) (clashes_wavelength (rider rs e) c q v o))))
    h

-- a corner that is noted
pub corner_noted : (many lo hi : ℕ) (rs : List Rider) (untils froms : List ℕ) (q p t : ℕ) → 1 ≤ q → q ≤ many → many ≤ length untils → many ≤ length froms
    → ShutsOut lo hi rs q p t → CornersHold many lo hi rs untils froms → CornersHold many lo hi rs (set untils (q - 1) p) (set froms (q - 1) t)
corner_noted many lo hi rs untils froms q p t a b m n s k y a' b' =
    by_eq y q
    (λ e c one f g.
    let i : y - 1 ≡ q - 1 = omega arith in
    let u : get_or (set untils (q - 1) p) (y - 1) 0 ≡ p = ap (λ x. get_or (set untils (q - 1) p) x 0) i ∙ get_or-set_same untils (q - 1) p 0 (omega arith) in
    let w : get_or (set froms (q - 1) t) (y - 1) 0 ≡ t = ap (λ x. get_or (set froms (q - 1) t) x 0) i ∙ get_or-set_same froms (q - 1) t 0 (omega arith) in
    subst (λ x. hi < free_wavelength lo hi rs c x) (sym e) (s c one (omega arith) (omega arith)))
    (λ e c one f g.
    let u : get_or (set untils (q - 1) p) (y - 1) 0 ≡ get_or untils (y - 1) 0 = get_or-set_other untils (q - 1) (y - 1) p 0 (omega arith) in
    let w : get_or (set froms (q - 1) t) (y - 1) 0 ≡ get_or froms (y - 1) 0 = get_or-set_other froms (q - 1) (y - 1) t 0 (omega arith) in
    k y a' b' c one (omega arith) (omega arith))

-- who lies about a corner is shut out
pub corner_hit : (many lo hi : ℕ) (rs : List Rider) (untils froms : List ℕ) (q : ℕ) (c : Circuit) → 1 ≤ q → q ≤ many → 1 ≤ c.first → within untils froms (q - 1) c ≡ true → CornersHold many lo hi rs untils froms → hi < free_wavelength lo hi rs c q
unfolding within
corner_hit many lo hi rs untils froms q c a b one w k =
    k q a b c one (leb-true c.first (get_or untils (q - 1) 0) (and_l _ _ w)) (leb-true (get_or froms (q - 1) 0) c.last (and_r (leb c.first (get_or untils (q - 1) 0)) _ w))

-- THE WALK
module _ (rs : List Rider) (ends assigns next : List ℕ) (c : Circuit) (head q : ℕ) (h : Chained rs ends assigns next head q) where
  pub corner_start : (p t : ℕ) → Cornering rs next c q head p t
  corner_start p t = record { walk = walk_start rs ends assigns next head q h; passed = λ d l e o out. absurd (out (walk_all rs ends assigns next head q h d l e)) }

  module _ (z j p t : ℕ) (here : z ≡ suc j) (came : Cornering rs next c q z p t) where
    m : Cornering rs next c q (suc j) p t
    m = subst (λ x. Cornering rs next c q x p t) here came

    pub corner_at : (j < 2048) × (4 * j + 4 ≤ length ends)
    corner_at = let r = walk_at rs next q j m.walk in let l = r.0 in (omega (arith, h.few), omega (arith, h.room_ends))

    pub corner_less : (y : ℕ) → y ≡ get_or next j 0 → hops next 2048 y < hops next 2048 z
    corner_less y on = let w = walk_less rs next q j m.walk in let a = ap (hops next 2048) on in let b = ap (hops next 2048) here in omega arith

    pub corner_turn : (p' t' : ℕ) → p' ≤ p → t ≤ t' → Bounded (cell ends (2 * j)) (cell ends (2 * j + 1)) c p' t' → Cornering rs next c q (get_or next j 0) p' t'
    unfolding overlap
    corner_turn p' t' a b o =
        let r = walk_at rs next q j m.walk in
        let f = h.first_is j r.0 r.1 in
        let g = h.last_is j r.0 r.1 in
        record {
          walk = walk_on rs next q j m.walk;
          passed = λ d l x ov out.
              by_eq d j
              (λ i.
              let i₁ : (rider rs d).who.first ≡ cell ends (2 * j) = ap (λ k. (rider rs k).who.first) i ∙ sym f in
              let i₂ : (rider rs d).who.last ≡ cell ends (2 * j + 1) = ap (λ k. (rider rs k).who.last) i ∙ sym g in
              let s = o (and_of _ _ (le-leb _ c.last (let z = leb-true (rider rs d).who.first c.last (and_l _ _ ov) in omega arith)) (le-leb c.first _ (let z = leb-true c.first (rider rs d).who.last (and_r (leb (rider rs d).who.first c.last) _ ov) in omega arith))) in
              let s₀ = s.0 in
              let s₁ = s.1 in
              (omega arith, omega arith))
              (λ i.
              let s = m.passed d l x ov (λ k. ⊎_elim {C = ⊥} i out (walk_passed rs next q j m.walk d k)) in
              let s₀ = s.0 in
              let s₁ = s.1 in
              (omega arith, omega arith));
        }

  pub corner_end : (z p t : ℕ) → z ≡ 0 → Cornering rs next c q z p t → Cornered rs c q p t
  corner_end z p t e m d l x o = m.passed d l x o (λ a. subst (Among d) (ended next m.walk.left (subst (λ x. Chain next x m.walk.left) e m.walk.linked)) a)
