-- The place that is found is the lowest, and none is found exactly if there is none. Assumes nothing.
use Prim.Native.Nat.{◌-◌, ◌<◌, ◌≤◌, suc, ℕ}
use borrow.Author.Tests.{eq-eqb, eqb-true, le-leb, leb-false, leb-true, not-true}
use lib.Dec.{eqb, leb}
use lib.ListN.{length}
use mathlib.Core.Bool.{◌&&◌, true}
use mathlib.Core.List.{List}
use mathlib.Core.Logic.{◌≢◌}
use mathlib.Core.Path.{◌∙◌, ◌≡◌, ap, ap₂, subst, sym}
use native.Mathlib.Omega.{arith}
use Rattle.basics.specs.Tools.{any, seek}
use Rattle.basics.proofs.Bools.{and_l, and_of, and_r, by_le, clash, on}
use Rattle.basics.proofs.Searches.{any_false, any_true, seek_ge, seek_hit, seek_miss}
use Rattle.records.specs.declared.Circuit.{Circuit}
use Rattle.method.specs.Line.{Assignment, Fibre, overlap, unassigned}
use Rattle.places.specs.Places.{Fits, Lowest, NoPlace, Placing, Rider, SameRiders, clashes, fibre_at, free, free_fibre, free_wavelength, has_place, place, rider, spans}

-- a fibre that spans a circuit begins no later
pub spans_first : (f : Fibre) (c : Circuit) → spans f c ≡ true → f.first ≤ c.first
unfolding spans
spans_first f c e = leb-true f.first c.first (and_l _ _ e)

-- and ends no earlier
pub spans_last : (f : Fibre) (c : Circuit) → spans f c ≡ true → c.last ≤ f.last
unfolding spans
spans_last f c e = leb-true c.last f.last (and_r (leb f.first c.first) _ e)

-- such a fibre spans it
pub spans_of_lem : (f : Fibre) (c : Circuit) → f.first ≤ c.first → c.last ≤ f.last → spans f c ≡ true
unfolding spans
spans_of_lem f c a b = and_of _ _ (le-leb f.first c.first a) (le-leb c.last f.last b)

-- who clashes has the fibre
pub clashes_fibre : (r : Rider) (c : Circuit) (q v : ℕ) → clashes r c q v ≡ true → r.fibre ≡ q
unfolding clashes
clashes_fibre r c q v e = eqb-true r.fibre q (and_r (overlap r.who c) _ (and_l (overlap r.who c && eqb r.fibre q) _ e))

-- and the wavelength
pub clashes_wavelength : (r : Rider) (c : Circuit) (q v : ℕ) → clashes r c q v ≡ true → r.wavelength ≡ v
unfolding clashes
clashes_wavelength r c q v e = eqb-true r.wavelength v (and_r (overlap r.who c && eqb r.fibre q) _ e)

-- and overlaps
pub clashes_overlap : (r : Rider) (c : Circuit) (q v : ℕ) → clashes r c q v ≡ true → overlap r.who c ≡ true
unfolding clashes
clashes_overlap r c q v e = and_l _ _ (and_l (overlap r.who c && eqb r.fibre q) _ e)

-- who does all three clashes
pub clashes_of : (r : Rider) (c : Circuit) (q v : ℕ) → overlap r.who c ≡ true → r.fibre ≡ q → r.wavelength ≡ v → clashes r c q v ≡ true
unfolding clashes
clashes_of r c q v o a b = and_of _ _ (and_of _ _ o (eq-eqb r.fibre q a)) (eq-eqb r.wavelength v b)

-- no rider that overlaps c has both
abbrev FreeThere : List Rider → Circuit → ℕ → ℕ → Type 0
FreeThere rs c q v = (d : ℕ) → d < length rs → overlap (rider rs d).who c ≡ true → (rider rs d).fibre ≡ q → (rider rs d).wavelength ≢ v

-- where a wavelength is free no rider clashes
pub free_apart : (rs : List Rider) (c : Circuit) (q v : ℕ) → free rs c q v ≡ true → (d : ℕ) → d < length rs → clashes (rider rs d) c q v ≡ true → ⊥
unfolding free
free_apart rs c q v e d l o = clash (clashes (rider rs d) c q v) o (any_false (λ d. clashes (rider rs d) c q v) (length rs) (not-true _ e) d l)

-- where no rider clashes it is free
pub free_of : (rs : List Rider) (c : Circuit) (q v : ℕ) → ((d : ℕ) → d < length rs → clashes (rider rs d) c q v ≡ true → ⊥) → free rs c q v ≡ true
unfolding free
free_of rs c q v h =
    on (any (λ d. clashes (rider rs d) c q v) (length rs))
    (λ e. let r = any_true (λ d. clashes (rider rs d) c q v) (length rs) e in absurd (h r.0 r.1 r.2))
    (λ e. rw e)

-- so no rider that overlaps the circuit has both
free_there_lem : (rs : List Rider) (c : Circuit) (q v : ℕ) → free rs c q v ≡ true → FreeThere rs c q v
free_there_lem rs c q v e d l o a b = free_apart rs c q v e d l (clashes_of (rider rs d) c q v o a b)

-- and the other way
there_free : (rs : List Rider) (c : Circuit) (q v : ℕ) → FreeThere rs c q v → free rs c q v ≡ true
there_free rs c q v h = free_of rs c q v (λ d l o. h d l (clashes_overlap (rider rs d) c q v o) (clashes_fibre (rider rs d) c q v o) (clashes_wavelength (rider rs d) c q v o))

-- two lists of riders of which none clashes where none of the other does leave the same free
pub free_eq : (rs ss : List Rider) (c : Circuit) (q v : ℕ) → (free rs c q v ≡ true → free ss c q v ≡ true) → (free ss c q v ≡ true → free rs c q v ≡ true) → free rs c q v ≡ free ss c q v
free_eq rs ss c q v to fro =
    on (free rs c q v) (λ e. e ∙ sym (to e)) (λ e. on (free ss c q v) (λ f. clash (free rs c q v) (fro f) e) (λ f. e ∙ sym f))

-- the order of the riders does not matter
pub free_any_order : (rs ss : List Rider) → SameRiders rs ss → (c : Circuit) (q v : ℕ) → free rs c q v ≡ free ss c q v
free_any_order rs ss h c q v =
    free_eq rs ss c q v
    (λ e. free_of ss c q v (λ d l o. let b = h.fro d l in free_apart rs c q v e b.0 b.1 (ap (λ r. clashes r c q v) (sym b.2) ∙ o)))
    (λ e. free_of rs c q v (λ d l o. let b = h.to d l in free_apart ss c q v e b.0 b.1 (ap (λ r. clashes r c q v) (sym b.2) ∙ o)))

module _ (fs : List Fibre) (lo hi : ℕ) (rs : List Rider) (c : Circuit) where
  -- the wavelength found is one of lo to hi, and free
  found_fits : (q : ℕ) → free_wavelength lo hi rs c q ≤ hi → (lo ≤ free_wavelength lo hi rs c q) × (free rs c q (free_wavelength lo hi rs c q) ≡ true)
  unfolding free_wavelength
  found_fits q h =
      let g = seek_ge (free rs c q) lo (suc hi - lo) in
      (g, seek_hit (free rs c q) lo (suc hi - lo) (omega arith))

  -- no lower one is free
  found_least : (q v : ℕ) → lo ≤ v → free rs c q v ≡ true → free_wavelength lo hi rs c q ≤ v
  unfolding free_wavelength
  found_least q v a e =
      by_le (seek (free rs c q) lo (suc hi - lo)) v (λ h. h) (λ h. clash (free rs c q v) e (seek_miss (free rs c q) lo (suc hi - lo) v a h))

  -- no place has a lower one
  fits_least : (q v : ℕ) → Fits fs lo hi rs c q v → free_wavelength lo hi rs c q ≤ v
  fits_least q v f = found_least q v f.low (there_free rs c q v f.free_there_lem)

  -- a fibre on which there is a place has one
  has_place_lem : (q v : ℕ) → Fits fs lo hi rs c q v → has_place fs lo hi rs c q ≡ true
  unfolding has_place
  has_place_lem q v f = and_of _ _ (spans_of_lem (fibre_at fs q) c f.first_within f.last_within) (le-leb (free_wavelength lo hi rs c q) hi (omega (arith, fits_least q v f, f.high)))

  -- and on one that has, what is found is a place
  place_fits : (q : ℕ) → 1 ≤ q → q ≤ length fs → has_place fs lo hi rs c q ≡ true → Fits fs lo hi rs c q (free_wavelength lo hi rs c q)
  unfolding has_place
  place_fits q a b e =
      let h : free_wavelength lo hi rs c q ≤ hi = leb-true (free_wavelength lo hi rs c q) hi (and_r (spans (fibre_at fs q) c) _ e) in
      let r = found_fits q h in
      let s : spans (fibre_at fs q) c ≡ true = and_l _ _ e in
      record {
        from_one = a;
        in_list = b;
        first_within = spans_first (fibre_at fs q) c s;
        last_within = spans_last (fibre_at fs q) c s;
        low = r.0;
        high = h;
        free_there_lem = free_there_lem rs c q (free_wavelength lo hi rs c q) r.1;
      }

  -- the circuit gets the lowest place, or there is none and it gets none
  pub place_cases_lem : {C : Type 0} → (Lowest fs lo hi rs c (place fs lo hi rs c) → C) → (NoPlace fs lo hi rs c → place fs lo hi rs c ≡ unassigned → C) → C
  unfolding place free_fibre
  place_cases_lem some none =
      let q = seek (has_place fs lo hi rs c) 1 (length fs) in
      on (leb q (length fs))
      (λ e.
      let l : q ≤ length fs = leb-true q (length fs) e in
      let g = seek_ge (has_place fs lo hi rs c) 1 (length fs) in
      let t = seek_hit (has_place fs lo hi rs c) 1 (length fs) (omega arith) in
      let z : place fs lo hi rs c ≡ record { fibre = q; wavelength = free_wavelength lo hi rs c q } = rw e in
      some (subst (Lowest fs lo hi rs c) (sym z)
      (record {
        fits = place_fits q g l t;
        lowest_fibre = λ r v f. by_le q r (λ h. h) (λ h. clash (has_place fs lo hi rs c r) (has_place_lem r v f) (seek_miss (has_place fs lo hi rs c) 1 (length fs) r f.from_one h));
        lowest_wavelength = λ v f. fits_least q v f;
      })))
      (λ e.
      let l : length fs < q = leb-false q (length fs) e in
      none (λ r v f. clash (has_place fs lo hi rs c r) (has_place_lem r v f) (seek_miss (has_place fs lo hi rs c) 1 (length fs) r f.from_one (let b = f.in_list in omega arith))) (rw e))

  -- what is found is the lowest place
  pub place_lowest : 1 ≤ (place fs lo hi rs c).fibre → Lowest fs lo hi rs c (place fs lo hi rs c)
  place_lowest h = place_cases_lem (λ y. y) (λ no z. absurd (omega (arith, ap (λ g. g.fibre) z)))

  -- none is found only if there is none
  pub none_if : (place fs lo hi rs c).fibre ≡ 0 → NoPlace fs lo hi rs c
  none_if e = place_cases_lem (λ y q v f. omega (arith, y.fits.from_one)) (λ no z. no)

  -- if there is none, none is found
  pub none_found : NoPlace fs lo hi rs c → place fs lo hi rs c ≡ unassigned
  none_found h = place_cases_lem (λ y. absurd (h _ _ y.fits)) (λ no z. z)

  -- there is one lowest place only
  pub lowest_one : (g k : Assignment) → Lowest fs lo hi rs c g → Lowest fs lo hi rs c k → g ≡ k
  lowest_one g k a b =
      let f : g.fibre ≡ k.fibre = omega (arith, a.lowest_fibre _ _ b.fits, b.lowest_fibre _ _ a.fits) in
      let w : g.wavelength ≡ k.wavelength =
      omega (
        arith,
        a.lowest_wavelength k.wavelength (subst (λ q. Fits fs lo hi rs c q k.wavelength) (sym f) b.fits),
        b.lowest_wavelength g.wavelength (subst (λ q. Fits fs lo hi rs c q g.wavelength) f a.fits),
      ) in
      ap₂ (λ (q v : ℕ). let r : Assignment = record { fibre = q; wavelength = v } in r) f w

  -- what is the lowest place is what is found
  pub place_is : (g : Assignment) → Lowest fs lo hi rs c g → place fs lo hi rs c ≡ g
  place_is g y = place_cases_lem (λ z. lowest_one (place fs lo hi rs c) g z y) (λ no z. absurd (no _ _ y.fits))

-- TWO LISTS OF RIDERS that leave the same free on the fibres of the list
module _ (fs : List Fibre) (lo hi : ℕ) (rs ss : List Rider) (c : Circuit) (same : (q v : ℕ) → 1 ≤ q → q ≤ length fs → free rs c q v ≡ free ss c q v) where
  -- have the same places
  pub fits_same : (q v : ℕ) → Fits fs lo hi rs c q v → Fits fs lo hi ss c q v
  fits_same q v f =
      record {
        from_one = f.from_one;
        in_list = f.in_list;
        first_within = f.first_within;
        last_within = f.last_within;
        low = f.low;
        high = f.high;
        free_there_lem = free_there_lem ss c q v (sym (same q v f.from_one f.in_list) ∙ there_free rs c q v f.free_there_lem);
      }

-- and the same lowest place
module _ (fs : List Fibre) (lo hi : ℕ) (rs ss : List Rider) (c : Circuit) (same : (q v : ℕ) → 1 ≤ q → q ≤ length fs → free rs c q v ≡ free ss c q v) where
  pub lowest_same : (g : Assignment) → Lowest fs lo hi rs c g → Lowest fs lo hi ss c g
  lowest_same g y =
      let back : (q v : ℕ) → Fits fs lo hi ss c q v → Fits fs lo hi rs c q v = fits_same fs lo hi ss rs c (λ q v a b. sym (same q v a b)) in
      record {
        fits = fits_same fs lo hi rs ss c same _ _ y.fits;
        lowest_fibre = λ q v f. y.lowest_fibre q v (back q v f);
        lowest_wavelength = λ v f. y.lowest_wavelength v (back g.fibre v f);
      }

  -- so the same place is found
  pub place_same : place fs lo hi rs c ≡ place fs lo hi ss c
  place_same =
      place_cases_lem fs lo hi rs c (λ y. sym (place_is fs lo hi ss c (place fs lo hi rs c) (lowest_same (place fs lo hi rs c) y)))
      (λ no z. z ∙ sym (none_found fs lo hi ss c (λ q v f. no q v (fits_same fs lo hi ss rs c (λ q v a b. sym (same q v a b)) q v f))))

-- THE ORDER OF THE RIDERS DOES NOT MATTER
pub place_any_order : (fs : List Fibre) (lo hi : ℕ) (rs ss : List Rider) (c : Circuit) → SameRiders rs ss → place fs lo hi rs c ≡ place fs lo hi ss c
place_any_order fs lo hi rs ss c h = place_same fs lo hi rs ss c (λ q v a b. free_any_order rs ss h c q v)

-- ALL THAT IS PROMISED OF A PLACE
pub placing : (fs : List Fibre) (lo hi : ℕ) (rs : List Rider) (c : Circuit) → Placing fs lo hi rs c
placing fs lo hi rs c =
    record {
      lowest = place_lowest fs lo hi rs c;
      no_other = place_is fs lo hi rs c;
      none_if = none_found fs lo hi rs c;
      none_only = none_if fs lo hi rs c;
      any_order = λ ss h. place_any_order fs lo hi rs ss c h;
    }
