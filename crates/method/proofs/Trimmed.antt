-- A valid plan without its dark fibres and links: it is valid, none is dark, and no link has more fibres than before. Assumes nothing.
use Prim.Native.Nat.{◌+◌, ◌-◌, ◌<◌, ◌≤◌, suc, zero, ℕ}
use lib.ListN.{get_or, length}
use mathlib.Core.Bool.{false, true}
use mathlib.Core.List.{List}
use mathlib.Core.Path.{◌∙◌, ◌≡◌, ap, subst, sym}
use native.Mathlib.Omega.{arith}
use Rattle.basics.specs.Tools.{count, sum}
use Rattle.basics.proofs.Bools.{by_le, clash, never, on}
use Rattle.basics.proofs.Sums.{sum_le}
use Rattle.basics.proofs.Tables.{length_each}
use Rattle.records.specs.declared.Circuit.{Circuit}
use Rattle.method.specs.Fibres.{runs}
use Rattle.method.specs.Line.{Fibre, Lies, Plan, Valid, circuit, fibre_under, fibres_over, no_fibre, over, tally, total, uses}
use Rattle.method.specs.Lit.{fibre_number, lit, new_fibre, stretches, stretches_to, trimmed}
use Rattle.method.proofs.FibreLists.{all_get_d, at_most_one, tally_append, tally_count}
use Rattle.method.proofs.Lengths.{sum_total, sum_total_le}
use Rattle.method.proofs.Links.{lies_there, uses_first, uses_last}
use Rattle.method.proofs.PairPlaces.{Rising, rising_at, runs_rising}
use Rattle.method.proofs.Runs.{Maximal, over_first, over_last, over_of, runs_in}
use Rattle.method.proofs.Stretches.{old_layer, lights, lit_by, lit_on, new_is, one_stretch, place_in, stretch_begins, stretch_found, stretch_maximal, stretch_within, stretch_of, stretches_maximal, to_at, to_before, to_grows, to_next, to_on, to_one, to_split, under_new, wavelength_stays}

module _ (n w : ℕ) (cs : List Circuit) (p : Plan) (lies : Lies n cs) (v : Valid w cs p) where
  -- HOW MANY OVER A LINK
  -- a lit link of a fibre is under it
  lit_over : (q x : ℕ) → lit cs p q x ≡ true → over (get_or p.fibres (q - 1) no_fibre) x ≡ true
  unfolding fibre_under
  lit_over q x e =
      let r = lit_by cs p q x e in
      let a = v.within r.0 r.1 in
      ap (λ f. over (get_or p.fibres (f - 1) no_fibre) x) (sym r.2)
      ∙ over_of (fibre_under p r.0) x (omega (arith, uses_first _ x r.3)) (omega (arith, uses_last _ x r.3))

  -- of what fibres 1 to q become, no more pass over a link than of these
  to_over : (x : ℕ) → 1 ≤ x → x ≤ n → (q : ℕ) → tally (λ f. over f x) (stretches_to n cs p q) ≤ count (λ r. over (get_or p.fibres r no_fibre) x) q
  unfolding stretches_to stretches tally count
  to_over x a b zero = omega arith
  to_over x a b (suc q) =
      let ih = to_over x a b q in
      let h = old_layer n cs p (suc q) in
      let z : suc q - 1 ≡ q = omega arith in
      rw (tally_append (λ f. over f x) (stretches_to n cs p q) (runs h (lit cs p (suc q)) 1 n), runs_in h (lit cs p (suc q)) 1 n x a (omega arith))
      (on (lit cs p (suc q) x)
      (λ e. let o : over (get_or p.fibres q no_fibre) x ≡ true = ap (λ r. over (get_or p.fibres r no_fibre) x) (sym z) ∙ lit_over (suc q) x e in rw (e, o) (omega arith))
      (λ e. rw e (omega arith)))

  -- no link has more fibres than before
  pub trimmed_over : (x : ℕ) → 1 ≤ x → x ≤ n → fibres_over (trimmed n cs p).fibres x ≤ fibres_over p.fibres x
  unfolding trimmed fibres_over
  trimmed_over x a b = omega (arith, to_over x a b (length p.fibres), tally_count (λ f. over f x) p.fibres)

  -- and the fibres are together no longer
  pub trimmed_total : total (trimmed n cs p).fibres ≤ total p.fibres
  trimmed_total =
      let t : sum (fibres_over (trimmed n cs p).fibres) n ≡ total (trimmed n cs p).fibres = unfold trimmed in sum_total (stretches_to n cs p (length p.fibres)) n (to_on n cs p (length p.fibres)) in
      omega (arith, t, sum_le (fibres_over (trimmed n cs p).fibres) (fibres_over p.fibres) n trimmed_over, sum_total_le p.fibres n)

  -- CIRCUIT j
  module _ (j : ℕ) (l : j < length cs) where
    -- its old fibre is one more than some
    old_is : suc (fibre_number p j - 1) ≡ fibre_number p j
    old_is = let a = v.numbered j l in omega arith

    -- its place is among what its old fibre becomes
    place_in_lem : place_in n cs p j < length (stretches n cs p (suc (fibre_number p j - 1)))
    place_in_lem = rw old_is (stretch_found n cs p lies j l).0

    -- its new fibre's number
    number_is : fibre_number (trimmed n cs p) j ≡ suc (length (stretches_to n cs p (fibre_number p j - 1)) + place_in n cs p j)
    unfolding new_fibre place_in
    number_is = new_is n cs p j l

    -- its new fibre
    pub under_is : fibre_under (trimmed n cs p) j ≡ stretch_of n cs p j
    under_is = let a = v.numbered j l in under_new n cs p lies j l a.0 a.1

    -- has the layer of the old one
    pub layer_stays : (fibre_under (trimmed n cs p) j).layer ≡ (fibre_under p j).layer
    unfolding fibre_under
    layer_stays = ap (λ f. f.layer) under_is ∙ (stretch_maximal n cs p lies j l).here

    -- and lies within it
    pub within_old : ((fibre_under p j).first ≤ (fibre_under (trimmed n cs p) j).first) × ((fibre_under (trimmed n cs p) j).last ≤ (fibre_under p j).last)
    unfolding fibre_under
    within_old =
        let f = stretch_of n cs p j in
        let m = stretch_maximal n cs p lies j l in
        let m₁ = m.some in
        let e = under_is in
        let q = fibre_number p j in (
          omega (arith, ap (λ f. f.first) e, over_first _ f.first (lit_over q f.first (m.pass f.first (omega arith) m₁))),
          omega (arith, ap (λ f. f.last) e, over_last _ f.last (lit_over q f.last (m.pass f.last m₁ (omega arith)))),
        )

    -- no circuit of its old fibre uses the link before its new fibre, or the link after
    pub ends_dark : (d : ℕ) → d < length cs → fibre_number p d ≡ fibre_number p j
        → (uses (circuit cs d) ((fibre_under (trimmed n cs p) j).first - 1) ≡ false) × (uses (circuit cs d) (suc (fibre_under (trimmed n cs p) j).last) ≡ false)
    ends_dark d b e =
        let f = stretch_of n cs p j in
        let m = stretch_maximal n cs p lies j l in
        let q = fibre_number p j in
        let shine : (x : ℕ) → uses (circuit cs d) x ≡ true → lit cs p q x ≡ true = λ x u. (ap (λ r. lit cs p r x) (sym e) ∙ lights cs p d x b u) in
        rw under_is (
          never (uses (circuit cs d) (f.first - 1))
              (λ u. let o = lit_on cs p n (lies_there n cs lies) q (f.first - 1) (shine (f.first - 1) u) in
              clash (lit cs p q (f.first - 1)) (shine (f.first - 1) u) (stretch_begins n cs p lies j l (omega (arith, o.0)))),
          never (uses (circuit cs d) (suc f.last))
              (λ u. let o = lit_on cs p n (lies_there n cs lies) q (suc f.last) (shine (suc f.last) u) in
              clash (lit cs p q (suc f.last)) (shine (suc f.last) u) (m.stop (omega (arith, o.1)))),
        )

  -- THE PLAN IS VALID
  pub trimmed_valid : Valid w cs (trimmed n cs p)
  unfolding trimmed
  trimmed_valid =
      record {
        all_assigned = length_each _ 0 (length cs);
        numbered = λ j l. (
          omega (arith, number_is j l),
          (let a = v.numbered j l in omega (arith, number_is j l, place_in_lem j l, to_next n cs p (fibre_number p j - 1), to_grows n cs p (suc (fibre_number p j - 1)) (length p.fibres) (omega arith))),
        );
        within = λ j l. rw (under_is j l) (stretch_within n cs p lies j l);
        wavelength_in = λ j l. rw (wavelength_stays n cs p j l) (v.wavelength_in j l);
        apart = λ i j a b q o e t.
            let f : fibre_number p i - 1 ≡ fibre_number p j - 1 = to_one n cs p _ _ (place_in n cs p i) (place_in n cs p j) (place_in_lem i a) (place_in_lem j b) (omega (arith, number_is i a, number_is j b)) in
            v.apart i j a b q o (omega (arith, old_is i a, old_is j b)) (omega (arith, wavelength_stays n cs p i a, wavelength_stays n cs p j b));
      }

  -- THE NUMBERS: by old fibre
  pub by_old : (d j : ℕ) → d < length cs → j < length cs → fibre_number p d < fibre_number p j → fibre_number (trimmed n cs p) d < fibre_number (trimmed n cs p) j
  by_old d j a b h =
      omega (arith, number_is d a, number_is j b, to_before n cs p (fibre_number p d - 1) (fibre_number p j - 1) (place_in n cs p d) (place_in n cs p j) (omega (arith, old_is d a, old_is j b)) (place_in_lem d a))

  -- then by left end
  pub by_left_end : (d j : ℕ) → d < length cs → j < length cs → fibre_number p d ≡ fibre_number p j
      → (fibre_under (trimmed n cs p) d).first < (fibre_under (trimmed n cs p) j).first → fibre_number (trimmed n cs p) d < fibre_number (trimmed n cs p) j
  unfolding stretch_of
  by_left_end d j a b e h =
      let fs = stretches n cs p (fibre_number p j) in
      let fd : Fibre = get_or fs (place_in n cs p d) no_fibre in
      let fj : Fibre = get_or fs (place_in n cs p j) no_fibre in
      let rising : Rising fs = unfold stretches in runs_rising (old_layer n cs p (fibre_number p j)) (lit cs p (fibre_number p j)) 1 n in
      let ud : fibre_under (trimmed n cs p) d ≡ fd = under_is d a ∙ ap (λ q. get_or (stretches n cs p q) (place_in n cs p d) no_fibre) e in
      let uj : fibre_under (trimmed n cs p) j ≡ fj = under_is j b in
      let bd : place_in n cs p d < length fs = subst (λ q. place_in n cs p d < length (stretches n cs p q)) e (stretch_found n cs p lies d a).0 in
      let m : fj.first ≤ fj.last = (stretch_maximal n cs p lies j b).some in
      let h' : fd.first < fj.first = omega (arith, ap (λ f. f.first) ud, ap (λ f. f.first) uj) in
      let z : place_in n cs p d < place_in n cs p j =
      by_le (place_in n cs p j) (place_in n cs p d)
      (λ c.
      absurd (on_same (place_in n cs p j) (place_in n cs p d) fs rising c bd m h'))
      (λ c. c) in
      let y : length (stretches_to n cs p (fibre_number p d - 1)) ≡ length (stretches_to n cs p (fibre_number p j - 1)) = ap (λ q. length (stretches_to n cs p (q - 1))) e in
      omega (arith, number_is d a, number_is j b)
    where
      -- a later fibre of a rising list does not begin before an earlier one
      on_same : (x y : ℕ) (fs : _) → Rising fs → x ≤ y → y < length fs → (get_or fs x no_fibre).first ≤ (get_or fs x no_fibre).last → (get_or fs y no_fibre).first < (get_or fs x no_fibre).first → ⊥
      on_same x y fs r c b m h =
          by_le y x (λ g. let z : x ≡ y = omega arith in omega (arith, ap (λ q. (get_or fs q no_fibre).first) z))
          (λ g. omega (arith, rising_at fs r x y g b))

  -- and one fibre for a run
  pub one_for_a_run : (d j : ℕ) → d < length cs → j < length cs → fibre_number p d ≡ fibre_number p j
      → (fibre_under (trimmed n cs p) d).first ≡ (fibre_under (trimmed n cs p) j).first → fibre_number (trimmed n cs p) d ≡ fibre_number (trimmed n cs p) j
  unfolding stretch_of
  one_for_a_run d j a b e h =
      let fs = stretches n cs p (fibre_number p j) in
      let x = (stretch_of n cs p j).first in
      let md = stretch_maximal n cs p lies d a in
      let mj = stretch_maximal n cs p lies j b in
      let md₁ = md.some in
      let mj₁ = mj.some in
      let mj₂ = mj.to in
      let h' : (stretch_of n cs p d).first ≡ x = ap (λ f. f.first) (sym (under_is d a)) ∙ h ∙ ap (λ f. f.first) (under_is j b) in
      let od : over (get_or fs (place_in n cs p d) no_fibre) x ≡ true = subst (λ q. over (get_or (stretches n cs p q) (place_in n cs p d) no_fibre) x ≡ true) e (over_of (stretch_of n cs p d) x (omega arith) (omega arith)) in
      let pl : place_in n cs p d ≡ place_in n cs p j =
      at_most_one (λ f. over f x) fs (one_stretch n cs p (fibre_number p j) x mj.from (omega arith)) (place_in n cs p d) (place_in n cs p j)
      (subst (λ q. place_in n cs p d < length (stretches n cs p q)) e (stretch_found n cs p lies d a).0) (stretch_found n cs p lies j b).0
      od (over_of (stretch_of n cs p j) x (omega arith) (omega arith)) in
      omega (arith, number_is d a, number_is j b, ap (λ q. length (stretches_to n cs p (q - 1))) e)

  -- NOTHING IS DARK
  -- link x of what the fibre after q becomes is used by a circuit that is given just this
  rider : (q y x : ℕ) → y < length (stretches n cs p (suc q)) → over (get_or (stretches n cs p (suc q)) y no_fibre) x ≡ true
      → (j : ℕ) × (j < length cs) × (fibre_number (trimmed n cs p) j ≡ suc (length (stretches_to n cs p q) + y)) × (uses (circuit cs j) x ≡ true)
  unfolding stretch_of
  rider q y x h o =
      let f : Fibre = get_or (stretches n cs p (suc q)) y no_fibre in
      let m : Maximal (old_layer n cs p (suc q)) (lit cs p (suc q)) 1 n f = all_get_d (Maximal (old_layer n cs p (suc q)) (lit cs p (suc q)) 1 n) (stretches n cs p (suc q)) (stretches_maximal n cs p (suc q)) y h in
      let a = over_first f x o in
      let b = over_last f x o in
      let r = lit_by cs p (suc q) x (m.pass x a b) in
      let one = one_stretch n cs p (suc q) x (omega (arith, m.from)) (omega (arith, m.to)) in
      (r.0, r.1, here r.0 r.1 r.2 r.3 one, r.3)
    where
      -- such a circuit is given it
      here : (j : ℕ) → j < length cs → fibre_number p j ≡ suc q → uses (circuit cs j) x ≡ true → tally (λ g. over g x) (stretches n cs p (suc q)) ≤ 1
          → fibre_number (trimmed n cs p) j ≡ suc (length (stretches_to n cs p q) + y)
      here j l e u one =
          let s = stretch_within n cs p lies j l in
          let ov : over (get_or (stretches n cs p (suc q)) (place_in n cs p j) no_fibre) x ≡ true =
          subst (λ r. over (get_or (stretches n cs p r) (place_in n cs p j) no_fibre) x ≡ true) e (over_of (stretch_of n cs p j) x (omega (arith, uses_first _ x u)) (omega (arith, uses_last _ x u))) in
          let pl : place_in n cs p j ≡ y =
          at_most_one (λ g. over g x) (stretches n cs p (suc q)) one (place_in n cs p j) y (subst (λ r. place_in n cs p j < length (stretches n cs p r)) e (stretch_found n cs p lies j l).0) h ov o in
          let z : fibre_number p j - 1 ≡ q = omega arith in
          omega (arith, number_is j l, ap (λ r. length (stretches_to n cs p r)) z)

  -- each link of each fibre is used by a circuit of that fibre
  pub none_dark : (g x : ℕ) → g < length (trimmed n cs p).fibres → over (get_or (trimmed n cs p).fibres g no_fibre) x ≡ true
      → (j : ℕ) × (j < length cs) × (fibre_number (trimmed n cs p) j ≡ suc g) × (uses (circuit cs j) x ≡ true)
  unfolding trimmed
  none_dark g x h o =
      let s = to_split n cs p (length p.fibres) g h in
      let q = s.0 in
      let y = s.1 in
      let e : get_or (stretches_to n cs p (length p.fibres)) g no_fibre ≡ get_or (stretches n cs p (suc q)) y no_fibre =
      ap (λ z. get_or (stretches_to n cs p (length p.fibres)) z no_fibre) s.4 ∙ to_at n cs p q (length p.fibres) y s.2 s.3 in
      let r = rider q y x s.3 (ap (λ f. over f x) (sym e) ∙ o) in
      (r.0, r.1, r.2 ∙ ap suc (sym s.4), r.3)
