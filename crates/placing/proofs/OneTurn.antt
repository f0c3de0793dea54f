-- One turn: a circuit gets its place, or none. Assumes nothing.
use Prim.Native.Nat.{◌+◌, ◌*◌, ◌-◌, ◌<◌, ◌≤◌, ℕ}
use lib.ListN.{get_or, length, length-append, length-set, replicate, set}
use mathlib.Core.List.{List, ◌++◌}
use mathlib.Core.Logic.{◌≢◌}
use mathlib.Core.Path.{◌∙◌, ◌≡◌, ap, refl, subst, sym}
use native.Mathlib.Omega.{arith}
use Rattle.basics.proofs.Bools.{by_le}
use Rattle.basics.proofs.Tables.{zeros_at}
use Rattle.records.specs.Records.{assignment_bytes, assignment_of, circuit_of, circuits_in, put_record, record_at}
use Rattle.records.specs.declared.AssignmentRecord.{AssignmentRecord}
use Rattle.records.specs.declared.Circuit.{Circuit}
use Rattle.records.proofs.Files.{length_circuits_in}
use Rattle.records.proofs.Inverse.{assignment_read_written}
use Rattle.method.specs.Line.{Assignment, Fibre, circuit}
use Rattle.method.proofs.Circuits.{circuit_in_lem}
use Rattle.places.specs.Places.{Rider, given_to, clashes, place, rider, riders, riding}
use Rattle.places.specs.Turns.{number}
use Rattle.places.proofs.PlaceLaws.{clashes_fibre, free_apart, free_of, place_lowest}
use Rattle.places.proofs.RiderLaws.{append_set, length_riders, rider_is, rider_new, rider_other, riders_set}
use Rattle.additions.specs.Adding.{finds}
use Rattle.placing.specs.Riding.{Riding}
use Rattle.placing.specs.Turns.{given_bytes}
use Rattle.placing.specs.inner.Rides.{noted}
use Rattle.placing.specs.inner.Spots.{CornersHold}
use Rattle.placing.specs.inner.Standing.{PlacedOne, Seated, Standing}
use Rattle.placing.proofs.CornerLaws.{none_either}
use Rattle.records.proofs.RecordLaws.{length_put_record, record_other, record_same}
use Rattle.placing.proofs.RideLaws.{none_rides, rides}

-- zeros shut out nobody
pub corners_none : (many lo hi : ℕ) (rs : List Rider) (untils froms : List ℕ) (n : ℕ) → untils ≡ replicate n 0 → CornersHold many lo hi rs untils froms
corners_none many lo hi rs untils froms n e q a b c one f g = absurd (let z = ap (λ l. get_or l (q - 1) 0) e ∙ zeros_at n (q - 1) in omega arith)

-- RIDERS ONLY COME: whom a fibre shuts out it shuts out later too
pub corners_stay : (many lo hi : ℕ) (rs : List Rider) (j : ℕ) (r : Rider) (untils froms : List ℕ) → (rider rs j).fibre ≡ 0 → CornersHold many lo hi rs untils froms → CornersHold many lo hi (set rs j r) untils froms
corners_stay many lo hi rs j r untils froms z k q a b c one f g =
    none_either lo hi (set rs j r) rs c c q
    (λ v u. free_of rs c q v (λ d l o.
    let i : d ≢ j = λ e. absurd (let y = clashes_fibre (rider rs d) c q v o in let x = ap (λ i. (rider rs i).fibre) e in omega arith) in
    free_apart (set rs j r) c q v u d (omega (arith, length-set rs j r)) (ap (λ x. clashes x c q v) (rider_other rs j d r i) ∙ o)))
    (k q a b c one f g)

-- the bytes of a record that holds what a circuit is given
pub given_bytes_lem : (ds : List Circuit) (j : ℕ) (g : Assignment) (x f v : ℕ) → x ≡ number ds j → f ≡ g.fibre → v ≡ g.wavelength → assignment_bytes (record { circuit = x; fibre = f; wavelength = v }) ≡ given_bytes ds j g
given_bytes_lem ds j g x f v a b c =
    ap (λ y. assignment_bytes (record { circuit = y; fibre = f; wavelength = v })) a ∙ ap (λ y. assignment_bytes (record { circuit = number ds j; fibre = y; wavelength = v })) b
    ∙ ap (λ y. assignment_bytes (record { circuit = number ds j; fibre = g.fibre; wavelength = y })) c

module _ (many w : ℕ) (old : List Rider) (ds : List Circuit) (gs : List Assignment) where
  -- how many ride
  pub riders_many : length (old ++ riders ds gs) ≡ length old + length ds
  riders_many = length-append old (riders ds gs) ∙ ap (λ k. length old + k) (length_riders ds gs)

  -- new circuit i as a rider
  pub rider_of_new : (i : ℕ) → i < length ds → rider (old ++ riders ds gs) (length old + i) ≡ riding (circuit ds i) (given_to gs i)
  rider_of_new i l = rider_new old (riders ds gs) i ∙ rider_is ds gs i l

  -- who is given g
  pub riders_given : (i : ℕ) (g : Assignment) → length gs ≡ length ds → old ++ riders ds (set gs i g) ≡ set (old ++ riders ds gs) (length old + i) (riding (circuit ds i) g)
  riders_given i g e = ap (λ l. old ++ l) (riders_set ds gs i g e) ∙ append_set old (riders ds gs) i (riding (circuit ds i) g)

  module _ (i : ℕ) (g : Assignment) (ends assigns assigns' heads next untils froms : List ℕ) (l : i < length ds) (free-yet : (given_to gs i).fibre ≡ 0) (room : 8 * (length old + length ds) ≤ length assigns)
      (put : assigns' ≡ put_record assigns (length old + i) (given_bytes ds i g)) (h : Standing many w old ds gs ends assigns heads next untils froms)
    where
      -- the others' records stay
      others : (d : ℕ) → d < length (old ++ riders ds gs) → d ≢ length old + i → record_at assigns' d ≡ record_at assigns d
      others d b n = ap (λ s. record_at s d) put ∙ record_other assigns (length old + i) (given_bytes ds i g) d (omega arith) refl n

      long : length assigns' ≡ length assigns
      long = ap length put ∙ length_put_record assigns (length old + i) (given_bytes ds i g) (omega arith) refl

      none_yet : (rider (old ++ riders ds gs) (length old + i)).fibre ≡ 0
      none_yet = ap (λ (r : Rider). r.fibre) (rider_of_new i l) ∙ free-yet

      -- it has no place
      pub turn_none : g.fibre ≡ 0 → Standing many w old ds (set gs i g) ends assigns' heads next untils froms
      turn_none e =
          record {
            one_each = length-set gs i g ∙ h.one_each;
            riding = subst (λ rs. Riding many rs ends assigns' heads next) (sym (riders_given i g h.one_each))
                (none_rides many (old ++ riders ds gs) (length old + i) (riding (circuit ds i) g) ends assigns assigns' heads next (omega (arith, riders_many)) none_yet e long others h.riding);
            corners = subst (λ rs. CornersHold many 1 w rs untils froms) (sym (riders_given i g h.one_each)) (corners_stay many 1 w (old ++ riders ds gs) (length old + i) (riding (circuit ds i) g) untils froms none_yet h.corners);
          }

      -- it rides
      pub turn_rides : (ends' heads' next' : List ℕ) (c : Circuit) → c ≡ circuit ds i → 1 ≤ g.fibre → g.fibre ≤ many → g.wavelength < 96 → many ≤ length heads → length old + length ds ≤ length next
          → ends' ≡ noted c (length old + i) ends → heads' ≡ set heads (g.fibre - 1) (length old + i + 1) → next' ≡ set next (length old + i) (get_or heads (g.fibre - 1) 0)
          → Standing many w old ds (set gs i g) ends' assigns' heads' next' untils froms
      turn_rides ends' heads' next' c ec a b fits wide deep e₁ e₂ e₃ =
          record {
            one_each = length-set gs i g ∙ h.one_each;
            riding = subst (λ rs. Riding many rs ends' assigns' heads' next') (sym (riders_given i g h.one_each))
                (rides many (old ++ riders ds gs) (length old + i) (circuit ds i) g.fibre g.wavelength ends assigns ends' assigns' heads heads' next next' (omega (arith, riders_many)) none_yet a b wide
                (omega (arith, riders_many)) fits long others
                (ap (λ s. (assignment_of (record_at s (length old + i))).wavelength) put
                ∙ ap (λ s. (assignment_of s).wavelength) (record_same assigns (length old + i) (given_bytes ds i g) (omega arith) refl)
                ∙ ap (λ (x : AssignmentRecord). x.wavelength) (assignment_read_written (record { circuit = number ds i; fibre = g.fibre; wavelength = g.wavelength })))
                (e₁ ∙ ap (λ x. noted x (length old + i) ends) ec) e₂ e₃ h.riding);
            corners = subst (λ rs. CornersHold many 1 w rs untils froms) (sym (riders_given i g h.one_each)) (corners_stay many 1 w (old ++ riders ds gs) (length old + i) (riding (circuit ds i) g) untils froms none_yet h.corners);
          }

-- fibre q and wavelength v are the place that `place` names; both are 0 if there is none
abbrev pub Told : List Fibre → ℕ → ℕ → List Rider → Circuit → ℕ → ℕ → Type 0
Told fs lo hi rs c q v = (q ≡ (place fs lo hi rs c).fibre) × (v ≡ (place fs lo hi rs c).wavelength)

-- what is known of a place that was found
spot_fits : (fs : List Fibre) (lo hi : ℕ) (rs : List Rider) (c : Circuit) (q v : ℕ) → Told fs lo hi rs c q v → 1 ≤ q → (q ≤ length fs) × (v ≤ hi)
spot_fits fs lo hi rs c q v s one =
    let s₀ = s.0 in
    let s₁ = s.1 in
    let f = (place_lowest fs lo hi rs c (omega arith)).fits in
    (omega (arith, f.in_list), omega (arith, f.high))

-- found or not, its fibre is not past the list
pub spot_in_list : (fs : List Fibre) (lo hi : ℕ) (rs : List Rider) (c : Circuit) (q v : ℕ) → Told fs lo hi rs c q v → q ≤ length fs
spot_in_list fs lo hi rs c q v s = by_le 1 q (λ one. (spot_fits fs lo hi rs c q v s one).0) (λ none. omega arith)

-- A TURN AS THE CODE HAS IT: circuit i of the file `new`, behind mo old ones, found fibre q and wavelength v, and its record was written
module _ (many w mo m i : ℕ) (new : List ℕ) (fs : List Fibre) (old : List Rider) (gs : List Assignment) (ends assigns assigns' heads next untils froms untils' froms' : List ℕ) (c : Circuit) (q v : ℕ)
    (l : i < m) (ec : c ≡ circuit_of (record_at new i)) (eo : length old ≡ mo) (free-yet : (given_to gs i).fibre ≡ 0) (room : 8 * (mo + m) ≤ length assigns)
    (said : assigns' ≡ put_record assigns (mo + i) (assignment_bytes (record { circuit = c.number; fibre = q; wavelength = v })))
    (h : Standing many w old (circuits_in m new) gs ends assigns heads next untils froms)
    (spot : Told fs 1 w (old ++ riders (circuits_in m new) gs) c q v × CornersHold many 1 w (old ++ riders (circuits_in m new) gs) untils' froms')
  where
    it_is : c ≡ circuit (circuits_in m new) i
    it_is = ec ∙ sym (circuit_in_lem m new i l)

    found : (q ≡ (finds fs w old (circuits_in m new) gs i).fibre) × (v ≡ (finds fs w old (circuits_in m new) gs i).wavelength)
    unfolding finds
    found =
        let e : place fs 1 w (old ++ riders (circuits_in m new) gs) c ≡ place fs 1 w (old ++ riders (circuits_in m new) gs) (circuit (circuits_in m new) i) = ap (place fs 1 w (old ++ riders (circuits_in m new) gs)) it_is in
        (spot.0.0 ∙ ap (λ (g : Assignment). g.fibre) e, spot.0.1 ∙ ap (λ (g : Assignment). g.wavelength) e)

    written : assigns' ≡ put_record assigns (length old + i) (given_bytes (circuits_in m new) i (finds fs w old (circuits_in m new) gs i))
    written =
        said ∙ ap (λ k. put_record assigns (k + i) (assignment_bytes (record { circuit = c.number; fibre = q; wavelength = v }))) (sym eo)
        ∙ ap (put_record assigns (length old + i)) (given_bytes_lem (circuits_in m new) i (finds fs w old (circuits_in m new) gs i) c.number q v (ap (λ (x : Circuit). x.number) it_is) found.0 found.1)

    stood : Standing many w old (circuits_in m new) gs ends assigns heads next untils' froms'
    stood = record { one_each = h.one_each; riding = h.riding; corners = spot.1 }

    -- it has no place
    one_none : q ≡ 0 → PlacedOne many w old (circuits_in m new) fs gs i assigns ends assigns' heads next untils' froms'
    one_none e =
        record {
          said = written;
          stands = let n = length_circuits_in m new in turn_none many w old (circuits_in m new) gs i (finds fs w old (circuits_in m new) gs i) ends assigns assigns' heads next untils' froms' (omega arith) free-yet (omega arith) written stood (sym found.0 ∙ e);
        }

    -- it rides
    one_rides : (x : ℕ) (ends' heads' next' : List ℕ) → x ≡ q → 1 ≤ x → length fs ≡ many → w < 96 → many ≤ length heads → mo + m ≤ length next
        → ends' ≡ noted c (mo + i) ends → heads' ≡ set heads (x - 1) (mo + i + 1) → next' ≡ set next (mo + i) (get_or heads (x - 1) 0)
        → PlacedOne many w old (circuits_in m new) fs gs i assigns ends' assigns' heads' next' untils' froms'
    one_rides x ends' heads' next' ex one fm few wide deep e₁ e₂ e₃ =
        let n = length_circuits_in m new in
        let g : Assignment = finds fs w old (circuits_in m new) gs i in
        let y : x ≡ g.fibre = ex ∙ found.0 in
        let f = spot_fits fs 1 w (old ++ riders (circuits_in m new) gs) c q v spot.0 (omega arith) in
        let f₀ = f.0 in
        let f₁ = f.1 in
        let f₂ = found.0 in
        let f₃ = found.1 in
        record {
          said = written;
          stands = turn_rides many w old (circuits_in m new) gs i g ends assigns assigns' heads next untils' froms' (omega arith) free-yet (omega arith) written stood ends' heads' next' c it_is (omega arith) (omega arith) (omega arith) wide (omega arith)
              (e₁ ∙ ap (λ k. noted c (k + i) ends) (sym eo)) (e₂ ∙ ap (λ k. set heads (x - 1) (k + i + 1)) (sym eo) ∙ ap (λ k. set heads (k - 1) (length old + i + 1)) y)
              (e₃ ∙ ap (λ k. set next (k + i) (get_or heads (x - 1) 0)) (sym eo) ∙ ap (λ k. set next (length old + i) (get_or heads (k - 1) 0)) y);
        }

    -- either way, as its record and its chain tell
    pub one_seated : (ends' heads' next' : List ℕ) → length fs ≡ many → w < 96 → many ≤ length heads → mo + m ≤ length next → Seated c q v (mo + i) assigns ends heads next assigns' ends' heads' next'
        → PlacedOne many w old (circuits_in m new) fs gs i assigns ends' assigns' heads' next' untils' froms'
    one_seated ends' heads' next' fm few wide deep s =
        by_le 1 q (λ one. let r = s.rides one in one_rides q ends' heads' next' refl one fm few wide deep r.0 r.1 r.2)
        (λ none.
        let z = s.none (omega arith) in
        subst (λ x. PlacedOne many w old (circuits_in m new) fs gs i assigns x assigns' heads' next' untils' froms') (sym z.0)
        (subst (λ x. PlacedOne many w old (circuits_in m new) fs gs i assigns ends assigns' x next' untils' froms') (sym z.1)
        (subst (λ x. PlacedOne many w old (circuits_in m new) fs gs i assigns ends assigns' heads x untils' froms') (sym z.2) (one_none (omega arith)))))
