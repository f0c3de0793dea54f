-- The first pass: who is kept. Assumes nothing.
use Prim.Native.Nat.{◌<◌, ◌≤◌, ℕ}
use borrow.Author.Tests.{eq-eqb, eqb-true, le-leb, leb-true, ltb-false, ltb-true, ne_eqb}
use lib.Dec.{eqb, leb, ltb}
use lib.ListN.{get_or, length, length-replicate, replicate, take}
use mathlib.Core.Bool.{Bool, ◌&&◌, cond, false, not, true}
use mathlib.Core.List.{List, []}
use mathlib.Core.Logic.{◌≢◌}
use mathlib.Core.Path.{◌∙◌, ◌≡◌, ap, refl, subst, sym}
use native.Mathlib.Nat.{zero-add}
use native.Mathlib.Omega.{arith}
use Rattle.basics.specs.Tools.{each}
use Rattle.basics.proofs.Bools.{and_false, and_l, and_of, and_r, clash, on}
use Rattle.basics.proofs.Tables.{each_same, get_d_each}
use Rattle.records.specs.declared.AssignmentRecord.{AssignmentRecord}
use Rattle.records.specs.declared.Circuit.{Circuit}
use Rattle.method.specs.Line.{Assignment, Distinct, Fibre, circuit, unassigned}
use Rattle.register.specs.Plans.{place_of}
use Rattle.places.specs.Places.{Fits, Rider, fibre_at, free, given_to, rider, riders, riding, spans}
use Rattle.places.specs.Turns.{by_number, in_turn, number}
use Rattle.places.proofs.Partial.{rider_below}
use Rattle.places.proofs.PlaceLaws.{clashes_fibre, clashes_of, clashes_overlap, clashes_wavelength, free_apart, free_of, spans_first, spans_last, spans_of_lem}
use Rattle.places.proofs.RisingLaws.{Rise, each_imp, rising_are, rising_rise, turn_of_lem}
use Rattle.places.proofs.TurnLaws.{turn_at, turn_earlier, turn_keeps, turn_later}
use Rattle.additions.specs.Adding.{unplaced}
use Rattle.additions.proofs.Added.{nobody_yet, none_partly}
use Rattle.additions.proofs.Settling.{zero_unplaced}
use Rattle.additions.proofs.Turns.{Right, set_right}
use Rattle.mending.specs.Mending.{keepable, keeps, kept, record_of, sound}

-- riders who are given the same are the same
riders_alike : (cs : List Circuit) (gs hs : List Assignment) → ((d : ℕ) → d < length cs → given_to gs d ≡ given_to hs d) → riders cs gs ≡ riders cs hs
unfolding riders
riders_alike cs gs hs h =
    each_same (λ j. riding (circuit cs j) (given_to gs j)) (λ j. riding (circuit cs j) (given_to hs j)) 0 (length cs) (λ d a b. ap (riding (circuit cs d)) (h d (omega arith)))

-- a list made place by place
pub given_each : (f : ℕ → Assignment) (m d : ℕ) → d < m → given_to (each f 0 m) d ≡ f d
unfolding given_to
given_each f m d l = get_d_each f 0 m d unassigned l ∙ ap f (zero-add d)

-- who has a fibre has a place
pub some_placed : (gs : List Assignment) (j : ℕ) → (given_to gs j).fibre ≢ 0 → unplaced gs j ≡ false
unfolding unplaced
some_placed gs j h = ne_eqb (given_to gs j).fibre 0 h

module _ (w : ℕ) (fs : List Fibre) (cs : List Circuit) (rs : List AssignmentRecord) where
  -- what a record says is a place for its circuit beside gs
  abbrev pub FitsBeside : List Assignment → ℕ → Type 0
  FitsBeside gs j = Fits fs 1 w (riders cs gs) (circuit cs j) (record_of rs j).fibre (record_of rs j).wavelength

  -- WHO MAY BE KEPT: its record names it and says a place
  pub keepable_fits : (gs : List Assignment) (j : ℕ) → keepable w fs cs rs gs j ≡ true → ((record_of rs j).circuit ≡ number cs j) × FitsBeside gs j
  unfolding keepable sound
  keepable_fits gs j e =
      let r = record_of rs j in
      let c = circuit cs j in
      let A = eqb r.circuit c.number in
      let B = leb 1 r.fibre && leb r.fibre (length fs) in
      let C = spans (fibre_at fs r.fibre) c in
      let D = leb 1 r.wavelength && leb r.wavelength w in
      let abcd = and_l (A && B && C && D) _ e in
      let abc = and_l (A && B && C) D abcd in
      let d = and_r (A && B && C) D abcd in
      let ab = and_l (A && B) C abc in
      let b = and_r A B ab in
      let s = and_r (A && B) C abc in
      let free-here = and_r (A && B && C && D) _ e in (
        eqb-true r.circuit c.number (and_l A B ab),
        record {
          from_one = leb-true 1 r.fibre (and_l _ _ b);
          in_list = leb-true r.fibre (length fs) (and_r (leb 1 r.fibre) _ b);
          first_within = spans_first (fibre_at fs r.fibre) c s;
          last_within = spans_last (fibre_at fs r.fibre) c s;
          low = leb-true 1 r.wavelength (and_l _ _ d);
          high = leb-true r.wavelength w (and_r (leb 1 r.wavelength) _ d);
          free_there_lem = λ k l o p q. free_apart (riders cs gs) c r.fibre r.wavelength free-here k l (clashes_of (rider (riders cs gs) k) c r.fibre r.wavelength o p q);
        },
      )

  -- and the other way
  pub fits_keepable : (gs : List Assignment) (j : ℕ) → (record_of rs j).circuit ≡ number cs j → FitsBeside gs j → keepable w fs cs rs gs j ≡ true
  unfolding keepable sound
  fits_keepable gs j e f =
      let r = record_of rs j in
      let c = circuit cs j in
      and_of _ _
      (and_of _ _
      (and_of _ _ (and_of _ _ (eq-eqb r.circuit c.number e) (and_of _ _ (le-leb 1 r.fibre f.from_one) (le-leb r.fibre (length fs) f.in_list)))
      (spans_of_lem (fibre_at fs r.fibre) c f.first_within f.last_within))
      (and_of _ _ (le-leb 1 r.wavelength f.low) (le-leb r.wavelength w f.high)))
      (free_of (riders cs gs) c r.fibre r.wavelength
      (λ k l o.
      let x = rider (riders cs gs) k in
      f.free_there_lem k l (clashes_overlap x c r.fibre r.wavelength o) (clashes_fibre x c r.fibre r.wavelength o) (clashes_wavelength x c r.fibre r.wavelength o)))

  -- beside the same riders the same may be kept
  keepable_alike : (gs hs : List Assignment) (j : ℕ) → riders cs gs ≡ riders cs hs → keepable w fs cs rs gs j ≡ keepable w fs cs rs hs j
  unfolding keepable
  keepable_alike gs hs j e =
      ap (λ (r : List Rider). sound w fs (circuit cs j) (record_of rs j) && free r (circuit cs j) (record_of rs j).fibre (record_of rs j).wavelength) e

  -- who is keepable is given what was found
  keeps_yes : (gs : List Assignment) (j : ℕ) → keepable w fs cs rs gs j ≡ true → keeps w fs cs rs gs j ≡ place_of (record_of rs j)
  unfolding keeps
  keeps_yes gs j e = rw e

  -- who is not is given nothing
  keeps_no : (gs : List Assignment) (j : ℕ) → keepable w fs cs rs gs j ≡ false → keeps w fs cs rs gs j ≡ unassigned
  unfolding keeps
  keeps_no gs j e = rw e

  -- what is kept is a place
  keeps_fits : (gs : List Assignment) (j : ℕ) → (keeps w fs cs rs gs j).fibre ≢ 0
      → Fits fs 1 w (riders cs gs) (circuit cs j) (keeps w fs cs rs gs j).fibre (keeps w fs cs rs gs j).wavelength
  keeps_fits gs j h =
      on (keepable w fs cs rs gs j)
      (λ e. subst (λ (g : Assignment). Fits fs 1 w (riders cs gs) (circuit cs j) g.fibre g.wavelength) (sym (keeps_yes gs j e)) (keepable_fits gs j e).1)
      (λ e. absurd (h (ap (λ g. g.fibre) (keeps_no gs j e))))

  -- at first nobody has a place
  abbrev nobody_kept : List Assignment
  nobody_kept = replicate (length cs) unassigned

  -- which is right
  none_yet : Right fs w [] cs nobody_kept
  none_yet = (
    length-replicate (length cs) unassigned,
    none_partly fs 1 w [] cs (record { numbered = λ j h. no j h; within = λ j h. no j h; wavelength_in = λ j h. no j h; apart = λ i j h. no i h }),
  )
    where
      no : {C : Type 0} (j : ℕ) → (rider [] j).fibre ≢ 0 → C
      no j h = let l = rider_below [] j h in absurd (omega arith)

  -- so are those kept
  pub kept_right : Right fs w [] cs (kept w fs cs rs)
  unfolding kept
  kept_right =
      turn_keeps (keeps w fs cs rs) (Right fs w [] cs) (λ gs j y. set_right fs w [] cs gs j (keeps w fs cs rs gs j) y (keeps_fits gs j))
      (by_number (λ j. true) cs) nobody_kept none_yet

  module _ (once : Distinct cs) (numbers : (j : ℕ) → j < length cs → 1 ≤ number cs j) where
    -- those kept
    abbrev K : List Assignment
    K = kept w fs cs rs

    -- the turns
    abbrev J : List ℕ
    J = by_number (λ j. true) cs

    -- their numbers rise
    rise : Rise cs 0 J
    rise = rising_rise (λ j. true) cs (length cs) 0

    -- those kept before turn t
    abbrev before_turn : ℕ → List Assignment
    before_turn t = in_turn (keeps w fs cs rs) (take t J) nobody_kept

    -- at its turn a circuit is kept, or not
    kept_turn : (t : ℕ) → t < length J → given_to K (get_or J t 0) ≡ keeps w fs cs rs (before_turn t) (get_or J t 0)
    unfolding kept
    kept_turn t l =
        turn_at (keeps w fs cs rs) cs 0 J nobody_kept rise
        (each_imp {P = λ j. (j < length cs) × (true ≡ true)} (λ j a. (let a₀ = a.0 in omega (arith, length-replicate (length cs) unassigned))) J
        (rising_are (λ j. true) cs (length cs) 0)) t l

    -- as found, or not at all
    turn_cases : (t : ℕ) → t < length J
        → (unplaced K (get_or J t 0) ≡ not (keepable w fs cs rs (before_turn t) (get_or J t 0)))
        × (unplaced K (get_or J t 0) ≡ true → given_to K (get_or J t 0) ≡ unassigned)
        × (unplaced K (get_or J t 0) ≡ false → given_to K (get_or J t 0) ≡ place_of (record_of rs (get_or J t 0)))
    turn_cases t l =
        let j = get_or J t 0 in
        on (keepable w fs cs rs (before_turn t) j)
        (λ e.
        let is = kept_turn t l ∙ keeps_yes (before_turn t) j e in
        let s = (keepable_fits (before_turn t) j e).1 in
        let no : unplaced K j ≡ false = some_placed K j (λ z. omega (arith, ap (λ g. g.fibre) is, s.from_one)) in
        (no ∙ ap not (sym e), (λ f. clash (unplaced K j) f no), λ f. is))
        (λ e.
        let is = kept_turn t l ∙ keeps_no (before_turn t) j e in
        let yes : unplaced K j ≡ true = zero_unplaced K j (ap (λ g. g.fibre) is) in
        (yes ∙ ap not (sym e), (λ f. is), λ f. clash (unplaced K j) yes f))

    -- the same of any circuit: who is not kept has nothing
    pub not_kept : (j : ℕ) → j < length cs → unplaced K j ≡ true → given_to K j ≡ unassigned
    not_kept j l =
        let t = turn_of_lem (λ j. true) cs once j l refl (numbers j l) in
        subst (λ i. unplaced K i ≡ true → given_to K i ≡ unassigned) t.2 (turn_cases t.0 t.1).1

    -- and who is has what was found
    pub is_kept : (j : ℕ) → j < length cs → unplaced K j ≡ false → given_to K j ≡ place_of (record_of rs j)
    is_kept j l =
        let t = turn_of_lem (λ j. true) cs once j l refl (numbers j l) in
        subst (λ i. unplaced K i ≡ false → given_to K i ≡ place_of (record_of rs i)) t.2 (turn_cases t.0 t.1).2

    -- those kept that have a lower number
    abbrev pub before : ℕ → List Assignment
    before j = each (λ d. cond (not (unplaced (kept w fs cs rs) d) && ltb (number cs d) (number cs j)) (place_of (record_of rs d)) unassigned) 0 (length cs)

    -- these are the riders at the turn
    before_is : (t : ℕ) → t < length J → riders cs (before_turn t) ≡ riders cs (before (get_or J t 0))
    unfolding kept
    before_is t l =
        riders_alike cs (before_turn t) (before (get_or J t 0))
        (λ d b.
        let j = get_or J t 0 in
        let s : given_to (before j) d ≡ cond (not (unplaced K d) && ltb (number cs d) (number cs j)) (place_of (record_of rs d)) unassigned =
        given_each (λ d. cond (not (unplaced K d) && ltb (number cs d) (number cs j)) (place_of (record_of rs d)) unassigned) (length cs) d b in
        on (ltb (number cs d) (number cs j))
        (λ e.
        let g : given_to (before_turn t) d ≡ given_to K d = turn_earlier (keeps w fs cs rs) cs 0 J nobody_kept rise t l d (ltb-true (number cs d) (number cs j) e) in
        on (unplaced K d)
        (λ f. g ∙ not_kept d b f ∙ sym (s ∙ (rw f)))
        (λ f. g ∙ is_kept d b f ∙ sym (s ∙ (rw (f, e)))))
        (λ e.
        turn_later (keeps w fs cs rs) cs 0 J nobody_kept rise t l d (ltb-false (number cs d) (number cs j) e)
        ∙ nobody_yet (length cs) d
        ∙ sym (s ∙ ap (λ (x : Bool). cond x (place_of (record_of rs d)) unassigned) (ap (λ (x : Bool). not (unplaced K d) && x) e ∙ and_false (not (unplaced K d))))))

    -- KEPT EXACTLY IF it may be kept beside those
    pub kept_exactly : (j : ℕ) → j < length cs → unplaced K j ≡ not (keepable w fs cs rs (before j) j)
    kept_exactly j l =
        let t = turn_of_lem (λ j. true) cs once j l refl (numbers j l) in
        let i = get_or J t.0 0 in
        subst (λ i. unplaced K i ≡ not (keepable w fs cs rs (before i) i)) t.2
        ((turn_cases t.0 t.1).0 ∙ ap not (keepable_alike (before_turn t.0) (before i) i (before_is t.0 t.1)))
