-- The search for the lowest-numbered fibre that has a place for a circuit. Assumes nothing.
use Prim.Native.Nat.{◌+◌, ◌*◌, ◌-◌, ◌<◌, ◌≤◌, suc, ℕ}
use borrow.Author.Rules.{rules}
use borrow.Author.Tests.{eq-eqb, le-leb, leb-false, lt-leb, ltb-false, ltb-true, ne_eqb}
use lib.Dec.{leb, ltb}
use lib.ListN.{get_or, length, set}
use lib.Seq.{get_or-set_other, get_or-set_same}
use mathlib.Core.Bool.{Bool, ◌&&◌, cond, false, not, true}
use mathlib.Core.List.{List}
use mathlib.Core.Logic.{◌≢◌}
use mathlib.Core.Path.{◌∙◌, ◌≡◌, ap, refl, sym}
use native.Mathlib.Nat.{one-mul, zero-add, zero-mul}
use native.Mathlib.Omega.{arith}
use Rattle.std.specs.Prelude.{None, Option, Some, is_some}
use Rattle.std.proofs.lemmas.Option.{cond_some, none-some}
use Rattle.basics.specs.Tools.{seek}
use Rattle.basics.proofs.Bools.{and_false, and_l, by_eq, by_le, clash, on}
use Rattle.basics.proofs.Searches.{seek_first, seek_ge, seek_hit, seek_miss, seek_none, seek_same}
use Rattle.basics.proofs.Tables.{get_d_each, length_each}
use Rattle.records.specs.Records.{fibre_of, record_at}
use Rattle.records.specs.declared.Circuit.{Circuit}
use Rattle.records.specs.declared.FibreRecord.{FibreRecord}
use Rattle.method.specs.Line.{Assignment, Fibre, no_fibre}
use Rattle.places.specs.Places.{Rider, fibre_at, free, free_fibre, free_wavelength, place, spans, has_place}
use Rattle.register.specs.Plans.{span_of}
use Rattle.placing.specs.Riding.{Chained, Riding, spans_of}
use Rattle.placing.specs.Found.{Spotted, spot_of, told}
use Rattle.placing.specs.declared.Spot.{Spot}
use Rattle.placing.specs.inner.Marking.{up_to}
use Rattle.placing.specs.inner.Spots.{Columns, CornersHold, Offers, before, open_to, spans_in, within}
use Rattle.placing.proofs.CornerLaws.{corner_hit}

-- one fibre for each record
pub length_spans_of : (many : ℕ) (s : List ℕ) → length (spans_of many s) ≡ many
unfolding spans_of
length_spans_of many s = length_each (λ i. span_of (fibre_of (record_at s i))) 0 many

-- fibre q is what its record says
pub fibre_is : (many : ℕ) (s : List ℕ) (q : ℕ) → 1 ≤ q → q ≤ many → fibre_at (spans_of many s) q ≡ span_of (fibre_of (record_at s (q - 1)))
unfolding spans_of
fibre_is many s q a b = get_d_each (λ i. span_of (fibre_of (record_at s i))) 0 many (q - 1) no_fibre (omega arith) ∙ ap (λ i. span_of (fibre_of (record_at s i))) (zero-add (q - 1))

-- whether fibre q spans a circuit, by its record
pub record_spans : (many : ℕ) (s : List ℕ) (q : ℕ) (f : FibreRecord) (c : Circuit) → 1 ≤ q → q ≤ many → f ≡ fibre_of (record_at s (q - 1)) → spans (fibre_at (spans_of many s) q) c ≡ leb f.first c.first && leb c.last f.last
unfolding spans
record_spans many s q f c a b e = ap (λ (x : Fibre). leb x.first c.first && leb c.last x.last) (fibre_is many s q a b) ∙ sym (ap (λ (x : FibreRecord). leb x.first c.first && leb c.last x.last) e)

-- COLUMNS. One fibre for each entry
pub length_spans_in : (many : ℕ) (firsts lasts : List ℕ) → length (spans_in many firsts lasts) ≡ many
unfolding spans_in
length_spans_in many firsts lasts = length_each _ 0 many

-- fibre q has the ends that its entries say
span_first : (many : ℕ) (firsts lasts : List ℕ) (q : ℕ) → 1 ≤ q → q ≤ many → (fibre_at (spans_in many firsts lasts) q).first ≡ get_or firsts (q - 1) 0
unfolding spans_in
span_first many firsts lasts q a b = ap (λ (f : Fibre). f.first) (get_d_each _ 0 many (q - 1) no_fibre (omega arith)) ∙ ap (λ (i : ℕ). get_or firsts i 0) (zero-add (q - 1))

span_last : (many : ℕ) (firsts lasts : List ℕ) (q : ℕ) → 1 ≤ q → q ≤ many → (fibre_at (spans_in many firsts lasts) q).last ≡ get_or lasts (q - 1) 0
unfolding spans_in
span_last many firsts lasts q a b = ap (λ (f : Fibre). f.last) (get_d_each _ 0 many (q - 1) no_fibre (omega arith)) ∙ ap (λ (i : ℕ). get_or lasts i 0) (zero-add (q - 1))

-- fibres with the same ends have the same places
pub same_ends : (fs gs : List Fibre) → length fs ≡ length gs → ((q : ℕ) → 1 ≤ q → q ≤ length gs → ((fibre_at fs q).first ≡ (fibre_at gs q).first) × ((fibre_at fs q).last ≡ (fibre_at gs q).last))
    → (lo hi : ℕ) (rs : List Rider) (c : Circuit) → place fs lo hi rs c ≡ place gs lo hi rs c
unfolding place free_fibre has_place spans
same_ends fs gs n h lo hi rs c =
    let e : seek (has_place fs lo hi rs c) 1 (length fs) ≡ seek (has_place gs lo hi rs c) 1 (length gs) =
    ap (seek (has_place fs lo hi rs c) 1) n
    ∙ seek_same (has_place fs lo hi rs c) (has_place gs lo hi rs c) 1 (length gs) (λ x a b. let y = h x a (omega arith) in rw (y.0, y.1)) in
    rw (e, n)

-- so the columns of the fibre records have the places of the fibres
pub columns_place : (many : ℕ) (fibres firsts lasts : List ℕ) → Columns many fibres firsts lasts
    → (lo hi : ℕ) (rs : List Rider) (c : Circuit) → place (spans_in many firsts lasts) lo hi rs c ≡ place (spans_of many fibres) lo hi rs c
columns_place many fibres firsts lasts k lo hi rs c =
    let n = length_spans_of many fibres in
    same_ends (spans_in many firsts lasts) (spans_of many fibres) (length_spans_in many firsts lasts ∙ sym n)
    (λ q a b.
    let z = fibre_is many fibres q a (omega arith) in (
      span_first many firsts lasts q a (omega arith) ∙ k.first_is (q - 1) (omega arith) ∙ sym (ap (λ (f : Fibre). f.first) z),
      span_last many firsts lasts q a (omega arith) ∙ k.last_is (q - 1) (omega arith) ∙ sym (ap (λ (f : Fibre). f.last) z),
    ))
    lo hi rs c

-- whether fibre q spans c, by the columns
span_is : (many : ℕ) (firsts lasts : List ℕ) (c : Circuit) (q : ℕ) → 1 ≤ q → q ≤ many → spans (fibre_at (spans_in many firsts lasts) q) c ≡ leb (get_or firsts (q - 1) 0) c.first && leb c.last (get_or lasts (q - 1) 0)
unfolding spans
span_is many firsts lasts c q a b = rw (span_first many firsts lasts q a b, span_last many firsts lasts q a b)

-- TESTS AS NUMBERS, 1 for true and 0 for false: a product of two
pub ones_fit : (a b : ℕ) → a ≤ 1 → b ≤ 1 → a * b ≤ 1
ones_fit a b l r =
    by_eq a 0
    (λ e. let z = ap (λ (x : ℕ). x * b) e ∙ zero-mul b in omega arith)
    (λ e. let one : a ≡ 1 = omega arith in let z = ap (λ (x : ℕ). x * b) one ∙ one-mul b in omega arith)

-- says that both hold
pub ones_and : (a b : Bool) (x y z : ℕ) → x ≡ cond a 1 0 → y ≡ cond b 1 0 → z ≡ x * y → z ≡ cond (a && b) 1 0
ones_and true b x y z e f g = g ∙ ap (λ (v : ℕ). v * y) e ∙ one-mul y ∙ f
ones_and false b x y z e f g = g ∙ ap (λ (v : ℕ). v * y) e ∙ zero-mul y

-- what is left to 1 says that it does not hold
pub ones_not : (a : Bool) (x : ℕ) → x ≡ cond a 1 0 → 1 - x ≡ cond (not a) 1 0
ones_not true x e = ap (λ (v : ℕ). 1 - v) e
ones_not false x e = ap (λ (v : ℕ). 1 - v) e

-- a test that is not 0 holds
pub ones_hit : (a : Bool) (x : ℕ) → x ≡ cond a 1 0 → x ≢ 0 → a ≡ true
ones_hit true x e h = refl
ones_hit false x e h = absurd (h e)

-- one that is 0 does not
pub ones_miss : (a : Bool) (x : ℕ) → x ≡ cond a 1 0 → x ≡ 0 → a ≡ false
ones_miss true x e h = absurd (omega arith)
ones_miss false x e h = refl

-- a column that is filled one entry further
pub column_more : (F : List ℕ) (i v : ℕ) (f : ℕ → ℕ) → i < length F → v ≡ f i → ((d : ℕ) → d < i → get_or F d 0 ≡ f d) → (d : ℕ) → d < i + 1 → get_or (set F i v) d 0 ≡ f d
column_more F i v f l e h d b =
    by_eq d i
    (λ q. ap (λ (x : ℕ). get_or (set F i v) x 0) q ∙ get_or-set_same F i v 0 l ∙ e ∙ ap f (sym q))
    (λ q. get_or-set_other F i d v 0 q ∙ h d (omega arith))

-- THE NEXT ENTRY that passes
pub next_some : (p : ℕ → Bool) (many from i : ℕ) → from ≤ many → Some i ≡ before many (seek p from (many - from)) → (seek p from (many - from) ≡ i) × (from ≤ i) × (i < many)
unfolding before
next_some p many from i l e =
    let y = cond_some (ltb (seek p from (many - from)) many) (seek p from (many - from)) i (sym e) in
    let b = ltb-true (seek p from (many - from)) many y.0 in
    let a = seek_ge p from (many - from) in
    let y₁ = y.1 in
    (y.1, omega arith, omega arith)

-- there is none
pub next_none : (p : ℕ → Bool) (many from : ℕ) → None ≡ before many (seek p from (many - from)) → many ≤ seek p from (many - from)
unfolding before
next_none p many from e =
    on (ltb (seek p from (many - from)) many)
    (λ t. absurd (none-some (seek p from (many - from)) (e ∙ ap (λ b. cond b (Some (seek p from (many - from))) None) t)))
    (λ t. ltb-false (seek p from (many - from)) many t)

-- OPEN. A fibre that is open to c spans it
pub open_spans : (many : ℕ) (firsts lasts untils froms : List ℕ) (c : Circuit) (from i : ℕ) → seek (open_to firsts lasts untils froms c) from (many - from) ≡ i → i < many → spans (fibre_at (spans_in many firsts lasts) (i + 1)) c ≡ true
unfolding open_to
open_spans many firsts lasts untils froms c from i e l =
    let t = sym (ap (open_to firsts lasts untils froms c) e) ∙ seek_hit (open_to firsts lasts untils froms c) from (many - from) (omega arith) in
    let z : i + 1 - 1 ≡ i = omega arith in
    span_is many firsts lasts c (i + 1) (omega arith) (omega arith) ∙ ap (λ (x : ℕ). leb (get_or firsts x 0) c.first && leb c.last (get_or lasts x 0)) z ∙ and_l _ _ t

-- one that is not has no place for c
not_open : (many lo hi : ℕ) (firsts lasts untils froms : List ℕ) (rs : List Rider) (c : Circuit) (q : ℕ) → 1 ≤ q → q ≤ many → 1 ≤ c.first → CornersHold many lo hi rs untils froms → open_to firsts lasts untils froms c (q - 1) ≡ false
    → has_place (spans_in many firsts lasts) lo hi rs c q ≡ false
unfolding open_to has_place
not_open many lo hi firsts lasts untils froms rs c q a b one k e =
    let s = span_is many firsts lasts c q a b in
    on (leb (get_or firsts (q - 1) 0) c.first && leb c.last (get_or lasts (q - 1) 0))
    (λ t.
    on (within untils froms (q - 1) c)
    (λ w. rw (lt-leb (free_wavelength lo hi rs c q) hi (corner_hit many lo hi rs untils froms q c a b one w k), and_false (spans (fibre_at (spans_in many firsts lasts) q) c)) refl)
    (λ w. clash (open_to firsts lasts untils froms c (q - 1)) (rw (t, w) refl) e))
    (λ t. rw (s ∙ t) refl)

module _ (fs : List Fibre) (lo hi : ℕ) (rs : List Rider) (c : Circuit) where
  -- a fibre that spans the circuit offers its lowest free wavelength
  pub offer_free : (q : ℕ) (v : Option ℕ) → spans (fibre_at fs q) c ≡ true → v ≡ up_to hi (free_wavelength lo hi rs c q) → Offers fs lo hi rs c q v
  unfolding has_place up_to
  offer_free q v s e = rw s e

  -- one that does not offers none
  pub no_offer : (q : ℕ) → spans (fibre_at fs q) c ≡ false → Offers fs lo hi rs c q None
  unfolding has_place
  no_offer q s = rw s refl

  -- where none is offered there is no place
  pub offer_no : (q : ℕ) → Offers fs lo hi rs c q None → has_place fs lo hi rs c q ≡ false
  offer_no q o =
      on (has_place fs lo hi rs c q)
      (λ t. absurd (none-some (free_wavelength lo hi rs c q) (o ∙ ap (λ b. cond b (Some (free_wavelength lo hi rs c q)) None) t)))
      (λ t. t)

  -- no fibre before q has a place for the circuit
  abbrev pub NoneBefore : ℕ → Type 0
  NoneBefore q = (y : ℕ) → 1 ≤ y → y < q → has_place fs lo hi rs c y ≡ false

  -- nor does fibre q
  pub none_more : (q : ℕ) → Offers fs lo hi rs c q None → NoneBefore q → NoneBefore (q + 1)
  none_more q o n y a b = by_eq y q (λ e. ap (has_place fs lo hi rs c) e ∙ offer_no q o) (λ e. n y a (omega arith))

  -- the first that does is the place
  pub spot_found : (q v : ℕ) → 1 ≤ q → q ≤ length fs → NoneBefore q → Offers fs lo hi rs c q (Some v) → Spotted fs lo hi rs c (Some (record { fibre = q; wavelength = v }))
  unfolding place free_fibre spot_of
  spot_found q v a b n o =
      let t = cond_some (has_place fs lo hi rs c q) (free_wavelength lo hi rs c q) v (sym o) in
      let e : seek (has_place fs lo hi rs c) 1 (length fs) ≡ q = seek_first (has_place fs lo hi rs c) 1 (length fs) q a (omega arith) t.0 n in
      rw (e, le-leb q (length fs) b, ne_eqb q 0 (omega arith)) (ap (λ (x : ℕ). Some (let s : Spot = record { fibre = q; wavelength = x } in s)) (sym t.1))

  -- none does
  pub spot_none : (q : ℕ) → length fs < q → NoneBefore q → Spotted fs lo hi rs c None
  unfolding place free_fibre spot_of
  spot_none q h n =
      let e : seek (has_place fs lo hi rs c) 1 (length fs) ≡ 1 + length fs = seek_none (has_place fs lo hi rs c) 1 (length fs) (λ y a b. n y a (omega arith)) in
      rw (e, lt-leb (1 + length fs) (length fs) (omega arith)) refl

  -- what is told of a place is what `place` names
  pub spot_told : (s : Option Spot) → Spotted fs lo hi rs c s → told s ≡ place fs lo hi rs c
  unfolding place free_fibre spot_of told
  spot_told s e =
      let low = seek_ge (has_place fs lo hi rs c) 1 (length fs) in
      on (leb (seek (has_place fs lo hi rs c) 1 (length fs)) (length fs))
      (λ t. ap told e ∙ rw (t, ne_eqb (seek (has_place fs lo hi rs c) 1 (length fs)) 0 (omega arith)) refl)
      (λ t. ap told e ∙ rw t refl)

-- a place has a fibre
pub spot_some : (g : Assignment) (x : Spot) → Some x ≡ spot_of g → 1 ≤ x.fibre
unfolding spot_of told
spot_some g x e = by_eq g.fibre 0 (λ z. absurd (let w : Some x ≡ None = e ∙ rw (eq-eqb g.fibre 0 z) refl in search rules)) (λ z. let w : Some x ≡ Some (record { fibre = g.fibre; wavelength = g.wavelength }) = e ∙ rw (ne_eqb g.fibre 0 z) refl in let f : x.fibre ≡ g.fibre = ap (λ (o : Option Spot). (told o).fibre) w in omega (arith, f, z))

-- the search goes on from entry i to entry j: none of the fibres in between has a place for c
pub none_skipped : (many lo hi : ℕ) (firsts lasts untils froms : List ℕ) (rs : List Rider) (c : Circuit) (i j : ℕ) → j ≤ many → 1 ≤ c.first → CornersHold many lo hi rs untils froms
    → j ≤ seek (open_to firsts lasts untils froms c) i (many - i) → NoneBefore (spans_in many firsts lasts) lo hi rs c (i + 1) → NoneBefore (spans_in many firsts lasts) lo hi rs c (j + 1)
none_skipped many lo hi firsts lasts untils froms rs c i j l one k e n y a b =
    by_le y i
    (λ h. n y a (omega arith))
    (λ h.
    not_open many lo hi firsts lasts untils froms rs c y a (omega arith) one k (seek_miss (open_to firsts lasts untils froms c) i (many - i) (y - 1) (omega arith) (omega arith)))

-- the chain of the fibre of entry i
pub chained_here : (many i : ℕ) (rs : List Rider) (ends assigns heads next : List ℕ) → i < many → Riding many rs ends assigns heads next → Chained rs ends assigns next (get_or heads (i + 1 - 1) 0) (i + 1)
chained_here many i rs ends assigns heads next l r = r.chained (i + 1) (omega arith) (omega arith)

-- whether there is a number up to hi
some_up_to : (hi x : ℕ) → is_some (up_to hi x) ≡ leb x hi
unfolding up_to
some_up_to hi x = on (leb x hi) (λ t. rw t refl) (λ t. rw t refl)

-- there is none
pub none_up_to : (o : Option ℕ) (hi x : ℕ) → o ≡ up_to hi x → is_some o ≡ false → hi < x
none_up_to o hi x e n = leb-false x hi (sym (ap is_some e ∙ some_up_to hi x) ∙ n)

-- a single wavelength is free exactly if there is a free one from it to itself
pub free_alone : (rs : List Rider) (c : Circuit) (q v : ℕ) → is_some (up_to v (free_wavelength v v rs c q)) ≡ free rs c q v
unfolding free_wavelength
free_alone rs c q v =
    let one : suc v - v ≡ 1 = omega arith in
    let is : seek (free rs c q) v (suc v - v) ≡ seek (free rs c q) v 1 = ap (seek (free rs c q) v) one in
    let low = seek_ge (free rs c q) v 1 in
    some_up_to v (seek (free rs c q) v (suc v - v)) ∙ ap (λ x. leb x v) is
    ∙ by_le (seek (free rs c q) v 1) v (λ l. let h : seek (free rs c q) v 1 ≡ v = omega arith in le-leb (seek (free rs c q) v 1) v l ∙ sym (sym (ap (free rs c q) h) ∙ seek_hit (free rs c q) v 1 (omega arith)))
    (λ l. lt-leb (seek (free rs c q) v 1) v l ∙ sym (seek_miss (free rs c q) v 1 v (omega arith) (omega arith)))
