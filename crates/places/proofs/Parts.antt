-- Some of a file as a file of their own: who is in it, its loads, its order. Assumes nothing.
use Prim.Native.Nat.{◌+◌, ◌<◌, ◌≤◌, suc, zero, ℕ}
use lib.ListN.{get_or-append, get_or, length, length-append, length-map}
use lib.Seq.{get_or-append_seam}
use mathlib.Core.Bool.{Bool, cond, true}
use mathlib.Core.List.{List, [], ◌++◌, ◌∷◌, map}
use mathlib.Core.Path.{◌∙◌, ◌≡◌, ap, refl, sym}
use native.Mathlib.Omega.{arith}
use Rattle.basics.specs.Tools.{count}
use Rattle.basics.proofs.Bools.{by_eq, by_le, on}
use Rattle.basics.proofs.Counts.{count_rank, pigeonhole}
use Rattle.records.specs.declared.Circuit.{Circuit}
use Rattle.method.specs.Demands.{Rearranged}
use Rattle.method.specs.Line.{Distinct, Lies, circuit, nobody, uses}
use Rattle.method.specs.Sheet.{load}
use Rattle.places.specs.Parts.{PartOf, picked, those}

-- as many as pass
length_those : (p : ℕ → Bool) (m : ℕ) → length (those p m) ≡ count p m
unfolding those count
length_those p zero = refl
length_those p (suc m) =
    length-append (those p m) (cond (p m) (m ∷ []) [])
    ∙ on (p m) (λ e. rw e (omega (arith, length_those p m))) (λ e. rw e (omega (arith, length_those p m)))

-- one that passes stands at the place that counts those before it
pub those_at : (p : ℕ → Bool) (m j : ℕ) → j < m → p j ≡ true → get_or (those p m) (count p j) 0 ≡ j
unfolding those
those_at p zero j l e = absurd (omega arith)
those_at p (suc m) j l e =
    by_eq j m
    (λ q.
    let e' : p m ≡ true = rw q at e in
    rw (q, e') (ap (λ x. get_or (those p m ++ m ∷ []) x 0) (sym (length_those p m)) ∙ get_or-append_seam (those p m) m [] 0))
    (λ q.
    get_or-append (those p m) (cond (p m) (m ∷ []) []) 0 (count p j) (omega (arith, length_those p m, count_rank p j m (omega arith) e))
    ∙ those_at p m j (omega arith) e)

-- at each place stands one that passes
pub those_are : (p : ℕ → Bool) (m r : ℕ) → r < count p m → (get_or (those p m) r 0 < m) × (p (get_or (those p m) r 0) ≡ true) × (count p (get_or (those p m) r 0) ≡ r)
unfolding those count
those_are p zero r l = absurd (omega arith)
those_are p (suc m) r l =
    by_le (suc r) (count p m)
    (λ h.
    let e = get_or-append (those p m) (cond (p m) (m ∷ []) []) 0 r (omega (arith, length_those p m)) in
    let ih = those_are p m r h in
    let ih₀ = ih.0 in
    rw e (omega arith, ih.1, ih.2))
    (λ h.
    on (p m)
    (λ t.
    let z : r ≡ length (those p m) = let l' : r < 1 + count p m = rw t at l in omega (arith, length_those p m) in
    let e : get_or (those p m ++ m ∷ []) r 0 ≡ m = ap (λ x. get_or (those p m ++ m ∷ []) x 0) z ∙ get_or-append_seam (those p m) m [] 0 in
    rw (t, e) (omega arith, t, omega (arith, length_those p m)))
    (λ t. absurd (let l' : r < 0 + count p m = rw t at l in omega arith)))

-- a list made from another, place by place
pub get_d_map : (f : ℕ → Circuit) (l : List ℕ) (r : ℕ) → r < length l → get_or (map f l) r nobody ≡ f (get_or l r 0)
get_d_map f [] r h = absurd (omega arith)
get_d_map f (a ∷ l) zero h = refl
get_d_map f (a ∷ l) (suc r) h = get_d_map f l r (omega arith)

module _ (p : ℕ → Bool) (cs : List Circuit) where
  -- how many circuits pass
  pub length_picked : length (picked p cs) ≡ count p (length cs)
  unfolding picked
  length_picked = length-map (those p (length cs)) (circuit cs) ∙ length_those p (length cs)

  -- THE CIRCUITS THAT PASS, in the order of the file, are a part of it: circuit j stands at the place that counts those before it
  unfoldable pub picked_part : PartOf p cs (picked p cs)
  unfolding picked circuit
  picked_part =
      record {
        rank = count p;
        origin = λ r. get_or (those p (length cs)) r 0;
        in_part = λ j l e. (omega (arith, length_picked, count_rank p j (length cs) l e), those_at p (length cs) j l e);
        from_file = λ r l. those_are p (length cs) r (omega (arith, length_picked));
        same = λ r l. get_d_map (λ j. get_or cs j nobody) (those p (length cs)) r (omega (arith, length-map (those p (length cs)) (circuit cs)));
      }

-- A PART OF A FILE
module _ {p : ℕ → Bool} {cs part : List Circuit} (a : PartOf p cs part) where
  -- one that passes is in it
  pub part_at : (j : ℕ) → j < length cs → p j ≡ true → circuit part (a.rank j) ≡ circuit cs j
  part_at j l e = let x = a.in_part j l e in a.same (a.rank j) x.0 ∙ ap (circuit cs) x.1

  -- two that pass have two places
  pub rank_one : (i j : ℕ) → i < length cs → j < length cs → p i ≡ true → p j ≡ true → a.rank i ≡ a.rank j → i ≡ j
  rank_one i j li lj ei ej e = sym (a.in_part i li ei).1 ∙ ap a.origin e ∙ (a.in_part j lj ej).1

  -- it lies on the line
  pub part_lies : (n : ℕ) → Lies n cs → Lies n part
  unfolding circuit
  part_lies n lies r l = rw (a.same r l) (lies (a.origin r) (a.from_file r l).0)

  -- no number stands twice in it
  pub part_distinct : Distinct cs → Distinct part
  part_distinct once r s lr ls e =
      let x = a.from_file r lr in
      let y = a.from_file s ls in
      let z : a.origin r ≡ a.origin s = once (a.origin r) (a.origin s) x.0 y.0 (sym (ap (λ c. c.number) (a.same r lr)) ∙ e ∙ ap (λ c. c.number) (a.same s ls)) in
      sym x.2 ∙ ap a.rank z ∙ y.2

  -- its load is at most that of the file
  pub part_load : (x : ℕ) → load part x ≤ load cs x
  unfolding load
  part_load x =
      pigeonhole (λ r. uses (circuit part r) x) (length part) (λ j. uses (circuit cs j) x) (length cs) a.origin
      (λ r l u. ((a.from_file r l).0, sym (ap (λ c. uses c x) (a.same r l)) ∙ u))
      (λ r s lr ls u v e. sym (a.from_file r lr).2 ∙ ap a.rank e ∙ (a.from_file s ls).2)

-- the circuits that pass, by the place that counts those before
module _ (p : ℕ → Bool) (cs : List Circuit) where
  -- each has its place
  pub rank_below : (j : ℕ) → j < length cs → p j ≡ true → count p j < length (picked p cs)
  unfolding picked_part
  rank_below j l e = ((picked_part p cs).in_part j l e).0

  -- and stands there
  pub picked_at : (j : ℕ) → j < length cs → p j ≡ true → circuit (picked p cs) (count p j) ≡ circuit cs j
  unfolding picked_part
  picked_at j l e = part_at (picked_part p cs) j l e

  -- two have two places
  pub picked_one : (i j : ℕ) → i < length cs → j < length cs → p i ≡ true → p j ≡ true → count p i ≡ count p j → i ≡ j
  unfolding picked_part
  picked_one = rank_one (picked_part p cs)

-- TESTS THAT AGREE leave a part a part
unfoldable pub part_same : {p q : ℕ → Bool} {cs part : List Circuit} → ((j : ℕ) → j < length cs → p j ≡ q j) → PartOf p cs part → PartOf q cs part
part_same same a =
    record {
      rank = a.rank;
      origin = a.origin;
      in_part = λ j l e. a.in_part j l (same j l ∙ e);
      from_file = λ r l. let x = a.from_file r l in (x.0, sym (same (a.origin r) x.0) ∙ x.1, x.2);
      same = a.same;
    }

-- TWO FILES with the same records: a part of each, of the same circuits
pub part_rearranged : {cs ds x y : List Circuit} (h : Rearranged cs ds) {p q : ℕ → Bool} → ((i : ℕ) → i < length cs → p i ≡ q (h.there i)) → PartOf p cs x → PartOf q ds y → Rearranged x y
part_rearranged {cs = cs} {ds = ds} h {p = p} {q = q} alike a b =
    record {
      there = λ r. b.rank (h.there (a.origin r));
      back = λ r. a.rank (h.back (b.origin r));
      to = λ r l.
          let x = a.from_file r l in
          let t = h.to (a.origin r) x.0 in
          let e : q (h.there (a.origin r)) ≡ true = sym (alike (a.origin r) x.0) ∙ x.1 in
          let y = b.in_part (h.there (a.origin r)) t.0 e in
          (y.0, ap (λ j. a.rank (h.back j)) y.1 ∙ ap a.rank t.1 ∙ x.2, a.same r l ∙ t.2 ∙ sym (part_at b (h.there (a.origin r)) t.0 e));
      fro = λ r l.
          let x = b.from_file r l in
          let t = h.fro (b.origin r) x.0 in
          let e : p (h.back (b.origin r)) ≡ true = alike (h.back (b.origin r)) t.0 ∙ ap q t.1 ∙ x.1 in
          let y = a.in_part (h.back (b.origin r)) t.0 e in
          (y.0, ap (λ i. b.rank (h.there i)) y.1 ∙ ap b.rank t.1 ∙ x.2, b.same r l ∙ t.2 ∙ sym (part_at a (h.back (b.origin r)) t.0 e));
    }

-- a file is a rearrangement of itself
abbrev pub rearranged_self : (cs : List Circuit) → Rearranged cs cs
rearranged_self cs = record { there = λ i. i; back = λ i. i; to = λ i l. (l, refl, refl); fro = λ i l. (l, refl, refl) }
