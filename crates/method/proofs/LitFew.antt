-- Without dark links a plan has at most one fibre for each circuit. Assumes nothing.
use Prim.Native.Nat.{◌<◌, ◌≤◌, suc, zero, ℕ}
use borrow.Author.Tests.{eq-eqb, eqb-true, le-leb, leb-true, lt-leb}
use lib.Dec.{eqb, leb}
use lib.ListN.{length}
use mathlib.Core.Bool.{Bool, ◌&&◌, not, true}
use mathlib.Core.List.{List}
use mathlib.Core.Path.{◌≡◌, ap}
use native.Mathlib.Omega.{arith}
use Rattle.basics.specs.Tools.{count, seek}
use Rattle.basics.proofs.Bools.{and_l, and_of, and_r, by_le, clash}
use Rattle.basics.proofs.Counts.{count_apart, count_below, pigeonhole}
use Rattle.basics.proofs.Searches.{seek_hit, seek_miss}
use Rattle.records.specs.declared.Circuit.{Circuit}
use Rattle.method.specs.Line.{Plan, circuit}
use Rattle.method.specs.Lit.{fibre_number, lit, stretches, stretches_to, trimmed}
use Rattle.method.proofs.Links.{LiesIfThere}
use Rattle.method.proofs.RunStarts.{begins_to, runs_length}
use Rattle.method.proofs.Stretches.{begins_by, dark_zero, old_layer, to_next}

module _ (n : ℕ) (cs : List Circuit) (p : Plan) (lies : LiesIfThere n cs) where
  -- a circuit of fibre q that begins at link y + 1
  starter : ℕ → ℕ → ℕ → Bool
  starter q y j = eqb (fibre_number p j) q && eqb (circuit cs j).first (suc y)

  -- it is found where a lit run begins
  starter_found : (q y : ℕ) → lit cs p q (suc y) && not (lit cs p q y) ≡ true → (seek (starter q y) 0 (length cs) < length cs) × (starter q y (seek (starter q y) 0 (length cs)) ≡ true)
  unfolding starter
  starter_found q y e =
      let r = begins_by cs p q y e in
      let b : seek (starter q y) 0 (length cs) < length cs =
      by_le (length cs) (seek (starter q y) 0 (length cs))
      (λ h. clash (starter q y r.0) (and_of _ _ (eq-eqb _ _ r.2) (eq-eqb _ _ r.3)) (seek_miss (starter q y) 0 (length cs) r.0 (omega arith) (omega (arith, r.1))))
      (λ h. h) in
      (b, seek_hit (starter q y) 0 (length cs) (omega arith))

  -- so a fibre becomes no more fibres than it has circuits
  stretches_few : (q : ℕ) → length (stretches n cs p q) ≤ count (λ j. eqb (fibre_number p j) q) (length cs)
  unfolding stretches starter begins_to
  stretches_few q =
      let g : ℕ → ℕ = λ y. seek (starter q y) 0 (length cs) in
      omega (
        arith,
        runs_length (old_layer n cs p q) (lit cs p q) n (dark_zero cs p n lies q),
        pigeonhole (λ y. lit cs p q (suc y) && not (lit cs p q y)) n (λ j. eqb (fibre_number p j) q) (length cs) g
            (λ y l e. let r = starter_found q y e in (r.0, and_l _ _ r.1))
            (λ x y a b e f t.
            let u : (circuit cs (g x)).first ≡ suc x = eqb-true _ _ (and_r (eqb (fibre_number p (g x)) q) _ (starter_found q x e).1) in
            let v : (circuit cs (g y)).first ≡ suc y = eqb-true _ _ (and_r (eqb (fibre_number p (g y)) q) _ (starter_found q y f).1) in
            omega (arith, ap (λ j. (circuit cs j).first) t)),
      )

  -- nor do fibres 1 to q
  pub to_few : (q : ℕ) → length (stretches_to n cs p q) ≤ count (λ j. leb (fibre_number p j) q) (length cs)
  to_few zero = unfold stretches_to in omega arith
  to_few (suc q) =
      omega (
        arith,
        to_few q,
        stretches_few (suc q),
        to_next n cs p q,
        count_apart (λ j. leb (fibre_number p j) q) (λ j. eqb (fibre_number p j) (suc q)) (λ j. leb (fibre_number p j) (suc q)) (length cs)
            (λ j l e. le-leb (fibre_number p j) (suc q) (let z : fibre_number p j ≤ q = leb-true _ _ e in omega arith))
            (λ j l e. let z : fibre_number p j ≡ suc q = eqb-true _ _ e in (le-leb (fibre_number p j) (suc q) (omega arith), lt-leb (fibre_number p j) q (omega arith))),
      )

  -- no more fibres than circuits
  pub trimmed_few : length (trimmed n cs p).fibres ≤ length cs
  unfolding trimmed
  trimmed_few = omega (arith, to_few (length p.fibres), count_below (λ j. leb (fibre_number p j) (length p.fibres)) (length cs))
