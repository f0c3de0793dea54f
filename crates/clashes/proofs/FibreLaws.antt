-- From fibre to fibre: chains of the first circuits, and what one fibre more tells of them. Assumes nothing.
use Prim.Native.Nat.{ℕ, ◌+◌, ◌≤◌}
use mathlib.Core.Bool.{true, false}
use mathlib.Core.Path.{◌≡◌, ap}
use mathlib.Core.List.{List}
use native.Mathlib.Omega.{arith}
use borrow.Author.Tests.{eq-eqb}
use lib.Dec.{eqb}
use lib.ListN.{length, get_or}
use Rattle.basics.specs.Tools.{any}
use Rattle.basics.proofs.Bools.{and_of, and_r, by_eq, clash, never}
use Rattle.basics.proofs.Searches.{any_false, any_hit, any_none, any_true}
use Rattle.records.specs.Records.{circuits_in}
use Rattle.records.specs.declared.Circuit.{Circuit}
use Rattle.records.proofs.Files.{circuits_in_at, length_circuits_in}
use Rattle.method.specs.Line.{Lies, nobody}
use Rattle.method.proofs.Circuits.{lies_at}
use Rattle.chains.specs.Riders.{OnFibres, Unchained, fibre_in}
use Rattle.clashes.specs.Clashes.{Placed, clashes_in}
use Rattle.clashes.specs.inner.Sweeps.{ApartTo, clashes_on}

-- FIBRES. A clash on one is a clash
pub on_clash : (s assigns : List ℕ) (f q : ℕ) → any (clashes_on s assigns f) q ≡ true → any (clashes_in s assigns) q ≡ true
on_clash s assigns f q e = let t = any_true (clashes_on s assigns f) q e in any_hit (clashes_in s assigns) q t.0 t.1 (and_r (eqb (fibre_in assigns t.0) f) _ t.2)

-- one fibre more has none
pub apart_more : (s assigns : List ℕ) (o q : ℕ) → any (clashes_on s assigns (o + 1)) q ≡ false → ApartTo o q s assigns → ApartTo (o + 1) q s assigns
apart_more s assigns o q e h j l a b =
    by_eq (fibre_in assigns j) (o + 1)
    (λ z.
    never (clashes_in s assigns j)
    (λ t. clash (clashes_on s assigns (o + 1) j) (and_of _ _ (eq-eqb (fibre_in assigns j) (o + 1) z) t) (any_false (clashes_on s assigns (o + 1)) q e j l)))
    (λ z. h j l a (omega arith))

-- none on any of k fibres
pub apart_all : (s assigns : List ℕ) (k o q : ℕ) → k ≤ o → OnFibres q k assigns → ApartTo o q s assigns → any (clashes_in s assigns) q ≡ false
apart_all s assigns k o q l on h = any_none (clashes_in s assigns) q (λ j b. let t = on j b in let t₁ = t.1 in h j b t.0 (omega arith))

-- THE FIRST q OF p CIRCUITS. They lie on the line
lies_part : (n p q : ℕ) (s : List ℕ) → q ≤ p → Lies n (circuits_in p s) → Lies n (circuits_in q s)
lies_part n p q s l h j b =
    let k = length_circuits_in q s in
    let e = circuits_in_at q s j nobody (omega arith) in
    let t = lies_at n p s j h (omega arith) in
    let t₀ = t.pos in
    let t₁ = t.order in
    let t₂ = t.high in
    let e₁ = ap (λ (c : Circuit). c.first) e in
    let e₂ = ap (λ (c : Circuit). c.last) e in
    (omega arith, omega arith, omega arith)

-- and are placed
pub placed_part : {n k p : ℕ} {s assigns : List ℕ} (q : ℕ) → q ≤ p → Placed n k p s assigns → Placed n k q s assigns
placed_part {n} {k} {p} {s} {assigns} q l h =
    record {
      line = h.line;
      fibres = h.fibres;
      few = omega (arith, h.few);
      file = omega (arith, h.file);
      listed = omega (arith, h.listed);
      lies = lies_part n p q s l h.lies;
      numbered = λ j b. h.numbered j (omega arith);
      waves = λ j b. h.waves j (omega arith);
    }

-- their chains can be made
pub placed_unchained : {n k p : ℕ} {s assigns next heads : List ℕ} → Placed n k p s assigns → length next ≡ 2048 → length heads ≡ 4096 → ((f : ℕ) → get_or heads f 0 ≡ 0) → Unchained n p s assigns next heads
placed_unchained h a b z =
    record {
      line = h.line;
      few = h.few;
      file = h.file;
      listed = h.listed;
      room = omega (arith, h.few);
      lies = h.lies;
      numbered = λ j l. (let t = h.numbered j l in let t₁ = t.1 in (t.0, omega (arith, h.fibres)));
      none = z;
    }
