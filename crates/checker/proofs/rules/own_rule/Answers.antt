-- `own_rule` meets its contract: rules 4 and 5, and then those of the fibre that is named. Assumes nothing.
use Prim.Native.Nat.{ℕ, ◌-◌, ◌≤◌}
use mathlib.Core.Path.{◌≡◌, ap, ◌∙◌, sym}
use mathlib.Core.List.{List}
use native.Mathlib.Omega.{arith}
use borrow.Author.Tests.{le-leb, eq-eqb}
use Rattle.records.specs.Records.{record_at, fibre_of}
use Rattle.records.specs.declared.FibreRecord.{FibreRecord}
use Rattle.checker.specs.Rules.{lowest_broken, fibre_at}
use Rattle.checker.specs.Checked.{fibres_in}
use Rattle.checker.proofs.Reading.{fibres_in_at}
use Rattle.checker.proofs.rules.own_rule.Goals as goal

-- the fibre that was read is the one that the assignment names
read : (bytes : List ℕ) (k q x : ℕ) (f : FibreRecord) → x ≡ q → 1 ≤ x → x ≤ k → f ≡ fibre_of (record_at bytes (x - 1)) → f ≡ fibre_at (fibres_in k bytes) (q - 1)
read bytes k q x f e a b h =
    let z : x - 1 ≡ q - 1 = omega arith in
    h ∙ ap (λ (y : ℕ). fibre_of (record_at bytes y)) z ∙ sym (fibres_in_at k bytes (q - 1) _ (omega arith))

pub returns : goal.returns
unfolding lowest_broken
returns c =
    let a = c.args in
    let e = c.from-q.ensures in
    let low : 1 ≤ c.from-q.result = c.if-q-lt1.false in
    let high : c.from-q.result ≤ a.k = c.if-k-q.false in
    let r = read a.fibres.now a.k a.a.fibre _ _ e low high c.record_at-f.ensures in
    rw (eq-eqb _ _ c.if-a-c.false, le-leb 1 a.a.fibre (omega arith), le-leb a.a.fibre a.k (omega arith), ← r) c.place_rule.ensures
