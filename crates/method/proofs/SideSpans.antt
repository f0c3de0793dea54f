-- One side of an idle link (R-9): two maximal runs, of the side and of the whole, that meet on the side have one span. Assumes nothing.
use Prim.Native.Nat.{◌-◌, ◌≤◌, suc, zero, ℕ}
use lib.ListN.{get_or}
use mathlib.Core.Bool.{Bool, false, true}
use mathlib.Core.List.{List}
use mathlib.Core.Logic.{◌⊎◌, ⊎_elim}
use mathlib.Core.Path.{◌∙◌, ◌≡◌, subst, sym}
use native.Mathlib.Omega.{arith}
use Rattle.basics.proofs.Bools.{by_eq, by_le, clash, on}
use Rattle.records.specs.declared.Circuit.{Circuit}
use Rattle.method.specs.Fibres.{in_layer, layer, layers}
use Rattle.method.specs.Line.{Fibre, no_fibre, over}
use Rattle.method.proofs.FibreLists.{All, all_append, all_get_d, all_of}
use Rattle.method.proofs.RunStarts.{Begins, runs_begin}
use Rattle.method.proofs.Runs.{Maximal, over_first, over_last, runs_maximal}

-- each fibre of a layer begins where the link before is not in the layer
pub layers_begin : (n w : ℕ) (cs : List Circuit) (h : ℕ) → All (λ f. Begins (in_layer n w cs f.layer) f) (layers n w cs h)
unfolding layers layer in_layer
layers_begin n w cs zero = tt
layers_begin n w cs (suc h) =
    all_append (λ f. Begins (in_layer n w cs f.layer) f) (layers n w cs h) (layer n w cs (suc h)) (layers_begin n w cs h)
    (all_of (λ f. Begins (in_layer n w cs f.layer) f) (layer n w cs (suc h))
    (λ q l.
    subst (λ x. Begins (in_layer n w cs x) (get_or (layer n w cs (suc h)) q no_fibre))
    (sym (all_get_d (Maximal (suc h) (in_layer n w cs (suc h)) 1 n) (layer n w cs (suc h)) (runs_maximal (suc h) (in_layer n w cs (suc h)) 1 n) q l).here)
    (runs_begin (suc h) (in_layer n w cs (suc h)) n q l)))

-- the links of the side stand on one side of link z
module _ (n z : ℕ) (side : ℕ → Bool) (between : (x y : ℕ) → side x ≡ true → side y ≡ false → ((x ≤ z) × (z ≤ y)) ⊎ ((z ≤ x) × (y ≤ z))) where
  -- p is the rule of the whole, p' that of the side: they agree on the side, link z does not pass, and nothing off the side passes p'
  pub record Matched (p p' : ℕ → Bool) : Type 0 where
    pub agree : (x : ℕ) → side x ≡ true → p' x ≡ p x
    pub stops : p z ≡ false
    pub off : (x : ℕ) → side x ≡ false → p' x ≡ false

  module _ (p p' : ℕ → Bool) (y : Matched p p') (h h' : ℕ) (f g : Fibre) (mf : Maximal h p 1 n f) (mg : Maximal h' p' 1 n g) (bf : Begins p f) (bg : Begins p' g) (x : ℕ) (of : over f x ≡ true) (og : over g x ≡ true) where
    -- the run of the side lies on the side
    g_side : (a : ℕ) → g.first ≤ a → a ≤ g.last → side a ≡ true
    g_side a l m = on (side a) (λ e. e) (λ e. clash (p' a) (mg.pass a l m) (y.off a e))

    -- and so does the run of the whole, since it cannot pass z
    f_side : (a : ℕ) → f.first ≤ a → a ≤ f.last → side a ≡ true
    f_side a l m =
        let x₁ = over_first f x of in
        let x₂ = over_last f x of in
        on (side a) (λ e. e)
        (λ e.
        clash (p z)
        (⊎_elim (λ c. mf.pass z (omega (arith, c.0)) (omega (arith, c.1))) (λ c. mf.pass z (omega (arith, c.1)) (omega (arith, c.0)))
        (between x a (g_side x (over_first g x og) (over_last g x og)) e))
        y.stops)

    -- so both have one span
    pub same_span : (f.first ≡ g.first) × (f.last ≡ g.last)
    same_span =
        let x₁ = over_first f x of in
        let x₂ = over_last f x of in
        let y₁ = over_first g x og in
        let y₂ = over_last g x og in
        let f₁ = mf.from in
        let f₂ = mf.to in
        let g₁ = mg.from in
        let g₂ = mg.to in (
          by_eq f.first g.first (λ e. e)
              (λ e.
              by_le f.first g.first
              (λ l.
              let a = g.first - 1 in
              let s = f_side a (omega arith) (omega arith) in
              clash (p' a) (y.agree a s ∙ mf.pass a (omega arith) (omega arith)) (bg (omega arith)))
              (λ l.
              let a = f.first - 1 in
              let s = g_side a (omega arith) (omega arith) in
              clash (p a) (sym (y.agree a s) ∙ mg.pass a (omega arith) (omega arith)) (bf (omega arith)))),
          by_eq f.last g.last (λ e. e)
              (λ e.
              by_le f.last g.last
              (λ l.
              let a = suc f.last in
              let s = g_side a (omega arith) (omega arith) in
              clash (p a) (sym (y.agree a s) ∙ mg.pass a (omega arith) (omega arith)) (mf.stop (omega arith)))
              (λ l.
              let a = suc g.last in
              let s = f_side a (omega arith) (omega arith) in
              clash (p' a) (y.agree a s ∙ mf.pass a (omega arith) (omega arith)) (mg.stop (omega arith)))),
        )
