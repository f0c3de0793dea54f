-- Circuits that each have a link of their own: facts about intervals alone, which need nothing of the method. Assumes nothing.
use Prim.Native.Nat.{◌≤◌, ℕ}
use lib.ListN.{length}
use mathlib.Core.Bool.{Bool, ◌&&◌, true}
use mathlib.Core.List.{List}
use mathlib.Core.Logic.{◌≢◌}
use mathlib.Core.Path.{◌≡◌, sym}
use native.Mathlib.Omega.{arith}
use Rattle.basics.proofs.Bools.{and_l, and_r, by_le}
use Rattle.basics.proofs.Counts.{count_two}
use Rattle.records.specs.declared.Circuit.{Circuit}
use Rattle.method.specs.Demands.{OwnLinks, load_of}
use Rattle.method.specs.Line.{circuit, uses}
use Rattle.method.proofs.Links.{uses_first, uses_last, uses_of}

module _ (cs : List Circuit) (of : ℕ → Bool) (own : OwnLinks cs of) where
  -- another circuit does not use a circuit's own link
  apart : (j d : ℕ) (h : of j ≡ true) → of d ≡ true → d ≢ j → uses (circuit cs d) (own j h).0 ≡ true → ⊥
  apart j d h e q u = q ((own j h).2 d e u)

  -- no circuit lies within another
  pub none_within : (c d : ℕ) → of c ≡ true → of d ≡ true → c ≢ d → (circuit cs d).first ≤ (circuit cs c).first → (circuit cs c).last ≤ (circuit cs d).last → ⊥
  none_within c d h e q a b =
      let i = (own c h).0 in
      let l = uses_first _ i (own c h).1 in
      let r = uses_last _ i (own c h).1 in
      apart c d h e (λ t. q (sym t)) (uses_of _ i (omega arith) (omega arith))

  -- so their last links differ
  pub lasts_differ : (c d : ℕ) → of c ≡ true → of d ≡ true → c ≢ d → (circuit cs c).last ≢ (circuit cs d).last
  lasts_differ c d h e q l =
      by_le (circuit cs c).first (circuit cs d).first
      (λ t. none_within d c e h (λ u. q (sym u)) t (omega arith))
      (λ t. none_within c d h e q (omega arith) (omega arith))

  -- the middle one of three, by last link, has no link of its own if the outer two overlap
  pub middle : (a b c : ℕ) → of a ≡ true → of b ≡ true → of c ≡ true → a ≢ b → c ≢ b
      → (circuit cs a).last ≤ (circuit cs b).last → (circuit cs b).last ≤ (circuit cs c).last → (circuit cs c).first ≤ (circuit cs a).last → ⊥
  middle a b c ha hb hc qa qc ab bc ca =
      let i = (own b hb).0 in
      let l = uses_first _ i (own b hb).1 in
      let r = uses_last _ i (own b hb).1 in
      by_le (circuit cs c).first i (λ p. apart b c hb hc qc (uses_of _ i p (omega arith)))
      (λ p.
      by_le (circuit cs a).first i (λ t. apart b a hb ha qa (uses_of _ i t (omega arith)))
      (λ t. none_within a b ha hb qa (omega arith) ab))

  -- three on a link, by last link
  sorted : (a b c i : ℕ) → of a ≡ true → of b ≡ true → of c ≡ true → a ≢ b → c ≢ b → uses (circuit cs a) i ≡ true → uses (circuit cs c) i ≡ true
      → (circuit cs a).last ≤ (circuit cs b).last → (circuit cs b).last ≤ (circuit cs c).last → ⊥
  sorted a b c i ha hb hc qa qc ua uc ab bc = middle a b c ha hb hc qa qc ab bc (omega (arith, uses_last _ i ua, uses_first _ i uc))

  -- no link is used by three of them
  no_three : (i a b c : ℕ) → a ≢ b → b ≢ c → a ≢ c → of a && uses (circuit cs a) i ≡ true → of b && uses (circuit cs b) i ≡ true → of c && uses (circuit cs c) i ≡ true → ⊥
  no_three i a b c ab bc ac pa pb pc =
      let x = (circuit cs a).last in
      let y = (circuit cs b).last in
      let z = (circuit cs c).last in
      let ha = and_l _ _ pa in
      let hb = and_l _ _ pb in
      let hc = and_l _ _ pc in
      let ua = and_r (of a) _ pa in
      let ub = and_r (of b) _ pb in
      let uc = and_r (of c) _ pc in
      by_le x y
      (λ xy.
      by_le y z (λ yz. sorted a b c i ha hb hc (omega arith) (omega arith) ua uc xy yz)
      (λ zy.
      by_le x z (λ xz. sorted a c b i ha hc hb (omega arith) (omega arith) ua ub xz (omega arith))
      (λ zx. sorted c a b i hc ha hb (omega arith) (omega arith) uc ub (omega arith) xy)))
      (λ yx.
      by_le x z (λ xz. sorted b a c i hb ha hc (omega arith) (omega arith) ub uc (omega arith) xz)
      (λ zx.
      by_le y z (λ yz. sorted b c a i hb hc ha (omega arith) (omega arith) ub ua yz (omega arith))
      (λ zy. sorted c b a i hc hb ha (omega arith) (omega arith) uc ua (omega arith) (omega arith))))

  -- so no link carries more than two of them
  pub at_most_two : (i : ℕ) → load_of cs of i ≤ 2
  at_most_two i = count_two (λ j. of j && uses (circuit cs j) i) (length cs) (no_three i)
