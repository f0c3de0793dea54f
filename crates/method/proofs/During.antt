-- The link of its own, after any number of placements. Assumes nothing.
use Prim.Native.Nat.{◌≤◌, suc, ℕ}
use borrow.Author.Tests.{eqb-true}
use mathlib.Core.List.{List}
use mathlib.Core.Logic.{◌≢◌}
use mathlib.Core.Path.{◌∙◌, ◌≡◌, sym}
use native.Mathlib.Omega.{arith}
use Rattle.records.specs.declared.Circuit.{Circuit}
use Rattle.method.specs.Demands.{OwnLinks, during, in_row}
use Rattle.method.specs.Sheet.{State, begun, row_of, sheet}
use Rattle.method.proofs.Links.{LiesIfThere}
use Rattle.method.proofs.OwnLinks.{Own, row_own}
use Rattle.method.proofs.Placed.{after, begin_own}

module _ (n w : ℕ) (cs : List Circuit) (lies : LiesIfThere n cs) where
  -- each circuit of a row has a link that no other circuit of its row uses
  own_links : (s : State) → ((j : ℕ) → row_of s j ≢ 0 → (i : ℕ) × Own cs s j i) → (k : ℕ) → 1 ≤ k → OwnLinks cs (in_row s k)
  own_links s own k pos j h =
      let e : row_of s j ≡ k = eqb-true _ _ h in
      let o = own j (omega arith) in
      (o.0, o.1.used, λ d q u. o.1.alone d (eqb-true _ _ q ∙ sym e) u)

  -- so it is after r whole rows and f steps of the next
  pub own_during : (r f k : ℕ) → 1 ≤ k → OwnLinks cs (in_row (during n w cs r f) k)
  unfolding during
  own_during r f =
      let y = after n w cs lies r in
      let o = row_own n cs lies (suc r) (omega arith) f (begun n w cs (suc r) (sheet n w cs r)) (begin_own n w cs lies r (sheet n w cs r) y) in
      own_links (during n w cs r f) (λ j h. let t = o.own j h in (t.0, t.1))

  -- and after r whole rows
  pub own_after : (r k : ℕ) → 1 ≤ k → OwnLinks cs (in_row (sheet n w cs r) k)
  own_after r = own_links (sheet n w cs r) (after n w cs lies r).own
