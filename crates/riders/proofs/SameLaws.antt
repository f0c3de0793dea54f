-- The index depends only on which circuits there are, not on their order. Assumes nothing.
use Prim.Native.Nat.{ℕ, ◌+◌, ◌-◌, ◌<◌}
use mathlib.Core.Path.{◌≡◌, ap, ◌∙◌, sym, subst}
use mathlib.Core.List.{List}
use native.Mathlib.Omega.{arith}
use lib.ListN.{length, drop}
use Rattle.basics.specs.Tools.{part}
use Rattle.basics.proofs.Counts.{pigeonhole}
use Rattle.basics.proofs.Sums.{sum_eq}
use Rattle.records.specs.declared.Circuit.{Circuit}
use Rattle.method.specs.Demands.{Rearranged}
use Rattle.method.specs.Line.{circuit, uses}
use Rattle.method.specs.Sheet.{load}
use Rattle.riders.specs.Index.{Riders, Index, start_of, cells_for}

-- two lists of circuits with the same loads, each of which has every circuit of the other
module _ (cs ds : List Circuit) (loads : (i : ℕ) → load ds i ≡ load cs i) (to : (j : ℕ) → j < length cs → (p : ℕ) × (p < length ds) × (circuit ds p ≡ circuit cs j))
    (fro : (p : ℕ) → p < length ds → (j : ℕ) × (j < length cs) × (circuit ds p ≡ circuit cs j)) where
  -- each link has the same start
  same_start : (n i : ℕ) → start_of n ds i ≡ start_of n cs i
  unfolding start_of
  same_start n i = ap (λ (x : ℕ). n + 1 + x) (sum_eq (load ds) (load cs) (i - 1) (λ x a b. loads x))

  -- there are as many cells
  pub same_cells : (n : ℕ) → cells_for n ds ≡ cells_for n cs
  unfolding cells_for
  same_cells n = ap (λ (x : ℕ). x + (n + 1)) (sum_eq (load ds) (load cs) n (λ x a b. loads x))

  -- the riders are the same
  same_riders : (i : ℕ) (xs : List ℕ) → Riders ds i xs → Riders cs i xs
  same_riders i xs r =
      record {
        rising = r.rising;
        all = λ j h u. (let x = to j h in let y = r.all x.0 x.1 (ap (λ (c : Circuit). uses c i) x.2 ∙ u) in (y.0, y.1, y.2 ∙ ap (λ (c : Circuit). c.number) x.2));
        only = λ p h. (let x = r.only p h in let y = fro x.0 x.1 in (y.0, y.1, sym (ap (λ (c : Circuit). uses c i) y.2) ∙ x.2, x.3 ∙ ap (λ (c : Circuit). c.number) y.2));
      }

  -- so is the index
  pub index_same : (n : ℕ) (before after : List ℕ) → Index n ds before after → Index n cs before after
  index_same n before after x =
      record {
        long = x.long;
        starts = λ i a b. x.starts i a b ∙ same_start n i;
        stretches = λ i a b.
            same_riders i _
            (subst (λ (z : ℕ). Riders ds i (part z (load cs i) after)) (same_start n i) (subst (λ (z : ℕ). Riders ds i (part (start_of n ds i) z after)) (loads i) (x.stretches i a b)));
        rest = subst (λ (z : ℕ). drop z after ≡ drop z before) (same_cells n) x.rest;
      }

-- THE SAME RECORDS IN ANOTHER ORDER. They have the same loads
rearranged_load : (cs ds : List Circuit) → Rearranged cs ds → (i : ℕ) → load ds i ≡ load cs i
unfolding load
rearranged_load cs ds r i =
    let up = pigeonhole (λ j. uses (circuit ds j) i) (length ds) (λ j. uses (circuit cs j) i) (length cs) r.back
    (λ j h e. let x = r.fro j h in (x.0, ap (λ (c : Circuit). uses c i) (sym x.2) ∙ e))
    (λ a b h l e f z. sym (r.fro a h).1 ∙ ap r.there z ∙ (r.fro b l).1) in
    let down = pigeonhole (λ j. uses (circuit cs j) i) (length cs) (λ j. uses (circuit ds j) i) (length ds) r.there
    (λ j h e. let x = r.to j h in (x.0, ap (λ (c : Circuit). uses c i) (sym x.2) ∙ e))
    (λ a b h l e f z. sym (r.to a h).1 ∙ ap r.back z ∙ (r.to b l).1) in
    omega arith

module _ (cs ds : List Circuit) (r : Rearranged cs ds) where
  -- each circuit of the one stands in the other
  there : (j : ℕ) → j < length cs → (p : ℕ) × (p < length ds) × (circuit ds p ≡ circuit cs j)
  there j h = let x = r.to j h in (r.there j, x.0, sym x.2)

  -- and the other way round
  back : (p : ℕ) → p < length ds → (j : ℕ) × (j < length cs) × (circuit ds p ≡ circuit cs j)
  back p h = let x = r.fro p h in (r.back p, x.0, x.2)

  -- as many cells
  pub rearranged_cells : (n : ℕ) → cells_for n ds ≡ cells_for n cs
  rearranged_cells = same_cells cs ds (rearranged_load cs ds r) there back

  -- the same index
  pub rearranged_index : (n : ℕ) (before after : List ℕ) → Index n ds before after → Index n cs before after
  rearranged_index = index_same cs ds (rearranged_load cs ds r) there back
