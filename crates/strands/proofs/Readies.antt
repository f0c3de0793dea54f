-- What phase one leaves is enough for phase two, and what the work area and the table of the pairs are when the assignments are written. Assumes nothing.
use Prim.Native.Nat.{ℕ, ◌+◌, ◌*◌, ◌≤◌}
use mathlib.Core.Bool.{Bool, cond}
use mathlib.Core.Path.{◌≡◌, sym, ap, ◌∙◌}
use mathlib.Core.List.{List}
use native.Mathlib.Omega.{arith}
use lib.ListN.{length, get_or}
use Rattle.basics.specs.Tools.{part}
use Rattle.basics.proofs.Tables.{part_kept}
use Rattle.records.specs.Bytes.{cells_of}
use Rattle.records.specs.Records.{circuits_in}
use Rattle.records.specs.declared.Circuit.{Circuit}
use Rattle.records.proofs.Files.{length_circuits_in}
use Rattle.method.specs.Fibres.{layers, on_first, pairs}
use Rattle.method.specs.Line.{Lies, no_fibre}
use Rattle.method.specs.Sheet.{at, most, need, rows}
use Rattle.method.proofs.Few.{few_pairs}
use Rattle.method.proofs.Links.{lies_there}
use Rattle.method.proofs.Placed.{after, few_rows}
use Rattle.method.proofs.ValidPlan.{first_any_run}
use Rattle.halves.specs.Halves.{FewRows, OneEnd, Halved}
use Rattle.register.specs.Areas.{Areas}
use Rattle.strands.specs.Laid.{Ready}
use Rattle.strands.specs.inner.Layers.{HasParts, layers_by, layers_in}
use Rattle.strands.specs.inner.Pairs.{PairsPut}
use Rattle.strands.specs.inner.Area.{Marked, Sources, Strung}
use Rattle.method.proofs.Given.{ends_differ, most_few}
use Rattle.strands.proofs.Same.{needs_at, layers_same}

module _ {n w m from top : ℕ} {s : List ℕ} {lent : Areas} (rd : Ready n w m from top s lent) where
  -- the circuits
  abbrev cs : List Circuit
  cs = circuits_in m s

  -- the cells
  abbrev C : List ℕ
  C = cells_of lent.work

  -- the circuits lie on the line
  pub lies : Lies n cs
  lies = rd.accepted.file.lies

  -- there is a wavelength
  waves : 1 ≤ w
  waves = rd.accepted.waves.0

  -- c(i) of each link
  pub needs_are : (i : ℕ) → 1 ≤ i → i ≤ n → at C i ≡ need w cs i
  needs_are = needs_at C (need w cs) n rd.filled.needs

  -- M is at most the number of circuits
  top_few : top ≤ m
  top_few = omega (arith, rd.top_is, most_few n w cs waves, length_circuits_in m s)

  -- the layers by c(i) are the method's
  layers_are : (h : ℕ) → layers_by (at C) n top h ≡ layers n w cs h
  layers_are h = ap (λ y. layers_by (at C) n y h) rd.top_is ∙ layers_same (at C) n w cs needs_are h

  -- and all of them its pairs
  pub pairs_are : layers_in n top lent.work ≡ pairs n w cs
  unfolding pairs
  pairs_are = layers_are top ∙ ap (layers n w cs) rd.top_is

  -- at most one pair for each circuit
  pub pairs_few : length (layers_in n top lent.work) ≤ m
  pairs_few = omega (arith, ap length pairs_are, few_pairs n w cs (lies_there n cs lies) waves, length_circuits_in m s)

  -- BEFORE THE PAIRS: what their function asks of the work area
  pub parts_ready : HasParts n m top lent.work
  parts_ready = let a = rd.accepted in record { long = rd.filled.sized; line = omega arith; few = omega arith; layers = top_few }

  -- and there is room for the pairs
  pub pairs_room : length (layers_in n top lent.work) ≤ 2048
  pairs_room = let a = rd.accepted in let k = pairs_few in omega arith

  -- AFTER THE PAIRS
  module _ {b₁ table : List ℕ} {count : ℕ} (put : PairsPut n m top lent.work b₁ table count) where
    -- the cells
    abbrev C₁ : List ℕ
    C₁ = cells_of b₁

    -- the rows are still there
    rows_are : part (2 * n) m C₁ ≡ rows n w cs
    rows_are = part_kept (2 * n) m C₁ C put.spare.kept ∙ rd.filled.rows

    -- the rows are few
    pub few_there : FewRows n m C₁
    unfolding FewRows
    few_there j h =
        let r : get_or (part (2 * n) m C₁) j 0 ≡ get_or (rows n w cs) j 0 = ap (λ l. get_or l j 0) rows_are in
        let k : get_or (rows n w cs) j 0 ≤ most n w cs * w = (unfold rows in (after n w cs (lies_there n cs lies) (most n w cs * w)).marked j) in
        let f = rd.accepted in
        let v = rd.accepted.waves.1 in
        omega (arith, few_rows n w cs waves, length_circuits_in m s)

    -- no two circuits of a row end at the same link
    pub one_end : OneEnd n m cs C₁
    unfolding OneEnd
    one_end i j a b r e =
        let k = length_circuits_in m s in
        ends_differ n w cs lies waves i j (omega arith) (omega arith) (sym (ap (λ l. get_or l i 0) rows_are) ∙ r ∙ ap (λ l. get_or l j 0) rows_are) e

    -- the work area when the halves are chosen
    marked : (b₂ : List ℕ) → length b₂ ≡ 4 * n + 4 * m → Halved n m cs C₁ (cells_of b₂) → Marked n w m s b₂
    marked b₂ long hv =
        record {
          long = long;
          halves = λ j h.
              hv.halves j h
              ∙ ap (λ l. 2 * get_or l j 0 + cond (on_first cs l (λ d. 0) j) 0 1) rows_are
              ∙ ap (λ (v : Bool). 2 * get_or (rows n w cs) j 0 + cond v 0 1) (sym (first_any_run n w cs lies waves j (omega (arith, length_circuits_in m s))));
          starts = λ h l.
              ap (λ c. get_or c h 0) hv.spare ∙ put.spare.starts h (omega arith)
              ∙ ap length (layers_are h);
        }

    -- the table
    strung : Strung n w m count s table
    strung = record { count_is = put.pairs_are ∙ ap length pairs_are; lasts = λ i h. put.lasts i h ∙ ap (λ fs. (get_or fs i no_fibre).last) pairs_are }

    -- what the assignments are read from
    pub sources : {b₂ : List ℕ} → length b₁ ≡ length lent.work → length b₂ ≡ length b₁ → Halved n m cs C₁ (cells_of b₂) → Sources n w m count s b₂ table
    sources {b₂ = b₂} l₁ l₂ hv = record { accepted = rd.accepted; marked = marked b₂ (l₂ ∙ l₁ ∙ rd.filled.sized) hv; strung = strung }
