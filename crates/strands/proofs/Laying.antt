-- What the parts of phase two leave, put together. Assumes nothing.
use Prim.Native.Nat.{ℕ, ◌+◌, ◌-◌, ◌*◌, ◌≤◌}
use mathlib.Core.Path.{◌≡◌, sym, ap, ◌∙◌}
use mathlib.Core.List.{List, ◌++◌}
use native.Mathlib.Omega.{arith}
use lib.ListN.{length, drop}
use lib.Seq.{drop-drop, drop_at}
use Rattle.basics.specs.Tools.{sum}
use Rattle.basics.proofs.Tables.{length_each}
use Rattle.records.specs.Bytes.{cells_of}
use Rattle.records.specs.Records.{circuits_in}
use Rattle.records.specs.declared.Circuit.{Circuit}
use Rattle.records.proofs.Files.{length_circuits_in}
use Rattle.method.specs.Fibres.{assignments, fibres, floor, on_first, pair_of, pairs, plan}
use Rattle.method.specs.Lit.{lit_plan}
use Rattle.method.specs.Sheet.{at, rows}
use Rattle.method.proofs.FibreLists.{length_twice}
use Rattle.register.specs.Areas.{Areas, areas}
use Rattle.register.specs.Lists.{assignment_list, assignment_records, counts_of}
use Rattle.register.proofs.Reading.{length_assignment_records}
use Rattle.register.proofs.Writing.{same_rest}
use Rattle.lit.specs.Trims.{Held, Lean}
use Rattle.lit.specs.declared.Trimmed.{Trimmed}
use Rattle.lit.proofs.Calls.{held_plan}
use Rattle.strands.specs.Laid.{Laid, Ready}
use Rattle.strands.specs.inner.Area.{Sources}
use Rattle.strands.proofs.Same.{floor_same}
use Rattle.strands.proofs.Readies.{needs_are}

-- the assignments of the method's plan, from where they are read: the plan is held, with two fibres for each pair
pub all_held : {n w m count : ℕ} {s work table assigns : List ℕ} (out : List ℕ) → Sources n w m count s work table → assigns ≡ assignment_list 0 (circuits_in m s) (assignments n w (circuits_in m s)) out
    → Held n w m (2 * count) (circuits_in m s) (plan n w (circuits_in m s)) work assigns
unfolding fibres
all_held {n = n} {w = w} {m = m} {count = count} {s = s} {work = work} {assigns = assigns} out src a =
    let cs = circuits_in m s in
    let acc = src.accepted in
    held_plan n w m cs (length_circuits_in m s) acc.file.lies acc.waves.0 (2 * count) (on_first cs (rows n w cs) (pair_of n w cs (rows n w cs))) work assigns out
    (length_twice (pairs n w cs) ∙ ap (λ k. 2 * k) (sym src.strung.count_is)) a
    src.marked.halves

-- behind the first e, a list is the same whatever those become
pub rest_left : (e k : ℕ) (xs ys : List ℕ) → e ≤ k → length ys ≡ e → drop k (ys ++ drop e xs) ≡ drop k xs
rest_left e k xs ys h l =
    let z : e + (k - e) ≡ k = omega arith in
    ap (λ x. drop x (ys ++ drop e xs)) (sym z) ∙ sym (drop-drop (k - e) e (ys ++ drop e xs)) ∙ ap (drop (k - e)) (drop_at ys (drop e xs) e l) ∙ drop-drop (k - e) e xs ∙ ap (λ x. drop x xs) z

module _ {n w m from top : ℕ} {s : List ℕ} {lent : Areas} (rd : Ready n w m from top s lent) where
  -- the circuits
  abbrev cs : List Circuit
  cs = circuits_in m s

  -- the sum of the cells is the floor
  floor_is : sum (at (cells_of lent.work)) n ≡ floor n w cs
  floor_is = floor_same (at (cells_of lent.work)) n w cs (needs_are rd)

  -- the records of the assignments leave the rest of their list
  others_left : (out : List ℕ) {assigns : List ℕ} → drop (8 * m) out ≡ drop (8 * m) lent.assigns → assigns ≡ assignment_list 0 cs (assignments n w cs) out
      → drop (8 * length cs) assigns ≡ drop (8 * length cs) lent.assigns
  unfolding assignment_list assignments
  others_left out d a =
      let e = length_circuits_in m s in
      let k = length_assignment_records 0 cs (assignments n w cs) (length_each _ 0 (length cs)) in
      ap (drop (8 * length cs)) a ∙ drop_at (assignment_records 0 cs (assignments n w cs)) (drop (8 * length cs) out) (8 * length cs) k ∙ (rw e d)

  -- the three numbers and the lists
  pub all_laid : {low : ℕ} {t : Trimmed} {fibres₁ assigns assigns₁ b₂ : List ℕ} (out : List ℕ) → low ≡ sum (at (cells_of lent.work)) n
      → drop (8 * m) out ≡ drop (8 * m) lent.assigns → assigns ≡ assignment_list 0 cs (assignments n w cs) out
      → Lean n from cs (plan n w cs) lent.fibres fibres₁ assigns assigns₁ t → length b₂ ≡ length lent.work
      → Laid n w m from s lent (areas fibres₁ assigns₁ b₂) (record { fibres = t.fibres; total = t.total; floor = low })
  unfolding lit_plan counts_of
  all_laid {assigns = assigns} out f d a g l =
      record {
        registered = record {
          counted = (λ i. record { fibres = (g.counted i).fibres; total = (g.counted i).total; floor = (f ∙ floor_is) i });
          listed = g.listed;
          assigned = g.assigned ∙ same_rest from cs (lit_plan n w cs).assignments lent.assigns assigns (others_left out d a);
        };
        sized = l;
      }
