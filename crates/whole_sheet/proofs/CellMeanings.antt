-- What the cells of the lent sheet mean, beside R-1's plan. Assumes nothing.
use Prim.Native.Nat.{ℕ, zero, suc, ◌+◌, ◌-◌, ◌*◌, ◌/◌, ◌≤◌, ◌<◌}
use mathlib.Core.Bool.{true}
use mathlib.Core.List.{List, ◌++◌}
use mathlib.Core.Logic.{⊎_elim}
use mathlib.Core.Path.{◌≡◌, refl, ap, ap₂, ◌∙◌, sym, subst}
use native.Mathlib.Nat.{add-mul, div-add-mod', mul-le-mul_left}
use native.Mathlib.Omega.{arith}
use lib.ListN.{get_or-append, get_or, length}
use lib.Seq.{get_or-append-add}
use Rattle.basics.proofs.Bools.{by_eq}
use Rattle.basics.proofs.Counts.{le_top}
use Rattle.records.specs.declared.Circuit.{Circuit}
use Rattle.method.specs.Fibres.{layer_of, wavelength_of}
use Rattle.method.specs.Demands.{Rearranged}
use Rattle.method.specs.Line.{Distinct, Lies, assigned, circuit, fibre_under, uses}
use Rattle.method.specs.Lit.{lit_plan}
use Rattle.method.specs.Sheet.{at, most, need, red_to, row_of, sheet, taken}
use Rattle.method.proofs.Links.{lies_there, on_line}
use Rattle.method.proofs.LitDemands.{lit_demand}
use Rattle.method.proofs.Order.{Match, most_match, sheet_alike}
use Rattle.method.proofs.Placed.{after}
use Rattle.method.proofs.Rearranged.{rearranged_once}
use Rattle.method.proofs.ValidPlan.{fibre_under_is, final, is_placed, its_layer, layer_at, wavelength_is}
use Rattle.rows.proofs.Written.{at_get}
use Rattle.whole_sheet.specs.Cells.{cells, cells_to, row_count}
use Rattle.whole_sheet.specs.WholeSeen.{CellMeans, SheetMeans, cell_in, row_in}
use Rattle.whole_sheet.proofs.CellLaws.{blue_on, has_taken, red_only, red_there, row_codes, row_stays, row_told, row_was, waits_on}
use Rattle.whole_sheet.proofs.RowStarts.{cells_long, times_turn}

module _ (n w : ℕ) (cs : List Circuit) where
  -- the cell of row k and link i is the colour of link i as row k ends
  cells_at : (R k i : ℕ) → 1 ≤ k → k ≤ R → 1 ≤ i → i ≤ n → get_or (cells_to n w cs R) (n * (k - 1) + (i - 1)) 0 ≡ at (sheet n w cs k).colours i
  unfolding cells_to
  cells_at zero k i a b c d = absurd (omega arith)
  cells_at (suc R) k i a b c d =
      let A : List ℕ = cells_to n w cs R in
      let r : List ℕ = (sheet n w cs (suc R)).colours in
      by_eq k (suc R)
      (λ e.
      let z : n * (k - 1) + (i - 1) ≡ length A + (i - 1) = ap (λ x. n * x + (i - 1)) (let y : k - 1 ≡ R = omega arith in y) ∙ ap (λ x. x + (i - 1)) (sym (cells_long n w cs R)) in
      ap (λ x. get_or (A ++ r) x 0) z ∙ get_or-append-add A r (i - 1) 0 ∙ at_get r i c ∙ ap (λ x. at (sheet n w cs x).colours i) (sym e))
      (λ e.
      let t = times_turn n k a in
      let m = mul-le-mul_left n (let y : k ≤ R = omega arith in y) in
      get_or-append A r 0 (n * (k - 1) + (i - 1)) (omega (arith, cells_long n w cs R)) ∙ cells_at R k i a (omega arith) c d)

  -- c(i) × w rows come after the last red row of link i
  red_rows : (i : ℕ) → 1 ≤ i → i ≤ n → red_to n w cs i + need w cs i * w ≡ row_count n w cs
  unfolding red_to most
  red_rows i a b =
      let l = le_top (need w cs) n i a b in
      let e : most n w cs - need w cs i + need w cs i ≡ most n w cs = omega arith in
      sym (add-mul (most n w cs - need w cs i) (need w cs i) w) ∙ ap (λ x. x * w) e

  module _ (lies : Lies n cs) (pos : 1 ≤ w) where
    -- the row of a circuit, by layer and wavelength
    row_in_lem : (j : ℕ) → j < length cs → row_in w (lit_plan n w cs) j ≡ row_of (sheet n w cs (row_count n w cs)) j
    unfolding row_in layer_at layer_of wavelength_of final
    row_in_lem j l =
        let rules = (lit_demand n w cs lies pos).rules in
        let r = row_of (sheet n w cs (row_count n w cs)) j in
        let h : (fibre_under (lit_plan n w cs) j).layer ≡ suc ((r - 1) / w) =
        rules.layer_stays j l ∙ ap (λ f. f.layer) (fibre_under_is n w cs j l) ∙ its_layer n w cs lies pos j l in
        let v : (assigned (lit_plan n w cs) j).wavelength ≡ r - (suc ((r - 1) / w) - 1) * w = rules.wavelength_stays j l ∙ wavelength_is n w cs j l in
        let q : suc ((r - 1) / w) - 1 ≡ (r - 1) / w = omega arith in
        let d = div-add-mod' (r - 1) w in
        ap₂ (λ x y. (x - 1) * w + y) h v ∙ rw q (omega arith)

    -- it has one
    row_there : (j : ℕ) → j < length cs → (1 ≤ row_of (sheet n w cs (row_count n w cs)) j) × (row_of (sheet n w cs (row_count n w cs)) j ≤ row_count n w cs)
    unfolding final
    row_there j l =
        let p = is_placed n w cs lies pos j l in
        let m = (after n w cs (lies_there n cs lies) (row_count n w cs)).marked j in
        (omega arith, omega arith)

    module _ (area rest : List ℕ) (drawn : area ≡ cells n w cs ++ rest) where
      -- the cells of the lent sheet
      cell_is : (k i : ℕ) → 1 ≤ k → k ≤ row_count n w cs → 1 ≤ i → i ≤ n → cell_in n area k i ≡ at (sheet n w cs k).colours i
      cell_is k i a b c d =
          let t = times_turn n k a in
          let m = mul-le-mul_left n b in
          ap (λ (l : List ℕ). get_or l (n * (k - 1) + (i - 1)) 0) drawn
          ∙ get_or-append (cells n w cs) rest 0 (n * (k - 1) + (i - 1)) (omega (arith, cells_long n w cs (row_count n w cs))) ∙ cells_at (row_count n w cs) k i a b c d

      -- a circuit of row k was of it as the row ended
      was : (k j : ℕ) → suc k ≤ row_count n w cs → j < length cs → row_in w (lit_plan n w cs) j ≡ suc k → row_of (sheet n w cs (suc k)) j ≡ suc k
      was k j b l q = row_was n w cs (lies_there n cs lies) (suc k) (row_count n w cs) b j (omega arith) (sym (row_in_lem j l) ∙ q)

      -- row k + 1
      row_means : (k i : ℕ) → suc k ≤ row_count n w cs → 1 ≤ i → i ≤ n → CellMeans n w cs (lit_plan n w cs) area (suc k) i
      row_means k i b c d =
          let there = lies_there n cs lies in
          let e : cell_in n area (suc k) i ≡ at (sheet n w cs (suc k)).colours i = cell_is (suc k) i (omega arith) b c d in
          let reds = red_rows i c d in
          record {
            one_of = rw e (row_codes n w cs there k i c d);
            red_only = λ q. omega (arith, red_only n w cs there k i c d (sym e ∙ q));
            red_there = λ q. e ∙ red_there n w cs there k i c d (omega arith);
            blue_on = λ l p q r. cell_is l i (omega arith) q c d ∙ blue_on n w cs there (suc k) l (omega arith) p i c d (sym e ∙ r);
            taken_by = λ q.
                let t = (row_told n w cs there k).takes i c d (sym e ∙ q) in
                (t.0, t.1, row_in_lem t.0 t.1 ∙ row_stays n w cs there (suc k) (row_count n w cs) b t.0 (omega (arith, t.2)) ∙ t.2, t.3, λ x l p u. t.4 x (was k x b l p) u);
            not_on_red = λ j l p u q. ⊎_elim (λ t. omega arith) (λ t. omega arith) ((row_told n w cs there k).dull j i c d (was k j b l p) u);
          }

      -- the link that a circuit of row k + 1 has taken
      takes_one : (k j : ℕ) → suc k ≤ row_count n w cs → j < length cs → row_in w (lit_plan n w cs) j ≡ suc k
          → (i : ℕ) × (uses (circuit cs j) i ≡ true) × (cell_in n area (suc k) i ≡ taken) × ((d : ℕ) → d < length cs → row_in w (lit_plan n w cs) d ≡ suc k → uses (circuit cs d) i ≡ true → d ≡ j)
      takes_one k j b l e =
          let t = has_taken n w cs (lies_there n cs lies) k j (was k j b l e) in
          let o = on_line n cs (lies_there n cs lies) j t.0 t.1 in
          (t.0, t.1, cell_is (suc k) t.0 (omega arith) b o.0 o.1 ∙ t.2, λ d g q u. t.3 d (was k d b g q) u)

      -- the whole sheet
      pub sheet_means : SheetMeans n w cs (lit_plan n w cs) area
      unfolding circuit
      sheet_means =
          record {
            means = λ k i a b c d. subst (λ x. CellMeans n w cs (lit_plan n w cs) area x i) (let z : suc (k - 1) ≡ k = omega arith in z) (row_means (k - 1) i (omega arith) c d);
            has_row = λ j l. let e = row_in_lem j l in let t = row_there j l in (omega arith, omega arith);
            has_taken = λ j l.
                let r = row_in w (lit_plan n w cs) j in
                let y = row_in_lem j l in
                let t = row_there j l in
                let e : suc (r - 1) ≡ r = omega arith in
                subst (λ x. (i : ℕ) × (uses (circuit cs j) i ≡ true) × (cell_in n area x i ≡ taken) × ((d : ℕ) → d < length cs → row_in w (lit_plan n w cs) d ≡ x → uses (circuit cs d) i ≡ true → d ≡ j)) e
                (takes_one (r - 1) j (omega arith) l (sym e));
            waits_on = λ j k l a h.
                let y = row_in_lem j l in
                let t = row_there j l in
                let z = waits_on n w cs (lies_there n cs lies) k (row_count n w cs) (omega arith) j l (omega (arith, lies j l)) (omega arith) in
                let o = on_line n cs (lies_there n cs lies) j z.0 z.1 in
                (z.0, z.1, λ e. z.2 (sym (cell_is k z.0 a (omega arith) o.0 o.1) ∙ e));
          }

-- the same records in another file order match, place by place
matched : (n : ℕ) (cs ds : List Circuit) → Lies n cs → Distinct cs → Rearranged cs ds → Match cs ds
unfolding circuit
matched n cs ds lies once h =
    record {
      once = λ i j a b r s e. once i j a b e;
      once' = λ i j a b r s e. rearranged_once cs ds once h i j a b e;
      gap = λ i l. (lies i l).0;
      gap' = λ j l. let x = h.fro j l in omega (arith, (lies (h.back j) x.0).0, ap (λ c. c.first) x.2);
      there = h.there;
      back = h.back;
      to = λ i l r. let x = h.to i l in (x.0, x.2);
      fro = λ j l r. let x = h.fro j l in (x.0, x.2);
    }

-- so they have the same rows
rows_alike : (n w : ℕ) (cs ds : List Circuit) → Match cs ds → (k : ℕ) → cells_to n w cs k ≡ cells_to n w ds k
unfolding cells_to
rows_alike n w cs ds h zero = refl
rows_alike n w cs ds h (suc k) = ap₂ ◌++◌ (rows_alike n w cs ds h k) (sheet_alike n w cs ds h (suc k)).colours

-- and as many
pub cells_alike : (n w : ℕ) (cs ds : List Circuit) → Lies n cs → Distinct cs → Rearranged cs ds → cells n w cs ≡ cells n w ds
cells_alike n w cs ds lies once h =
    let m = matched n cs ds lies once h in
    rows_alike n w cs ds m (row_count n w cs) ∙ ap (λ x. cells_to n w ds (x * w)) (most_match n w cs ds m)
