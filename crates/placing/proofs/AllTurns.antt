-- All turns, one after the other. Assumes nothing.
use Prim.Native.Nat.{◌+◌, ◌<◌, ◌≤◌, ℕ}
use lib.ListN.{get_or, length, length-take, replicate, set, take}
use lib.Seq.{get_or-take, take_all, take-suc}
use mathlib.Core.List.{List, [], ◌++◌, ◌∷◌}
use mathlib.Core.Logic.{◌≢◌}
use mathlib.Core.Path.{◌∙◌, ◌≡◌, ap, fun_ext, refl, subst, sym}
use native.Mathlib.Numerals.{add-one}
use native.Mathlib.Omega.{arith}
use Rattle.records.specs.Records.{put_record}
use Rattle.records.specs.declared.Circuit.{Circuit}
use Rattle.method.specs.Line.{Assignment, Fibre, circuit}
use Rattle.places.specs.Places.{Rider, given_to, riders}
use Rattle.places.specs.Turns.{in_turn}
use Rattle.places.proofs.RiderLaws.{given_other, given_same}
use Rattle.places.proofs.RisingLaws.{Each, each_imp, each_of}
use Rattle.places.proofs.TurnLaws.{turn_length, turn_other}
use Rattle.additions.specs.Adding.{finds, give}
use Rattle.placing.specs.Riding.{Riding, spans_of}
use Rattle.placing.specs.Turns.{InTurn, PlacedAll, given_bytes, recorded}
use Rattle.placing.specs.inner.Spots.{Columns, spans_in}
use Rattle.placing.specs.inner.Standing.{PlacedOne, Standing}
use Rattle.placing.proofs.OneTurn.{corners_none}
use Rattle.placing.proofs.SpotLaws.{columns_place}

-- one turn more
turn_append : (f : List Assignment → ℕ → Assignment) (js : List ℕ) (j : ℕ) (gs : List Assignment) → in_turn f (js ++ (j ∷ [])) gs ≡ set (in_turn f js gs) j (f (in_turn f js gs) j)
unfolding in_turn
turn_append f [] j gs = refl
turn_append f (i ∷ js) j gs = turn_append f js j (set gs i (f gs i))

-- one record more
recorded_append : (ds : List Circuit) (b : ℕ) (gs : List Assignment) (js : List ℕ) (j : ℕ) (s : List ℕ) → recorded ds b gs (js ++ (j ∷ [])) s ≡ put_record (recorded ds b gs js s) (b + j) (given_bytes ds j (given_to gs j))
unfolding recorded
recorded_append ds b gs [] j s = refl
recorded_append ds b gs (i ∷ js) j s = recorded_append ds b gs js j (put_record s (b + i) (given_bytes ds i (given_to gs i)))

-- only what these circuits are given counts
recorded_same : (ds : List Circuit) (b : ℕ) (gs hs : List Assignment) (js : List ℕ) (s : List ℕ) → Each (λ j. given_to gs j ≡ given_to hs j) js → recorded ds b gs js s ≡ recorded ds b hs js s
unfolding recorded
recorded_same ds b gs hs [] s e = refl
recorded_same ds b gs hs (j ∷ js) s e = ap (λ g. recorded ds b gs js (put_record s (b + j) (given_bytes ds j g))) e.0 ∙ recorded_same ds b gs hs js (put_record s (b + j) (given_bytes ds j (given_to hs j))) e.1

-- those before turn t are others than the one at turn t
not_before : (m : ℕ) (gs : List Assignment) (js : List ℕ) → InTurn m gs js → (t : ℕ) → t < length js → Each (λ j. j ≢ get_or js t 0) (take t js)
not_before m gs js h t l =
    each_of (λ j. j ≢ get_or js t 0) (take t js) (λ s b e.
    let n = length-take t js in
    let z = h.once s t (omega arith) l (sym (get_or-take t js s 0 (omega arith)) ∙ e) in
    omega arith)

module _ (fs : List Fibre) (many w : ℕ) (old : List Rider) (ds : List Circuit) (gs : List Assignment) (js : List ℕ) where
  -- after t turns
  pub record Turning (t : ℕ) (s₀ ends assigns heads next untils froms : List ℕ) : Type 0 where
    pub said : assigns ≡ recorded ds (length old) (give fs w old ds (take t js) gs) (take t js) s₀
    pub stands : Standing many w old ds (give fs w old ds (take t js) gs) ends assigns heads next untils froms

  -- before the first
  pub turns_start : (ends assigns heads next untils froms : List ℕ) → Standing many w old ds gs ends assigns heads next untils froms → Turning 0 assigns ends assigns heads next untils froms
  unfolding give in_turn recorded
  turns_start ends assigns heads next untils froms h = record { said = refl; stands = h }

  -- who has its turn has no fibre yet
  pub turn_waits : (m t : ℕ) → InTurn m gs js → t < length js → (given_to (give fs w old ds (take t js) gs) (get_or js t 0)).fibre ≡ 0
  unfolding give
  turn_waits m t h l = ap (λ (g : Assignment). g.fibre) (turn_other (finds fs w old ds) (take t js) gs (get_or js t 0) (not_before m gs js h t l)) ∙ h.waiting t l

  -- a turn
  pub turns_more : (m t x : ℕ) (s₀ s ends' assigns' heads' next' untils' froms' : List ℕ) → InTurn m gs js → t < length js
      → s ≡ recorded ds (length old) (give fs w old ds (take t js) gs) (take t js) s₀
      → PlacedOne many w old ds fs (give fs w old ds (take t js) gs) x s ends' assigns' heads' next' untils' froms' → x ≡ get_or js t 0 → length gs ≡ length ds → get_or js t 0 < length ds
      → Turning (t + 1) s₀ ends' assigns' heads' next' untils' froms'
  unfolding give
  turns_more m t x s₀ s ends' assigns' heads' next' untils' froms' h l e p₀ ex n b =
      let j = get_or js t 0 in
      let g₁ = give fs w old ds (take t js) gs in
      let p = subst (λ y. PlacedOne many w old ds fs g₁ y s ends' assigns' heads' next' untils' froms') ex p₀ in
      let g₂ : List Assignment = set g₁ j (finds fs w old ds g₁ j) in
      let k : take (t + 1) js ≡ take t js ++ (j ∷ []) = ap (λ i. take i js) (add-one t) ∙ take-suc js t 0 l in
      let q : give fs w old ds (take (t + 1) js) gs ≡ g₂ = ap (λ l. give fs w old ds l gs) k ∙ turn_append (finds fs w old ds) (take t js) j gs in
      let same : recorded ds (length old) g₁ (take t js) s₀ ≡ recorded ds (length old) g₂ (take t js) s₀ =
      recorded_same ds (length old) g₁ g₂ (take t js) s₀ (each_imp {P = λ i. i ≢ j} (λ i x. sym (given_other g₁ j i (finds fs w old ds g₁ j) x)) (take t js) (not_before m gs js h t l)) in
      record {
        said = p.said ∙ ap (λ x. put_record x (length old + j) (given_bytes ds j (finds fs w old ds g₁ j))) (e ∙ same)
            ∙ ap (λ g. put_record (recorded ds (length old) g₂ (take t js) s₀) (length old + j) (given_bytes ds j g)) (sym (given_same g₁ j (finds fs w old ds g₁ j) (omega (arith, turn_length (finds fs w old ds) (take t js) gs))))
            ∙ sym (recorded_append ds (length old) g₂ (take t js) j s₀) ∙ ap (λ l. recorded ds (length old) g₂ l s₀) (sym k) ∙ ap (λ g. recorded ds (length old) g (take (t + 1) js) s₀) (sym q);
        stands = subst (λ g. Standing many w old ds g ends' assigns' heads' next' untils' froms') (sym q) p.stands;
      }

  -- after the last
  pub turns_end : (t : ℕ) (s₀ ends assigns heads next untils froms : List ℕ) → length js ≤ t → Turning t s₀ ends assigns heads next untils froms → PlacedAll many w old ds fs gs js s₀ ends assigns heads next
  turns_end t s₀ ends assigns heads next untils froms l h =
      let k : take t js ≡ js = take_all t js l in
      record {
        said = h.said ∙ ap (λ x. recorded ds (length old) (give fs w old ds x gs) x s₀) k;
        rides = subst (λ x. Riding many (old ++ riders ds (give fs w old ds x gs)) ends assigns heads next) k h.stands.riding;
      }

  -- no corner yet
  pub turns_ready : (ends assigns heads next untils froms : List ℕ) (n : ℕ) → length gs ≡ length ds → Riding many (old ++ riders ds gs) ends assigns heads next → untils ≡ replicate n 0 → Standing many w old ds gs ends assigns heads next untils froms
  turns_ready ends assigns heads next untils froms n e h z = record { one_each = e; riding = h; corners = corners_none many 1 w (old ++ riders ds gs) untils froms n z }

-- COLUMNS. What is given by the columns of the fibre records is given by the fibres
columns_give : (many w : ℕ) (fibres firsts lasts : List ℕ) → Columns many fibres firsts lasts → (old : List Rider) (ds : List Circuit) (js : List ℕ) (gs : List Assignment)
    → give (spans_in many firsts lasts) w old ds js gs ≡ give (spans_of many fibres) w old ds js gs
unfolding give finds
columns_give many w fibres firsts lasts k old ds js gs =
    ap (λ (f : List Assignment → ℕ → Assignment). in_turn f js gs) (fun_ext (λ hs. fun_ext (λ j. columns_place many fibres firsts lasts k 1 w (old ++ riders ds hs) (circuit ds j))))

-- so who was placed by the columns was placed on the fibres
pub placed_by_columns : (many w : ℕ) (fibres firsts lasts : List ℕ) → Columns many fibres firsts lasts → (old : List Rider) (ds : List Circuit) (gs : List Assignment) (js s₀ ends assigns heads next : List ℕ)
    → PlacedAll many w old ds (spans_in many firsts lasts) gs js s₀ ends assigns heads next → PlacedAll many w old ds (spans_of many fibres) gs js s₀ ends assigns heads next
placed_by_columns many w fibres firsts lasts k old ds gs js s₀ ends assigns heads next p =
    let e = columns_give many w fibres firsts lasts k old ds js gs in
    record {
      said = p.said ∙ ap (λ (g : List Assignment). recorded ds (length old) g js s₀) e;
      rides = subst (λ (g : List Assignment). Riding many (old ++ riders ds g) ends assigns heads next) e p.rides;
    }
