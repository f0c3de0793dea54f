-- What the loop along a chain asks at each circuit, and the loop's state. Assumes nothing.
use Prim.Native.Nat.{ℕ, zero, suc, ◌+◌, ◌-◌, ◌*◌, ◌/◌, ◌≤◌, ◌<◌}
use mathlib.Core.Path.{◌≡◌, refl, sym, ap, subst, ◌∙◌}
use mathlib.Core.Logic.{⊎_elim}
use mathlib.Core.List.{List}
use native.Mathlib.Omega.{arith}
use lib.ListN.{length, get_or}
use Rattle.basics.proofs.Bools.{by_le}
use Rattle.records.specs.Area.{rows_in}
use Rattle.records.specs.Bytes.{cells_of, set_cell}
use Rattle.records.specs.Records.{circuit_of, circuits_in, record_at}
use Rattle.records.specs.declared.Circuit.{Circuit}
use Rattle.records.proofs.Files.{length_circuits_in}
use Rattle.method.specs.Fibres.{layer_of}
use Rattle.method.specs.Line.{circuit, fibre_under, no_fibre}
use Rattle.method.specs.Lit.{fibre_number}
use Rattle.method.proofs.Circuits.{circuit_in_lem}
use Rattle.chains.specs.Riders.{First, Rides, key}
use Rattle.lit.specs.inner.Sweeps.{Ground, HasRow, Origin, Swept, Takable, closed, past_all, standing, taken, written}
use Rattle.lit.specs.declared.Open.{Open}
use Rattle.lit.proofs.Takes.{in_taken, new_taken, on_taken}
use Rattle.lit.proofs.SweepLaws.{ends, few_listed, key_low, last_there, layer_on, new_few, on_to, past_real, short_listed, swept_over, swept_turn}

-- THE LOOP'S STATE: the walk along the chain of fibre o + 1 comes to the circuit told by z
pub record Walk (n from : ℕ) (cs : List Circuit) (x : Origin) (o z : ℕ) (s : Open) (F A : List ℕ) : Type 0 where
  pub rider : (j : ℕ) → z ≡ suc j → Rides cs (fibre_number x.plan) (suc o) j
  pub swept : Swept n from cs x o (standing cs z) s F A

-- what the loop asks at circuit j
pub record There (j : ℕ) (file A : List ℕ) : Type 0 where
  pub few : j < 2048
  pub listed : 8 * j + 8 ≤ length file
  pub room : 8 * j + 8 ≤ length A

-- how far a walk has to go
pub to_go : List Circuit → ℕ → ℕ
to_go cs z = past_all - standing cs z

module _ (m : ℕ) (file : List ℕ) (whole : 8 * m ≤ length file) {n w from : ℕ} {work next heads : List ℕ} {x : Origin} (gr : Ground n w from (circuits_in m file) work next heads x) where
  -- the circuits
  abbrev cs : List Circuit
  cs = circuits_in m file

  -- a circuit of the file
  read : (j : ℕ) (c : Circuit) → j < length cs → c ≡ circuit_of (record_at file j) → c ≡ circuit cs j
  read j c l e = e ∙ sym (circuit_in_lem m file j (omega (arith, length_circuits_in m file)))

  -- it is in the file
  in_file : (j : ℕ) → j < length cs → 8 * j + 8 ≤ length file
  in_file j l = omega (arith, length_circuits_in m file)

  -- the walk begins at the head
  pub walk_start : (o : ℕ) {z : ℕ} {s : Open} {F A : List ℕ} → z ≡ get_or heads o 0 → Swept n from cs x o 0 s F A → Walk n from cs x o z s F A
  walk_start o {z} {s} {F} {A} e g =
      let k : o + 1 ≡ suc o = omega arith in
      let f : First cs (fibre_number x.plan) (suc o) 0 z = subst (λ (i : ℕ). First cs (fibre_number x.plan) i 0 z) k (subst (First cs (fibre_number x.plan) (o + 1) 0) (sym e) (gr.chained.head o)) in
      record { rider = f.rides; swept = on_to n w from cs work next heads x gr o 0 z s F A (omega arith) f g }

  -- it has no circuit, or no more
  pub walk_end : {o z : ℕ} {s : Open} {F A : List ℕ} → z ≡ 0 → Walk n from cs x o z s F A → Swept n from cs x (o + 1) 0 (closed s.made) F A
  unfolding standing
  walk_end {o} {z} {s} {F} {A} e g =
      let k : suc o ≡ o + 1 = omega arith in
      let h : Swept n from cs x o past_all s F A = subst (λ (i : ℕ). Swept n from cs x o (standing cs i) s F A) e g.swept in
      subst (λ (i : ℕ). Swept n from cs x i 0 (closed s.made) F A) k (swept_over n w from cs work next heads x gr o s F A h)

  -- at circuit j
  module _ {o j z : ℕ} {s : Open} {F A : List ℕ} (low : o < 4096) (here : z ≡ suc j) (g : Walk n from cs x o z s F A) where
    -- it rides on the fibre
    rides : Rides cs (fibre_number x.plan) (suc o) j
    rides = g.rider j here

    -- it is the next to be swept
    swept : Swept n from cs x o (key cs j) s F A
    unfolding standing
    swept = subst (λ (i : ℕ). Swept n from cs x o (standing cs i) s F A) here g.swept

    -- it is there
    pub there : There j file A
    there =
        let l = rides.there in
        let f = gr.few in
        let a = gr.assign_room in
        let b = swept.kept in
        record { few = omega arith; listed = in_file j l; room = omega arith }

    -- it has a row
    pub has_row : HasRow n w m j work
    has_row =
        let l = rides.there in
        let k = length_circuits_in m file in
        let f = gr.few in
        let v = gr.area in
        record {
          line = gr.line;
          waves = gr.waves;
          few = omega arith;
          there = omega arith;
          area = omega arith;
          row = subst (λ (i : ℕ). 2 ≤ get_or (rows_in n i (cells_of work)) j 0) k (gr.rows j l);
        }

    -- the layer of the fibre
    pub layer_is : {v : ℕ} → v ≡ layer_of w (get_or (rows_in n m (cells_of work)) j 0 / 2) → v ≡ layer_on n w from cs work next heads x gr o
    unfolding fibre_under
    layer_is {v} e =
        let y : fibre_number x.plan j - 1 ≡ o = (let y = rides.mine in omega arith) in
        e ∙ ap (λ (i : ℕ). layer_of w (get_or (rows_in n i (cells_of work)) j 0 / 2)) (sym (length_circuits_in m file))
        ∙ gr.layers j rides.there ∙ ap (λ (i : ℕ). (get_or x.plan.fibres i no_fibre).layer) y

    -- what take_in asks
    pub asked : {c : Circuit} {layer : ℕ} → layer ≤ 65535 → c ≡ circuit_of (record_at file j) → Takable from layer c s F
    asked {c} {layer} small e =
        let q = read j c rides.there e in
        let q₁ = ap (λ (i : Circuit). i.first) q in
        let q₂ = ap (λ (i : Circuit). i.last) q in
        let E = ends n w from cs work next heads x gr j rides.there in
        let E₀ = E.0 in
        let E₁ = E.1 in
        let E₂ = E.2 in
        let l = gr.line in
        let b : s.past ≤ n + 1 = ⊎_elim (λ i. omega arith) (λ i. i.1) (past_real n w from cs work next heads x gr o (key cs j) s F A swept) in
        let k = few_listed n w from cs work next heads x gr o s.past b in
        let r = gr.fibre_room in
        let a = gr.number_room in
        let v = swept.sized in
        let u = swept.counted in
        record {
          pos = omega arith;
          order = omega arith;
          high = omega arith;
          layer_small = small;
          total_small = omega (arith, swept.summed, short_listed n w from cs work next heads x gr o s.past low b);
          past_small = omega arith;
          new = λ h. (let y = new_few n w from cs work next heads x gr o j s F A rides swept (omega arith) in (omega arith, omega arith));
          on = λ h. (last_there n w from cs work next heads x gr o j s F A rides swept (omega arith), omega arith);
        }

    -- its number fits
    pub number_low : {c : Circuit} {s' : Open} → c ≡ circuit_of (record_at file j) → s' ≡ taken c s → from + s'.made.fibres ≤ 65535
    number_low {c} {s'} e t =
        let q = asked {layer = 0} (omega arith) e in
        let m = ap (λ (i : Open). i.made.fibres) t in
        by_le c.first s.past
        (λ h.
        by_le (c.last + 1) s.past
        (λ k. let v = ap (λ (i : Open). i.made.fibres) (in_taken c s h k) in omega (arith, few))
        (λ k. let v = ap (λ (i : Open). i.made.fibres) (on_taken c s c.last refl h k) in omega (arith, few)))
        (λ h. let v = ap (λ (i : Open). i.made.fibres) (new_taken c s c.first c.last refl refl h) in let y = (q.new h).1 in omega arith)
      where
        -- as many as there are
        few : from + s.made.fibres ≤ 65535
        few =
            let b : s.past ≤ n + 1 = ⊎_elim (λ i. omega arith) (λ i. i.1) (past_real n w from cs work next heads x gr o (key cs j) s F A swept) in
            let k = few_listed n w from cs work next heads x gr o s.past b in
            let a = gr.number_room in
            let u = swept.counted in
            omega arith

    -- after it comes the next circuit of the fibre
    next_is : {v : ℕ} → v ≡ get_or next j 0 → First cs (fibre_number x.plan) (suc o) (suc (key cs j)) v
    next_is {v} u =
        subst (First cs (fibre_number x.plan) (suc o) (suc (key cs j))) (sym u)
        (subst (λ (i : ℕ). First cs (fibre_number x.plan) i (suc (key cs j)) (get_or next j 0)) rides.mine (gr.chained.after j rides.there))

    -- so what is left falls
    pub walk_falls : {v : ℕ} → v ≡ get_or next j 0 → to_go cs v < to_go cs z
    unfolding to_go standing
    walk_falls {v} u = rw here (go v (next_is u))
      where
        -- to the next circuit, or past all
        go : (v : ℕ) → First cs (fibre_number x.plan) (suc o) (suc (key cs j)) v → to_go cs v < to_go cs (suc j)
        go zero h = let k = key_low n w from cs work next heads x gr j rides.there in omega arith
        go (suc d) h =
            let k = key_low n w from cs work next heads x gr j rides.there in
            let b = h.late d (λ i. suc d) in
            let k' = key_low n w from cs work next heads x gr d (h.rides d (λ i. suc d)).there in
            omega arith

    -- the circuit is taken in, gets its number, and the walk goes on
    pub walk_turn : {c : Circuit} {layer v : ℕ} {s' : Open} {F' A' : List ℕ} → c ≡ circuit_of (record_at file j) → layer ≡ layer_on n w from cs work next heads x gr o → v ≡ get_or next j 0
        → s' ≡ taken c s → F' ≡ written from layer c s F → length F' ≡ length F → A' ≡ set_cell A (4 * j + 2) (from + s'.made.fibres) → Walk n from cs x o v s' F' A'
    walk_turn {c} {layer} {v} {s'} {F'} {A'} e q u t f l a =
        let k = read j c rides.there e in
        let t' : s' ≡ taken (circuit cs j) s = t ∙ ap (λ (i : Circuit). taken i s) k in
        let b = swept_turn n w from cs work next heads x gr o j s F A rides swept layer F' A' q (f ∙ ap (λ (i : Circuit). written from layer i s F) k) l (a ∙ ap (λ (i : Open). set_cell A (4 * j + 2) (from + i.made.fibres)) t') in
        let b' : Swept n from cs x o (suc (key cs j)) s' F' A' = subst (λ (i : Open). Swept n from cs x o (suc (key cs j)) i F' A') (sym t') b in
        let h = next_is u in
        let y = key_low n w from cs work next heads x gr j rides.there in
        record { rider = h.rides; swept = on_to n w from cs work next heads x gr o (suc (key cs j)) v s' F' A' (omega arith) h b' }
