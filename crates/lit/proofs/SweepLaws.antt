-- The sweep along the circuits of an old fibre: on to the next circuit, one circuit, and on to the next fibre. Assumes nothing.
use Prim.Native.Nat.{ℕ, zero, suc, ◌+◌, ◌-◌, ◌*◌, ◌≤◌, ◌<◌, max}
use mathlib.Core.Bool.{Bool, ◌&&◌, false, not, true}
use mathlib.Core.Path.{◌≡◌, refl, sym, ap, ap₂, subst, ◌∙◌}
use mathlib.Core.Logic.{◌≢◌, ◌⊎◌, inl, inr, ⊎_elim}
use mathlib.Core.List.{List, [], ◌∷◌, ◌++◌, append_assoc, append-nil}
use native.Mathlib.Omega.{arith}
use lib.ListN.{length, get_or, drop, length-append}
use lib.Dec.{leb}
use Rattle.basics.specs.Tools.{count, sum}
use Rattle.basics.proofs.Bools.{by_eq, by_le}
use Rattle.basics.proofs.Counts.{count_below, count_split}
use Rattle.records.specs.Bytes.{set_cell}
use Rattle.records.specs.Records.{put_record, record_at}
use Rattle.records.specs.declared.Circuit.{Circuit}
use Rattle.method.specs.Fibres.{runs}
use Rattle.method.specs.Line.{Fibre, Plan, assigned, circuit, no_fibre, total}
use Rattle.method.specs.Lit.{fibre_number, lit, new_fibre, stretches, stretches_to}
use Rattle.method.proofs.Links.{lies_there}
use Rattle.method.proofs.LitFew.{to_few}
use Rattle.method.proofs.LitSweep.{Of, Reached, begun_to, number_counted, reached_dark, reached_far, shines, stretches_count, swept_far, to_count}
use Rattle.method.proofs.RunStarts.{begins_to, runs_length}
use Rattle.method.proofs.Stretches.{dark_zero, to_next}
use Rattle.chains.specs.Riders.{First, Rides, key}
use Rattle.chains.proofs.Walks.{first_next, first_none, key_one}
use Rattle.register.specs.Lists.{fibre_list, fibre_record}
use Rattle.lit.specs.inner.Sweeps.{Ground, Origin, Swept, past_all, so_far, spot, standing, taken, written}
use Rattle.lit.specs.declared.Open.{Open}
use Rattle.lit.proofs.RunEnds.{full, longer, longer_behind, longer_length, total_append, total_few, total_new, total_on, up_darks, up_grows, up_new}
use Rattle.lit.proofs.Takes.{in_taken, in_written, new_taken, new_written, on_taken, on_written}
use Rattle.lit.proofs.ByteLaws.{behind_kept, filled_longer, filled_more, length_stored, record_other, renumbered}

-- no fewer begin up to a later link
begun_mono : (p : ℕ → Bool) (a b : ℕ) → a ≤ b → begins_to p a ≤ begins_to p b
unfolding begins_to
begun_mono p a b h =
    let e : b ≡ a + (b - a) = omega arith in
    let q : ℕ → Bool = λ y. p (suc y) && not (p y) in
    let s : count q b ≡ count q a + count (λ x. q (a + x)) (b - a) = ap (count q) e ∙ count_split q a (b - a) in
    omega arith

module _ (n w from : ℕ) (cs : List Circuit) (work next heads : List ℕ) (x : Origin) (gr : Ground n w from cs work next heads x) where
  -- the plan
  abbrev p : Plan
  p = x.plan

  -- the layer of fibre o + 1
  abbrev pub layer_on : ℕ → ℕ
  layer_on o = (get_or p.fibres o no_fibre).layer

  -- a circuit's ends are on the line
  pub ends : (d : ℕ) → d < length cs → (1 ≤ (circuit cs d).first) × ((circuit cs d).first ≤ (circuit cs d).last) × ((circuit cs d).last ≤ n)
  unfolding circuit
  ends d l = gr.lies d l

  -- it stands before the end
  pub key_low : (d : ℕ) → d < length cs → key cs d < past_all
  key_low d l = let e = ends d l in let e₁ = e.1 in let e₂ = e.2 in let s = gr.line in let f = gr.few in omega arith

  -- a circuit that rides is of the fibre
  of : (q d : ℕ) → Rides cs (fibre_number p) q d → Of n cs p gr.lies q d
  of q d r = record { there = r.there; mine = r.mine }

  -- and the other way
  rides : (q d : ℕ) → Of n cs p gr.lies q d → Rides cs (fibre_number p) q d
  rides q d r = record { there = r.there; mine = r.mine }

  -- WHAT IS REACHED, at a link up to which all stand before t
  reached : (o t y : ℕ) (s : Open) (F A : List ℕ) → 2048 * y ≤ t → ((d : ℕ) → d < length cs → key cs d < t → (circuit cs d).first ≤ y) → Swept n from cs x o t s F A
      → Reached n cs p gr.lies (suc o) y (s.past - 1)
  reached o t y s F A l h g =
      record {
        all_end = λ d r b.
            let f = gr.few in
            let i = r.there in
            let e = g.all_end d (rides (suc o) d r) (omega arith) in
            omega arith;
        one_ends =
            ⊎_elim (λ z. inl (omega arith))
            (λ z. let z₃ = z.3 in inr (z.0, of (suc o) z.0 z.1, h z.0 z.1.there z.2, omega arith))
            g.one_ends;
      }

  -- the link after the run that is open
  pub past_real : (o t : ℕ) (s : Open) (F A : List ℕ) → Swept n from cs x o t s F A → (s.past ≡ 0) ⊎ ((2 ≤ s.past) × (s.past ≤ n + 1))
  past_real o t s F A g =
      ⊎_elim inl
      (λ z. let e = ends z.0 z.1.there in let e₀ = e.0 in let e₁ = e.1 in let e₂ = e.2 in let z₃ = z.3 in inr (omega arith, omega arith))
      g.one_ends

  -- ON TO THE NEXT CIRCUIT: nobody of the fibre stands between
  skip : (o t u : ℕ) (s : Open) (F A : List ℕ) → t ≤ u → u ≤ past_all → ((d : ℕ) → Rides cs (fibre_number p) (suc o) d → key cs d < u → key cs d < t) → Swept n from cs x o t s F A → Swept n from cs x o u s F A
  skip o t u s F A l b h g =
      record {
        all_end = λ d r k. g.all_end d r (h d r k);
        one_ends = ⊎_elim inl (λ z. let z₂ = z.2 in inr (z.0, z.1, omega arith, z.3)) g.one_ends;
        counted = g.counted;
        summed = g.summed;
        listed = g.listed;
        sized = g.sized;
        kept = g.kept;
        rest = g.rest;
        some = g.some;
        given = λ j i k.
            let m = key_low j i in
            by_eq (fibre_number p j) (suc o)
            (λ e. let v = h j (record { there = i; mine = e }) (omega arith) in g.given j i (omega arith))
            (λ e. g.given j i (omega arith));
      }

  -- the walk comes to the circuit that is told
  pub on_to : (o t z : ℕ) (s : Open) (F A : List ℕ) → t ≤ past_all → First cs (fibre_number p) (suc o) t z → Swept n from cs x o t s F A → Swept n from cs x o (standing cs z) s F A
  unfolding standing
  on_to o t zero s F A l f g = skip o t past_all s F A l (omega arith) (λ d r k. first_none cs (fibre_number p) (suc o) t d f r) g
  on_to o t (suc j) s F A l f g =
      let i = (f.rides j (λ i. suc j)).there in
      let k = key_low j i in
      let b = f.late j (λ i. suc j) in
      skip o t (key cs j) s F A b (omega arith)
      (λ d r a. by_le t (key cs d) (λ c. absurd (let v = first_next cs (fibre_number p) (suc o) t j d f r c in omega arith)) (λ c. c)) g

  -- HOW MANY, AND HOW LONG
  -- one number by two names
  begun_is : (q y : ℕ) → begun_to n cs p gr.lies q y ≡ begins_to (lit cs p q) y
  unfolding begun_to
  begun_is q y = refl

  -- what is listed is no more than the circuits
  pub few_listed : (o y : ℕ) → y ≤ n + 1 → length (so_far n cs p o y) ≤ length cs
  unfolding so_far stretches
  few_listed o y l =
      let d = dark_zero cs p n (lies_there n cs gr.lies) (suc o) in
      omega (
        arith,
        length-append (stretches_to n cs p o) (runs (layer_on o) (lit cs p (suc o)) 1 (y - 1)),
        runs_length (layer_on o) (lit cs p (suc o)) (y - 1) d,
        begun_mono (lit cs p (suc o)) (y - 1) n (omega arith),
        stretches_count n cs p gr.lies (suc o),
        begun_is (suc o) n,
        to_next n cs p o,
        to_few n cs p (lies_there n cs gr.lies) (suc o),
        count_below (λ j. leb (assigned p j).fibre (suc o)) (length cs),
      )

  -- each old fibre becomes at most a line of fibres
  long_to : (o : ℕ) → total (stretches_to n cs p o) ≤ 512 * o
  long_to zero = unfold stretches_to total in omega arith
  long_to (suc o) =
      let s = gr.line in
      let k : total (stretches n cs p (suc o)) ≤ n = unfold stretches in total_few (get_or p.fibres (suc o - 1) no_fibre).layer (lit cs p (suc o)) n in
      let e : total (stretches_to n cs p (suc o)) ≡ total (stretches_to n cs p o) + total (stretches n cs p (suc o)) = unfold stretches_to in total_append (stretches_to n cs p o) (stretches n cs p (suc o)) in
      omega (arith, long_to o)

  -- so what is listed is not too long
  pub short_listed : (o y : ℕ) → o < 4096 → y ≤ n + 1 → total (so_far n cs p o y) ≤ 4294967295
  unfolding so_far
  short_listed o y l k =
      let s = gr.line in
      omega (arith, total_append (stretches_to n cs p o) (runs (layer_on o) (lit cs p (suc o)) 1 (y - 1)), long_to o, total_few (layer_on o) (lit cs p (suc o)) (y - 1))

  -- ONE CIRCUIT. Circuit j of fibre o + 1, where those that stand before it are swept
  module _ (o j : ℕ) (s : Open) (F A : List ℕ) (r : Rides cs (fibre_number p) (suc o) j) (g : Swept n from cs x o (key cs j) s F A) where
    -- the circuit
    abbrev c : Circuit
    c = circuit cs j

    -- whether a link of the fibre is lit
    abbrev lights : ℕ → Bool
    lights = lit cs p (suc o)

    -- what is reached
    reach : Reached n cs p gr.lies (suc o) c.first (s.past - 1)
    reach = let f = gr.few in let i = r.there in reached o (key cs j) c.first s F A (omega arith) (λ d l k. omega arith) g

    -- its links are lit
    shine : (y : ℕ) → c.first ≤ y → y ≤ c.last → lights y ≡ true
    shine y a b = shines n cs p gr.lies (suc o) j y (of (suc o) j r) a b

    -- between what is reached and it none is
    dark : (y : ℕ) → s.past - 1 < y → y < c.first → lights y ≡ false
    dark y a b = reached_dark n cs p gr.lies (suc o) c.first (s.past - 1) reach y a b

    -- it begins past the open run: the link before it is not lit
    dark_before : s.past < c.first → lights (c.first - 1) ≡ false
    dark_before h =
        by_eq (c.first - 1) 0
        (λ z. ap lights z ∙ dark_zero cs p n (lies_there n cs gr.lies) (suc o))
        (λ z. dark (c.first - 1) (omega arith) (omega arith))

    -- so there is a run more
    new_list : s.past < c.first → so_far n cs p o (c.last + 1) ≡ so_far n cs p o s.past ++ (record { first = c.first; last = c.last; layer = layer_on o } ∷ [])
    unfolding so_far
    new_list h =
        let e = ends j r.there in
        let z : c.last + 1 - 1 ≡ c.last = omega arith in
        ap (λ (y : ℕ). stretches_to n cs p o ++ runs (layer_on o) lights 1 y) z
        ∙ ap (λ (l : List Fibre). stretches_to n cs p o ++ l) (up_new (layer_on o) lights (s.past - 1) c.first c.last (omega arith) e.1 (dark_before h) dark shine)
        ∙ sym (append_assoc (stretches_to n cs p o) (runs (layer_on o) lights 1 (s.past - 1)) (record { first = c.first; last = c.last; layer = layer_on o } ∷ []))

    -- there is room for it
    pub new_few : s.past < c.first → s.made.fibres + 1 ≤ length cs
    new_few h =
        let e = ends j r.there in
        let e₂ = e.2 in
        omega (
          arith,
          g.counted,
          ap length (new_list h),
          length-append (so_far n cs p o s.past) (record { first = c.first; last = c.last; layer = layer_on o } ∷ []),
          few_listed o (c.last + 1) (omega arith),
        )

    -- and its length more
    new_total : s.past < c.first → total (so_far n cs p o (c.last + 1)) ≡ total (so_far n cs p o s.past) + (c.last + 1 - c.first)
    unfolding so_far
    new_total h =
        let e = ends j r.there in
        let z : c.last + 1 - 1 ≡ c.last = omega arith in
        omega (
          arith,
          total_append (stretches_to n cs p o) (runs (layer_on o) lights 1 (c.last + 1 - 1)),
          total_append (stretches_to n cs p o) (runs (layer_on o) lights 1 (s.past - 1)),
          ap (λ (y : ℕ). total (runs (layer_on o) lights 1 y)) z,
          total_new (layer_on o) lights (s.past - 1) c.first c.last (omega arith) e.1 dark shine,
        )

    -- it begins in the open run, or just past it: there is one
    opened : c.first ≤ s.past → 2 ≤ s.past
    opened h = let e = ends j r.there in let e₀ = e.0 in ⊎_elim (λ z. absurd (omega arith)) (λ z. z.0) (past_real o (key cs j) s F A g)

    -- whose last link is lit
    lit_far : c.first ≤ s.past → lights (s.past - 1) ≡ true
    lit_far h = let q = opened h in reached_far n cs p gr.lies (suc o) c.first (s.past - 1) reach (omega arith)

    -- so are those from there to its end
    lit_on : c.first ≤ s.past → (y : ℕ) → s.past - 1 ≤ y → y ≤ c.last → lights y ≡ true
    lit_on h y a b = let q = opened h in by_eq y (s.past - 1) (λ z. ap lights z ∙ lit_far h) (λ z. shine y (omega arith) b)

    -- there is a last record
    pub last_there : c.first ≤ s.past → 1 ≤ s.made.fibres
    unfolding so_far
    last_there h =
        let q = opened h in
        omega (
          arith,
          g.counted,
          length-append (stretches_to n cs p o) (runs (layer_on o) lights 1 (s.past - 1)),
          full (layer_on o) lights 1 (s.past - 1) (s.past - 1) (omega arith) (omega arith) (lit_far h),
        )

    -- the last run is longer
    on_list : c.first ≤ s.past → s.past < c.last + 1 → so_far n cs p o (c.last + 1) ≡ longer c.last (so_far n cs p o s.past)
    unfolding so_far
    on_list h k =
        let q = opened h in
        let z : c.last + 1 - 1 ≡ c.last = omega arith in
        ap (λ (y : ℕ). stretches_to n cs p o ++ runs (layer_on o) lights 1 y) z
        ∙ ap (λ (l : List Fibre). stretches_to n cs p o ++ l) (up_grows (layer_on o) lights (s.past - 1) c.last (omega arith) (omega arith) (lit_on h))
        ∙ sym (longer_behind c.last (stretches_to n cs p o) (runs (layer_on o) lights 1 (s.past - 1)) (full (layer_on o) lights 1 (s.past - 1) (s.past - 1) (omega arith) (omega arith) (lit_far h)))

    -- by what it is longer
    on_total : c.first ≤ s.past → s.past < c.last + 1 → total (so_far n cs p o (c.last + 1)) ≡ total (so_far n cs p o s.past) + (c.last + 1 - s.past)
    unfolding so_far
    on_total h k =
        let q = opened h in
        let z : c.last + 1 - 1 ≡ c.last = omega arith in
        omega (
          arith,
          total_append (stretches_to n cs p o) (runs (layer_on o) lights 1 (c.last + 1 - 1)),
          total_append (stretches_to n cs p o) (runs (layer_on o) lights 1 (s.past - 1)),
          ap (λ (y : ℕ). total (runs (layer_on o) lights 1 y)) z,
          total_on (layer_on o) lights (s.past - 1) c.last (omega arith) (λ y a b. lit_on h y (omega arith) b),
        )

    -- ITS NEW NUMBER is how many new fibres there then are
    number : (k y : ℕ) → y ≡ max s.past (c.last + 1) → k ≡ length (so_far n cs p o y) → k ≡ new_fibre n cs p j
    unfolding so_far
    number k y e q =
        let m : (assigned p j).fibre ≡ suc o = (of (suc o) j r).mine in
        let z : y - 1 ≡ max (s.past - 1) c.last = omega arith in
        let b : begins_to lights (y - 1) ≡ begun_to n cs p gr.lies (suc o) (max (s.past - 1) c.last) = ap (begins_to lights) z ∙ sym (begun_is (suc o) (max (s.past - 1) c.last)) in
        let v : (assigned p j).fibre - 1 ≡ o = omega arith in
        let a : new_fibre n cs p j ≡ sum (λ (i : ℕ). begun_to n cs p gr.lies i n) o + begun_to n cs p gr.lies (suc o) c.first =
        number_counted n cs p gr.lies j r.there
        ∙ ap₂ (λ (u v : ℕ). sum (λ (i : ℕ). begun_to n cs p gr.lies i n) u + begun_to n cs p gr.lies v c.first) v m in
        omega (
          arith,
          length-append (stretches_to n cs p o) (runs (layer_on o) lights 1 (y - 1)),
          runs_length (layer_on o) lights (y - 1) (dark_zero cs p n (lies_there n cs gr.lies) (suc o)),
          to_count n cs p gr.lies o,
          swept_far n cs p gr.lies (suc o) c.first (s.past - 1) j reach (of (suc o) j r) refl,
        )

    -- THE TURN, put together
    swept_by : (s' : Open) (F' A' : List ℕ) → s'.past ≡ max s.past (c.last + 1) → s'.made.fibres ≡ length (so_far n cs p o s'.past) → s'.made.total ≡ total (so_far n cs p o s'.past)
        → F' ≡ fibre_list from (so_far n cs p o s'.past) x.fibres → length F' ≡ length F
        → A' ≡ set_cell A (4 * j + 2) (from + s'.made.fibres) → Swept n from cs x o (suc (key cs j)) s' F' A'
    swept_by s' F' A' e q t f l a =
        record {
          all_end = λ d b k.
              by_eq d j
              (λ z. let y = ap (λ (i : ℕ). (circuit cs i).last) z in omega arith)
              (λ z. let y = other d b.there z in let u = g.all_end d b (omega arith) in omega arith);
          one_ends =
              by_le s.past (c.last + 1)
              (λ b. inr (j, r, omega arith, omega arith))
              (λ b. ⊎_elim (λ z. absurd (omega arith)) (λ z. let z₂ = z.2 in let z₃ = z.3 in inr (z.0, z.1, omega arith, omega arith)) g.one_ends);
          counted = q;
          summed = t;
          listed = f;
          sized = l ∙ g.sized;
          kept = ap length a ∙ length_stored A (4 * j + 2) (from + s'.made.fibres) ∙ g.kept;
          rest = ap (drop (8 * length cs)) a ∙ behind_kept A j (length cs) (from + s'.made.fibres) r.there ∙ g.rest;
          some = λ d b.
              by_eq d j
              (λ z. (from + s'.made.fibres, at d z))
              (λ z. ((g.some d b).0, ap (λ (y : List ℕ). record_at y d) a ∙ record_other A d j (from + s'.made.fibres) z ∙ (g.some d b).1));
          given = λ d b k.
              by_eq d j
              (λ z. at d z ∙ ap (λ (y : ℕ). spot cs p d (from + y)) (number s'.made.fibres s'.past e q ∙ ap (new_fibre n cs p) (sym z)))
              (λ z.
              let y = other d b z in
              let m = key_low d b in
              let v = key_low j r.there in
              let w = r.mine in
              ap (λ (y : List ℕ). record_at y d) a ∙ record_other A d j (from + s'.made.fibres) z ∙ g.given d b (omega arith));
        }
      where
        -- nobody else stands where it does
        other : (d : ℕ) → d < length cs → d ≢ j → key cs d ≢ key cs j
        other d b z u = z (key_one cs gr.few d j b r.there u)

        -- its record
        at : (d : ℕ) → d ≡ j → record_at A' d ≡ spot cs p d (from + s'.made.fibres)
        at d z = rw z (ap (λ (y : List ℕ). record_at y j) a ∙ renumbered cs p A j (g.some j r.there).0 (from + s'.made.fibres) (g.some j r.there).1)

    -- one more circuit is swept
    pub swept_turn : (layer : ℕ) (F' A' : List ℕ) → layer ≡ layer_on o → F' ≡ written from layer c s F → length F' ≡ length F → A' ≡ set_cell A (4 * j + 2) (from + (taken c s).made.fibres)
        → Swept n from cs x o (suc (key cs j)) (taken c s) F' A'
    swept_turn layer F' A' e f l a =
        let E = ends j r.there in
        let E₁ = E.1 in
        by_le c.first s.past
        (λ h.
        by_le (c.last + 1) s.past
        (λ k.
        let t = in_taken c s h k in
        let v : s.past ≡ max s.past (c.last + 1) = omega arith in
        subst (λ (i : Open). Swept n from cs x o (suc (key cs j)) i F' A') t
        (swept_by s F' A' v g.counted g.summed (f ∙ sym (in_written c s from layer F h k) ∙ g.listed) l
        (a ∙ ap (λ (i : Open). set_cell A (4 * j + 2) (from + i.made.fibres)) (sym t))))
        (λ k.
        let u : Open = record { made = record { fibres = s.made.fibres; total = s.made.total + (c.last + 1 - s.past) }; past = c.last + 1 } in
        let t : u ≡ taken c s = on_taken c s c.last refl h k in
        let L : List Fibre = so_far n cs p o s.past in
        let y = on_list h k in
        subst (λ (i : Open). Swept n from cs x o (suc (key cs j)) i F' A') t
        (swept_by u F' A' (omega arith)
        (g.counted ∙ sym (longer_length c.last L) ∙ ap length (sym y))
        (omega (arith, g.summed, on_total h k))
        (subst (λ (i : List Fibre). F' ≡ fibre_list from i x.fibres) (sym y)
        (filled_longer from s.made.fibres c.last L x.fibres F F' g.counted (last_there h) g.listed (f ∙ sym (on_written c s from layer F (set_cell F (4 * (s.made.fibres - 1) + 2) c.last) h k refl))))
        l
        (a ∙ ap (λ (i : Open). set_cell A (4 * j + 2) (from + i.made.fibres)) (sym t)))))
        (λ h.
        let u : Open = record { made = record { fibres = s.made.fibres + 1; total = s.made.total + (c.last + 1 - c.first) }; past = c.last + 1 } in
        let t : u ≡ taken c s = new_taken c s c.first c.last refl refl h in
        let L : List Fibre = so_far n cs p o s.past in
        let z : Fibre = record { first = c.first; last = c.last; layer = layer_on o } in
        let y = new_list h in
        subst (λ (i : Open). Swept n from cs x o (suc (key cs j)) i F' A') t
        (swept_by u F' A' (omega arith)
        (omega (arith, g.counted, ap length y, length-append L (z ∷ [])))
        (omega (arith, g.summed, new_total h))
        (subst (λ (i : List Fibre). F' ≡ fibre_list from i x.fibres) (sym y)
        (filled_more from s.made.fibres L z x.fibres F F' g.counted g.listed
        (f ∙ sym (new_written c s from layer F (put_record F s.made.fibres (fibre_record (from + s.made.fibres + 1) (record { first = c.first; last = c.last; layer = layer }))) h (unfold fibre_record in refl))
        ∙ ap (λ (i : ℕ). put_record F s.made.fibres (fibre_record (from + s.made.fibres + 1) (record { first = c.first; last = c.last; layer = i }))) e)))
        l
        (a ∙ ap (λ (i : Open). set_cell A (4 * j + 2) (from + i.made.fibres)) (sym t))))

  -- ON TO THE NEXT FIBRE: all its circuits are swept
  module _ (o : ℕ) (s : Open) (F A : List ℕ) (g : Swept n from cs x o past_all s F A) where
    -- all runs are there
    whole_list : so_far n cs p (suc o) 0 ≡ so_far n cs p o s.past
    unfolding so_far stretches_to stretches runs
    whole_list =
        let l = gr.line in
        let k : suc o - 1 ≡ o = omega arith in
        let b : s.past - 1 ≤ n = ⊎_elim (λ z. omega arith) (λ z. let z₁ = z.1 in omega arith) (past_real o past_all s F A g) in
        let u = reached o past_all (suc n) s F A (omega arith) (λ d i v. (let e = ends d i in let e₁ = e.1 in let e₂ = e.2 in omega arith)) g in
        append-nil (stretches_to n cs p o ++ runs (get_or p.fibres (suc o - 1) no_fibre).layer (lit cs p (suc o)) 1 n)
        ∙ ap (λ (y : ℕ). stretches_to n cs p o ++ runs (get_or p.fibres y no_fibre).layer (lit cs p (suc o)) 1 n) k
        ∙ ap (λ (y : List Fibre). stretches_to n cs p o ++ y)
        (up_darks (layer_on o) (lit cs p (suc o)) (s.past - 1) n b (λ y v w. reached_dark n cs p gr.lies (suc o) (suc n) (s.past - 1) u y v (omega arith)))

    -- the next fibre
    pub swept_over : Swept n from cs x (suc o) 0 (record { made = s.made; past = 0 }) F A
    swept_over =
        record {
          all_end = λ d r k. absurd (omega arith);
          one_ends = inl refl;
          counted = g.counted ∙ ap length (sym whole_list);
          summed = g.summed ∙ ap total (sym whole_list);
          listed = g.listed ∙ ap (λ (l : List Fibre). fibre_list from l x.fibres) (sym whole_list);
          sized = g.sized;
          kept = g.kept;
          rest = g.rest;
          some = g.some;
          given = λ j b k. (let m = key_low j b in g.given j b (omega arith));
        }
