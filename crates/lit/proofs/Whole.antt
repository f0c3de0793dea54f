-- The whole: from the plan that is held to the plan without its dark fibres and links. Assumes nothing.
use Prim.Native.Nat.{ℕ, suc, ◌+◌, ◌*◌, ◌<◌}
use mathlib.Core.Path.{◌≡◌, refl, sym, ap, subst, ◌∙◌}
use mathlib.Core.Logic.{inl}
use mathlib.Core.List.{List, append-nil}
use native.Mathlib.Omega.{arith}
use lib.ListN.{length, get_or}
use Rattle.basics.specs.Tools.{each}
use Rattle.records.specs.Records.{circuits_in, record_at}
use Rattle.records.specs.declared.Circuit.{Circuit}
use Rattle.records.proofs.Files.{length_circuits_in}
use Rattle.method.specs.Fibres.{runs}
use Rattle.method.specs.Line.{Assignment, Fibre, Plan, assigned, circuit, total}
use Rattle.method.specs.Lit.{fibre_number, new_fibre, regiven, stretches_to, trimmed}
use Rattle.register.specs.Areas.{Areas}
use Rattle.register.specs.Lists.{assignment_list, assignment_record, fibre_list, fibre_records}
use Rattle.register.proofs.Reading.{assignment_read}
use Rattle.chains.specs.Riders.{Chained, Unchained, fibre_in, key}
use Rattle.chains.proofs.Walks.{chained_same}
use Rattle.lit.specs.Trims.{Held, Lean, Trimmable}
use Rattle.lit.specs.inner.Sweeps.{Ground, Origin, Swept, closed, past_all, so_far, spot}
use Rattle.lit.specs.declared.Trimmed.{Trimmed}
use Rattle.lit.proofs.ByteLaws.{assignments_are}
use Rattle.lit.proofs.SweepLaws.{key_low}

-- WHAT IS ASKED, and a plan p that is held
module _ {n w m from many : ℕ} {s : List ℕ} {lent : Areas} (t : Trimmable n w m from many s lent) (p : Plan) (h : Held n w m many (circuits_in m s) p lent.work lent.assigns) where
  -- the circuits
  abbrev cs : List Circuit
  cs = circuits_in m s

  -- how many
  sized : length cs ≡ m
  sized = length_circuits_in m s

  -- what stands at the start
  abbrev pub origin : Origin
  origin = record { plan = p; fibres = lent.fibres; assigns = lent.assigns }

  -- the fibre numbers in the list are the plan's
  held_fibre : (j : ℕ) → j < m → fibre_in lent.assigns j ≡ fibre_number p j
  unfolding fibre_in
  held_fibre j l = ap (λ (g : Assignment). g.fibre) (assignment_read (circuit cs j) (assigned p j) (record_at lent.assigns j) (h.records j l)).1

  -- the chains can be made
  pub held_unchained : (next heads : List ℕ) → length next ≡ 2048 → length heads ≡ 4096 → ((f : ℕ) → get_or heads f 0 ≡ 0) → Unchained n m s lent.assigns next heads
  held_unchained next heads a b z =
      record {
        line = t.line;
        few = t.few;
        file = t.file;
        listed = t.assign_room;
        room = omega (arith, t.few);
        lies = t.lies;
        numbered = λ j l.
            let e = held_fibre j l in
            let v = h.numbered j l in
            let v₀ = v.0 in
            let v₁ = v.1 in
            (omega arith, omega (arith, t.fibres_few));
        none = z;
      }

  -- what does not change
  pub held_ground : (next heads : List ℕ) → Chained cs (fibre_in lent.assigns) next heads → Ground n w from cs lent.work next heads origin
  held_ground next heads d =
      let k = sized in
      let h' : Held n w (length cs) many cs p lent.work lent.assigns = subst (λ (i : ℕ). Held n w i many cs p lent.work lent.assigns) (sym sized) h in
      record {
        line = t.line;
        waves = t.waves;
        few = omega (arith, t.few);
        lies = t.lies;
        chained = chained_same cs (fibre_in lent.assigns) (fibre_number p) next heads (λ j l. held_fibre j (omega arith)) d;
        area = omega (arith, t.area);
        rows = h'.rows;
        layers = h'.layers;
        fibre_room = omega (arith, t.fibre_room);
        assign_room = omega (arith, t.assign_room);
        number_room = omega (arith, t.number_room);
      }

  -- no circuit is swept
  pub held_start : Swept n from cs origin 0 0 (closed (record { fibres = 0; total = 0 })) lent.fibres lent.assigns
  unfolding so_far stretches_to runs fibre_list fibre_records total
  held_start =
      let k = sized in
      record {
        all_end = λ d r k. absurd (omega arith);
        one_ends = inl refl;
        counted = refl;
        summed = refl;
        listed = refl;
        sized = refl;
        kept = refl;
        rest = refl;
        some = λ j l. (0 + (assigned p j).fibre, h.records j (omega arith) ∙ first j);
        given = λ j l k. absurd (low j l k);
      }
    where
      -- a record by another name
      first : (j : ℕ) → assignment_record 0 (circuit cs j) (assigned p j) ≡ spot cs p j (0 + (assigned p j).fibre)
      first j = unfold spot assignment_record in refl

      -- no circuit is on a fibre before the first
      low : (j : ℕ) → j < length cs → past_all * fibre_number p j + key cs j < past_all * suc 0 + 0 → ⊥
      low j l k = let e = sized in let v = (h.numbered j (omega arith)).0 in omega arith

  -- all are
  pub held_done : (F A next heads : List ℕ) (r : Trimmed) → Ground n w from cs lent.work next heads origin → Swept n from cs origin many 0 (closed r) F A → Lean n from cs p lent.fibres F lent.assigns A r
  held_done F A next heads r gr g =
      record {
        counted = (λ i. record { fibres = (g.counted ∙ ap length all) i; total = (g.summed ∙ ap total all) i });
        listed = g.listed ∙ ap (λ (l : List Fibre). fibre_list from l lent.fibres) all;
        assigned = assignments_are from cs (regiven n cs p) lent.assigns A (λ j l. g.given j l (low j l) ∙ first j) g.rest ∙ last;
      }
    where
      -- the list is whole
      all : so_far n cs p many 0 ≡ (trimmed n cs p).fibres
      all = unfold so_far runs trimmed in append-nil (stretches_to n cs p many) ∙ ap (stretches_to n cs p) (sym h.fibres)

      -- each circuit is swept
      low : (j : ℕ) → j < length cs → past_all * fibre_number p j + key cs j < past_all * suc many + 0
      low j l =
          let e = sized in
          let v = (h.numbered j (omega arith)).1 in
          let k = key_low n w from cs lent.work next heads origin gr j l in
          omega arith

      -- a record by another name
      first : (j : ℕ) → spot cs p j (from + new_fibre n cs p j) ≡ assignment_record from (circuit cs j) (regiven n cs p j)
      first j = unfold spot assignment_record regiven in refl

      -- the assignments by theirs
      last : assignment_list from cs (each (regiven n cs p) 0 (length cs)) lent.assigns ≡ assignment_list from cs (trimmed n cs p).assignments lent.assigns
      last = unfold trimmed in refl
