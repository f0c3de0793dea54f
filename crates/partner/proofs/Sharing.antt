-- Ours and the partner's never meet, whatever the order of additions and questions, if w and s stay the same. Assumes nothing.
use Prim.Native.Nat.{◌-◌, ◌<◌, ◌≤◌, min, suc, ℕ}
use lib.ListN.{get_or-append, length-append}
use mathlib.Core.List.{List, [], ◌++◌}
use mathlib.Core.Path.{◌≡◌, refl, subst}
use native.Mathlib.Omega.{arith}
use Rattle.records.specs.declared.Circuit.{Circuit}
use Rattle.method.specs.Line.{Assignment, Fibre, Plan, Valid, assigned, fibre_under, no_fibre}
use Rattle.method.proofs.LitDemands.{lit_demand}
use Rattle.additions.specs.Adding.{add, left_plan, places_found}
use Rattle.additions.specs.Grown.{Grown, added, planned}
use Rattle.additions.proofs.Added.{add_fibres, add_valid}
use Rattle.additions.proofs.Grown.{grown_within}
use Rattle.partner.specs.Asking.{PartnerValid, asked}
use Rattle.partner.specs.Sharing.{Apart, Shared, on_fibres, they_ask, we_add, we_plan}
use Rattle.partner.proofs.Asked.{stays_right}
use Rattle.partner.proofs.Joined.{NoClash, joined}

-- more fibres at the end leave the partner's plan right
more_fibres : (w s : ℕ) (ds : List Circuit) (fs more : List Fibre) (gs : List Assignment)
    → PartnerValid w s ds (record { fibres = fs; assignments = gs }) → PartnerValid w s ds (record { fibres = fs ++ more; assignments = gs })
unfolding fibre_under assigned
more_fibres w s ds fs more gs y =
    let v = y.valid in
    record {
      valid =
          record {
            all_assigned = v.all_assigned;
            numbered = λ j l. let a = v.numbered j l in (a.0, omega (arith, length-append fs more));
            within = λ j l.
                let a = v.numbered j l in
                let q : ℕ = (assigned (record { fibres = fs; assignments = gs }) j).fibre in
                rw (get_or-append fs more no_fibre (q - 1) (omega arith)) (v.within j l);
            wavelength_in = v.wavelength_in;
            apart = v.apart;
          };
      top = y.top;
    }

-- nobody's plan is right
nobody_right : (w s : ℕ) (fs : List Fibre) → PartnerValid w s [] (record { fibres = fs; assignments = [] })
nobody_right w s fs =
    record {
      valid =
          record {
            all_assigned = refl;
            numbered = λ j l. absurd (omega arith);
            within = λ j l. absurd (omega arith);
            wavelength_in = λ j l. absurd (omega arith);
            apart = λ i j a b. absurd (omega arith);
          };
      top = λ j l. absurd (omega arith);
    }

-- a plan that is valid for w − s is valid for w
wider : (v w : ℕ) (cs : List Circuit) (p : Plan) → v ≤ w → Valid v cs p → Valid w cs p
wider v w cs p h y =
    record {
      all_assigned = y.all_assigned;
      numbered = y.numbered;
      within = y.within;
      wavelength_in = λ j l. let a = y.wavelength_in j l in (a.0, omega arith);
      apart = y.apart;
    }

module _ (w s : ℕ) (below : s < w) where
  -- our plan is valid for w − s
  ours : {k : ℕ} {cs : List Circuit} {p : Plan} {ds : List Circuit} {gs : List Assignment} → Shared w s k cs p ds gs → Valid (w - s) cs p
  ours (we_plan n cs l) = (lit_demand n (w - s) cs l (omega arith)).rules.valid
  ours (we_add {cs = cs} {p = p} h n es l) = add_valid n (w - s) cs p es (omega arith) (ours h) l
  ours (they_ask h c e) = ours h

  -- the partner's is right
  theirs : {k : ℕ} {cs : List Circuit} {p : Plan} {ds : List Circuit} {gs : List Assignment} → Shared w s k cs p ds gs → PartnerValid w s ds (on_fibres p gs)
  unfolding asked
  theirs (we_plan n cs l) = nobody_right w s _
  theirs (we_add {cs = cs} {p = p} {ds = ds} {gs = gs} h n es l) =
      rw (add_fibres n (w - s) cs p es (omega arith) (ours h) l) (more_fibres w s ds p.fibres (left_plan n (w - s) es (places_found (w - s) cs p es)).fibres gs (theirs h))
  theirs (they_ask {p = p} {ds = ds} {gs = gs} h c e) = stays_right w s ds (on_fibres p gs) c (theirs h) e

  -- our plan is what it is without the partner
  alone : {k : ℕ} {cs : List Circuit} {p : Plan} {ds : List Circuit} {gs : List Assignment} → Shared w s k cs p ds gs → Shared w s k cs p [] []
  alone (we_plan n cs l) = we_plan n cs l
  alone (we_add h n es l) = we_add (alone h) n es l
  alone (they_ask h c e) = alone h

  -- it is a plan of R-1 after k additions, with w − s
  grown : {k : ℕ} {cs : List Circuit} {p : Plan} {ds : List Circuit} {gs : List Assignment} → Shared w s k cs p ds gs → Grown k (w - s) cs p
  grown (we_plan n cs l) = planned n (w - s) cs (omega arith) l
  grown (we_add {k = k} {cs = cs} {p = p} h n es l) =
      let e : min (w - s) (w - s) ≡ w - s = omega arith in
      subst (λ (v : ℕ). Grown (suc k) v (cs ++ es) (add n (w - s) cs p es)) e (added (grown h) n (w - s) es (omega arith) l (ours h))
  grown (they_ask h c e) = grown h

  -- OURS AND THE PARTNER'S NEVER MEET
  pub never_meet : {k : ℕ} {cs : List Circuit} {p : Plan} {ds : List Circuit} {gs : List Assignment} → Shared w s k cs p ds gs → Apart w s k cs p ds gs
  never_meet {cs = cs} {p = p} {ds = ds} {gs = gs} h =
      let a = ours h in
      let b = theirs h in
      let apart : NoClash w p.fibres cs p.assignments ds gs = λ i j li lj o e v. let x = a.wavelength_in i li in let y = b.top j lj in omega arith in
      record {
        ours = a;
        theirs = b;
        apart = apart;
        together = joined w p.fibres cs p.assignments ds gs (wider (w - s) w cs p (omega arith) a) b.valid apart;
        alone = alone h;
        within = grown_within (grown h);
      }
