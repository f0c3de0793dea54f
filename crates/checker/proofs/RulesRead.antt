-- The rules of the assignments that were read, and the first fault among them from two searches: rules 4 to 7, then rule 8. Assumes nothing.
use Prim.Native.Nat.{ℕ, suc, ◌+◌, ◌-◌, ◌*◌, ◌<◌, ◌≤◌}
use mathlib.Core.Path.{◌≡◌, refl, ap, ◌∙◌, sym, subst}
use mathlib.Core.Logic.{◌≢◌}
use mathlib.Core.Bool.{true, ◌&&◌}
use mathlib.Core.List.{List, [], ◌∷◌, ◌++◌}
use native.Mathlib.Omega.{arith}
use lib.Dec.{leb}
use lib.ListN.{length}
use borrow.Author.Tests.{leb-true, not-false}
use Rattle.basics.specs.Tools.{seek}
use Rattle.basics.proofs.Bools.{and_l, and_r}
use Rattle.basics.proofs.Searches.{any_eq, seek_hit, seek_le, seek_miss}
use Rattle.records.specs.Records.{record_at, assignment_of, circuits_in}
use Rattle.records.specs.declared.Circuit.{Circuit}
use Rattle.records.proofs.Files.{circuits_in_at, length_circuits_in}
use Rattle.method.specs.Line.{nobody}
use Rattle.method.proofs.Circuits.{circuit_in_lem}
use Rattle.chains.specs.Riders.{fibre_in}
use Rattle.rows.specs.Accepted.{Accepted}
use Rattle.clashes.specs.Clashes.{clash, clashes_in, wave_in, Placed}
use Rattle.checker.specs.Rules.{Rule, rule8, lowest_broken, faulty, first_fault, rules_of_assignment, no_assignment_record, fibre_at, assignment_rules}
use Rattle.checker.specs.Sound.{NoneBroken}
use Rattle.checker.specs.Checked.{fibres_in, assignments_in, fault_of}
use Rattle.checker.specs.inner.Runs.{own_rules_in}
use Rattle.std.specs.Prelude.{Option as Told, Some, None}
use Rattle.checker.specs.declared.rules.Fault.{Fault}
use Rattle.checker.proofs.Faults.{Numbered, SoundTo, rising_numbered, lowest_here, lowest_none, lowest_past, lowest_then, lowest_else, is_sound, is_faulty_lem, broken_at, nothing_all, sound_is, faulty_is, fault_none, fault_some}
use Rattle.checker.proofs.Judging.{silent, loud}
use Rattle.checker.proofs.Seeking.{stops_at, runs_out}
use Rattle.checker.proofs.Reading.{length_fibres_in, assignments_in_at}

module _ (w m k : ℕ) (s fibres assigns : List ℕ) where
  -- the rules of assignment j
  abbrev all : ℕ → List Rule
  all = assignment_rules w (circuits_in m s) (fibres_in k fibres) (assignments_in m assigns)

  -- those that it breaks by itself
  abbrev own : ℕ → List Rule
  own = own_rules_in w k s fibres assigns

  -- which rise, so they have numbers from 1 on
  own_numbered : (j : ℕ) → Numbered (own j)
  own_numbered j = rising_numbered (own j) (omega arith, (omega arith, (omega arith, (omega arith, tt))))

  -- the rules of what was read are those of the records
  rules_read : (j : ℕ) → j < m → own j ++ (rule8 (clashes_in s assigns j) ∷ []) ≡ all j
  unfolding clashes_in
  rules_read j there =
      let count = sym (length_fibres_in k fibres) in
      let of = sym (circuit_in_lem m s j there) in
      let given = sym (assignments_in_at m assigns j no_assignment_record there) in
      let hits = any_eq _ _ j
      (λ i h.
      let l : i < m = omega arith in
      (λ x. clash (sym (circuit_in_lem m s i l) x) (sym (assignments_in_at m assigns i no_assignment_record l) x) (of x) (given x))) in
      λ x. rules_of_assignment w (count x) (of x) (given x) (fibre_at (fibres_in k fibres) ((given x).fibre - 1)) (hits x)

  -- one of rules 4 to 7 is broken, so it tells
  own_tells : (j : ℕ) → j < m → lowest_broken (own j) ≢ 0 → lowest_broken (own j) ≡ lowest_broken (all j)
  own_tells j there h = sym (lowest_then (own j) (rule8 (clashes_in s assigns j)) h) ∙ ap lowest_broken (rules_read j there)

  -- none of them is broken, so rule 8 tells
  last_tells : (j : ℕ) → j < m → lowest_broken (own j) ≡ 0 → lowest_broken (rule8 (clashes_in s assigns j) ∷ []) ≡ lowest_broken (all j)
  last_tells j there z =
      sym (lowest_else (own j) (rule8 (clashes_in s assigns j)) (own_numbered j) z) ∙ ap lowest_broken (rules_read j there)

  -- the search for the first that breaks one of rules 4 to 7
  abbrev pub own_first : ℕ
  own_first = seek (λ j. faulty (own j)) 0 m

  -- where the first that breaks one of rules 4 to 7 is told, its place is that of the search for it
  pub own_at : (t : Told Fault) (f : Fault) → t ≡ fault_of (first_fault own m) → t ≡ Some f → (1 ≤ f.place) × (f.place - 1 ≡ own_first)
  own_at t f e h =
      let r = fault_some own m (record { rule = f.rule; place = f.place }) (loud (first_fault own m) t f e h) in
      let there : f.place ≡ suc r.0 = r.1 in
      let before : f.place - 1 ≡ r.0 = omega arith in
      (omega arith, before ∙ stops_at (λ j. faulty (own j)) m r.0 r.2 (faulty_is (own r.0) r.4) (λ i l. sound_is (own i) (r.5 i l)))

  -- where none is told the search runs out
  pub own_nowhere : (t : Told Fault) → t ≡ fault_of (first_fault own m) → t ≡ None → m ≡ own_first
  own_nowhere t e h =
      let r = fault_none own m (silent (first_fault own m) t e h) in
      runs_out (λ j. faulty (own j)) m m (omega arith) (λ i l. sound_is (own i) (r i l))

  -- p is the first that breaks one of rules 4 to 7, and q the first before it that clashes
  module _ (p q : ℕ) (first-own : p ≡ own_first) (first-clash : q ≡ seek (clashes_in s assigns) 0 p) where
    -- p is one of m, or m
    pub own_there : p ≤ m
    own_there = omega (arith, first-own, seek_le (λ j. faulty (own j)) 0 m)

    -- before p none of rules 4 to 7 is broken
    own_sound : (j : ℕ) → j < p → lowest_broken (own j) ≡ 0
    own_sound j l = is_sound (own j) (seek_miss (λ j. faulty (own j)) 0 m j (omega arith) (omega (arith, first-own)))

    -- at p one is
    pub own_broken : p < m → lowest_broken (own p) ≢ 0
    own_broken l =
        is_faulty_lem (own p) (subst (λ (x : ℕ). faulty (own x) ≡ true) (sym first-own) (seek_hit (λ j. faulty (own j)) 0 m (omega (arith, first-own))))

    -- before p and q no rule is broken
    sound_to : (x : ℕ) → x ≤ p → x ≤ q → SoundTo all x
    unfolding lowest_broken
    sound_to x a b i l =
        sym (last_tells i (omega (arith, own_there)) (own_sound i (omega arith)))
        ∙ lowest_past (rule8 (clashes_in s assigns i)) [] (seek_miss (clashes_in s assigns) 0 p i (omega arith) (omega (arith, first-clash)))

    -- q is before p: it is the first faulty one, by rule 8
    pub clash_found : q < p → Some (record { rule = 8; place = q + 1 }) ≡ fault_of (first_fault all m)
    clash_found l =
        let t : clashes_in s assigns q ≡ true = subst (λ (x : ℕ). clashes_in s assigns x ≡ true) (sym first-clash) (seek_hit (clashes_in s assigns) 0 p (omega (arith, first-clash))) in
        broken_at all m q 8 (omega (arith, own_there))
        (sym (lowest_here (rule8 (clashes_in s assigns q)) [] t) ∙ last_tells q (omega (arith, own_there)) (own_sound q l))
        (λ z. omega arith)
        (sound_to q (omega arith) (omega arith))

    -- none before p clashes: p is the first faulty one, by its lowest rule
    pub own_found : (x : ℕ) → p ≤ q → p < m → x ≡ lowest_broken (own p) → Some (record { rule = x; place = p + 1 }) ≡ fault_of (first_fault all m)
    own_found x a l e =
        broken_at all m p x l (e ∙ own_tells p l (own_broken l)) (λ z. own_broken l (sym e ∙ z)) (sound_to p (omega arith) a)

    -- and where p is m there is none
    pub none_found : p ≤ q → m ≤ p → None ≡ fault_of (first_fault all m)
    none_found a l = nothing_all all m p l (sound_to p (omega arith) a)

  -- the one that is told stays the first faulty one, where no clash is before it
  pub own_stays : (t : Told Fault) (f : Fault) (p q : ℕ) → t ≡ fault_of (first_fault own m) → t ≡ Some f → p ≡ f.place - 1 → q ≡ seek (clashes_in s assigns) 0 p → p ≤ q
      → Some f ≡ fault_of (first_fault all m)
  own_stays t f p q e h z y a =
      let r = fault_some own m (record { rule = f.rule; place = f.place }) (loud (first_fault own m) t f e h) in
      let there : f.place ≡ suc r.0 = r.1 in
      let here : r.0 ≡ p = omega arith in
      let told : f.place ≡ p + 1 = omega arith in
      let below : p < m = omega (arith, r.2) in
      ap (λ (x : ℕ). Some (let d : Fault = record { rule = f.rule; place = x } in d)) told
      ∙ own_found p q (z ∙ (own_at t f e h).1) y f.rule a below (sym r.3 ∙ ap (λ (x : ℕ). lowest_broken (own x)) here)

  -- what the search for a clash asks
  pub placed : (n p : ℕ) → p ≡ own_first → Accepted n w m s → k ≤ 4096 → 8 * m ≤ length assigns → Placed n k p s assigns
  unfolding fibre_in wave_in
  placed n p e taken few room =
      let there : p ≤ m = own_there p _ e refl in
      let kept : (j : ℕ) → j < p → NoneBroken (own j) = λ j l. lowest_none (own j) (own_numbered j) (own_sound p _ e refl j l) in
      record {
        line = taken.file.line;
        fibres = few;
        few = omega (arith, taken.file.few);
        file = omega (arith, taken.file.whole);
        listed = omega arith;
        lies = λ j l.
            let b : j < p = omega (arith, length_circuits_in p s) in
            let z = circuits_in_at m s j nobody (omega arith) ∙ sym (circuits_in_at p s j nobody b) in
            subst (λ (c : Circuit). (1 ≤ c.first) × (c.first ≤ c.last) × (c.last ≤ n)) z (taken.file.lies j (omega (arith, length_circuits_in m s)));
        numbered = λ j l.
            let a = assignment_of (record_at assigns j) in
            let h = not-false (leb 1 a.fibre && leb a.fibre k) (kept j l 1) in
            (leb-true 1 a.fibre (and_l _ _ h), leb-true a.fibre k (and_r (leb 1 a.fibre) _ h));
        waves = λ j l.
            let a = assignment_of (record_at assigns j) in
            let h = leb-true a.wavelength w (and_r (leb 1 a.wavelength) _ (not-false (leb 1 a.wavelength && leb a.wavelength w) (kept j l 3))) in
            omega (arith, taken.waves.1);
      }
