-- Every answer of the check, for what a caller sees. Assumes nothing.
use Prim.Native.Nat.{ℕ, ◌/◌}
use mathlib.Core.Path.{◌≡◌, refl, ap, ◌∙◌, sym, subst}
use mathlib.Core.List.{List}
use mathlib.Core.Option.{Option, none, some}
use native.Mathlib.Omega.{arith}
use lib.ListN.{length}
use Rattle.records.specs.Records.{circuits_of}
use Rattle.records.specs.declared.Circuit.{Circuit}
use Rattle.records.specs.declared.FibreRecord.{FibreRecord}
use Rattle.records.specs.declared.AssignmentRecord.{AssignmentRecord}
use Rattle.records.specs.declared.Line.{Line}
use Rattle.method.specs.Line.{Plan, Valid, total}
use Rattle.method.specs.Fibres.{floor}
use Rattle.std.specs.Prelude.{Result, Ok, Err}
use Rattle.refusals.specs.declared.Refusal.{Refusal}
use Rattle.refusals.specs.Given.{Given, NoneApplies}
use Rattle.refusals.proofs.First.{verdict_refused, verdict_given, verdict_passed, verdict_passes}
use Rattle.checker.specs.Rules.{Breach, first_broken}
use Rattle.checker.specs.Sound.{FirstBreach}
use Rattle.checker.specs.Checked.{yes, no, refused, says, fibres_of, assignments_of, judged, finding_by, length_in, found, answer_by, checked}
use Rattle.checker.specs.Seen.{tests, held, SaidYes, SaidNo, Seen}
use Rattle.checker.specs.declared.Finding.{Finding}
use Rattle.checker.specs.declared.Finding.TheVariants.{Yes}
use Rattle.checker.proofs.First.{broken_first, first_broken_lem}
use Rattle.checker.proofs.Yes.{yes_sound, sound_yes}
use Rattle.checker.proofs.Tabled.{check_tells}
use Rattle.checker.proofs.Reading.{held_is}

-- an answer says one thing
yes_not_no : {A : Type 0} {a b : ℕ} {d : Breach} → yes a b ≡ no d → A
yes_not_no e = absurd (let z : ◌≡◌ {A = ℕ} 0 1 = cc in omega arith)

yes_not_refused : {A : Type 0} {a b : ℕ} {r : Refusal} → yes a b ≡ refused r → A
yes_not_refused e = absurd (let z : ◌≡◌ {A = ℕ} 0 1 = cc in omega arith)

no_not_refused : {A : Type 0} {b : Breach} {r : Refusal} → no b ≡ refused r → A
no_not_refused e = absurd (let z : ◌≡◌ {A = ℕ} 0 1 = cc in omega arith)

-- what is found is a yes where no rule is broken, or else a no
found_cases : {A : Type 0} (line : Line) (cs : List Circuit) (fs : List FibreRecord) (gs : List AssignmentRecord)
    → (first_broken line cs fs gs ≡ none → says (Ok (found line cs fs gs)) ≡ yes (length_in fs) (floor line.links line.wavelengths cs) → A)
    → ((b : Breach) → first_broken line cs fs gs ≡ some b → says (Ok (found line cs fs gs)) ≡ no b → A) → A
unfolding found
found_cases {A} line cs fs gs say deny = go (first_broken line cs fs gs) refl
  where
    go : (o : Option Breach) → first_broken line cs fs gs ≡ o → A
    go none e = say e (ap (λ (o : Option Breach). says (Ok (finding_by o (length_in fs) (floor line.links line.wavelengths cs)))) e)
    go (some b) e = deny b e (ap (λ (o : Option Breach). says (Ok (finding_by o (length_in fs) (floor line.links line.wavelengths cs)))) e)

module _ (line : Line) (s fibres assigns : List ℕ) where
  -- the answer
  abbrev answer : Result Finding Refusal
  answer = checked line s fibres assigns

  -- what is found of the bytes
  abbrev finding : Finding
  finding = found line (circuits_of s) (fibres_of fibres) (assignments_of assigns)

  -- the first broken rule of the bytes
  abbrev breach : Option Breach
  breach = first_broken line (circuits_of s) (fibres_of fibres) (assignments_of assigns)

  -- the floor of the circuits
  abbrev its_floor : ℕ
  its_floor = floor line.links line.wavelengths (circuits_of s)

  -- the answer is the table's refusal, or what is found
  answer_cases : {A : Type 0} → ((r : Refusal) → Given (tests line s fibres assigns) r → says answer ≡ refused r → A)
      → (NoneApplies (tests line s fibres assigns) → answer ≡ Ok finding → A) → A
  unfolding checked judged
  answer_cases {A} refuse tell = go (judged line s fibres assigns) refl
    where
      go : (t : Result ℕ Refusal) → judged line s fibres assigns ≡ t → A
      go (Ok m) e = tell (verdict_passed (tests line s fibres assigns) (length s / 8) m e).1 (ap (λ (t : Result ℕ Refusal). answer_by t finding) e)
      go (Err r) e =
          refuse r (verdict_refused (tests line s fibres assigns) (length s / 8) r e) (ap (λ (t : Result ℕ Refusal). says (answer_by t finding)) e)

  -- a refusal as tabled is given
  tabled : (r : Refusal) → Given (tests line s fibres assigns) r → says answer ≡ refused r
  unfolding checked judged
  tabled r g = ap (λ (t : Result ℕ Refusal). says (answer_by t finding)) (verdict_given (tests line s fibres assigns) (length s / 8) r g)

  -- where no test refuses the answer is what is found
  pub tests_pass : NoneApplies (tests line s fibres assigns) → answer ≡ Ok finding
  unfolding checked judged
  tests_pass h = ap (λ (t : Result ℕ Refusal). answer_by t finding) (verdict_passes (tests line s fibres assigns) (length s / 8) h)

  -- the length of the records is that of the plan that the bytes hold
  plan_held_lem : length_in (fibres_of fibres) ≡ total (held line s fibres assigns).fibres
  plan_held_lem = ap (λ (p : Plan). total p.fibres) (held_is (length fibres / 8) (length assigns / 8) fibres assigns)

  -- no test refuses and no rule is broken: yes, with length and floor
  pub answers_yes : NoneApplies (tests line s fibres assigns) → breach ≡ none → answer ≡ Ok (Yes (total (held line s fibres assigns).fibres) its_floor)
  unfolding found
  answers_yes h e =
      tests_pass h ∙ ap (λ (o : Option Breach). Ok (finding_by o (length_in (fibres_of fibres)) its_floor)) e
      ∙ ap (λ (x : ℕ). Ok (Yes x its_floor)) plan_held_lem

  -- and no, with the first breach
  answers_no : (b : Breach) → NoneApplies (tests line s fibres assigns) → breach ≡ some b → says answer ≡ no b
  unfolding found
  answers_no b h e = ap says (tests_pass h) ∙ ap (λ (o : Option Breach). says (Ok (finding_by o (length_in (fibres_of fibres)) its_floor))) e

  -- what a yes says
  said_yes : (long told-floor : ℕ) → says answer ≡ yes long told-floor → SaidYes line s fibres assigns long told-floor
  said_yes long told-floor e =
      answer_cases
      (λ r g q. yes_not_refused (sym e ∙ q))
      (λ h q.
      found_cases line (circuits_of s) (fibres_of fibres) (assignments_of assigns)
      (λ none-broken y.
      let z : yes long told-floor ≡ yes (length_in (fibres_of fibres)) its_floor = sym e ∙ ap says q ∙ y in
      let sound = yes_sound line (circuits_of s) (fibres_of fibres) (assignments_of assigns) none-broken in
      record {
        not_refused = h;
        all_kept = sound;
        valid = subst (Valid line.wavelengths (circuits_of s)) (held_is (length fibres / 8) (length assigns / 8) fibres assigns) sound.valid;
        the_length = (let a : long ≡ length_in (fibres_of fibres) = cc in a) ∙ plan_held_lem;
        the_floor = cc;
      })
      (λ b broken y. yes_not_no (sym e ∙ ap says q ∙ y)))

  -- what a no says
  said_no : (b : Breach) → says answer ≡ no b → SaidNo line s fibres assigns b
  said_no b e =
      answer_cases
      (λ r g q. no_not_refused (sym e ∙ q))
      (λ h q.
      found_cases line (circuits_of s) (fibres_of fibres) (assignments_of assigns)
      (λ none-broken y. yes_not_no (sym y ∙ sym (ap says q) ∙ e))
      (λ d broken y.
      let z : no d ≡ no b = sym y ∙ sym (ap says q) ∙ e in
      let t : d ≡ b = cc in
      record {
        not_refused = h;
        first = subst (FirstBreach line (circuits_of s) (fibres_of fibres) (assignments_of assigns)) t (broken_first line (circuits_of s) (fibres_of fibres) (assignments_of assigns) d broken);
      }))

  -- a refusal is as tabled
  said_refused : (r : Refusal) → says answer ≡ refused r → Given (tests line s fibres assigns) r
  said_refused r e =
      answer_cases
      (λ d g q.
      let z : refused d ≡ refused r = sym q ∙ e in
      let t : d ≡ r = cc in
      subst (Given (tests line s fibres assigns)) t g)
      (λ h q.
      found_cases line (circuits_of s) (fibres_of fibres) (assignments_of assigns)
      (λ none-broken y. yes_not_refused (sym y ∙ sym (ap says q) ∙ e))
      (λ b broken y. no_not_refused (sym y ∙ sym (ap says q) ∙ e)))

  -- every answer that meets the contract of `check_plan`
  pub seen : (given : Result Finding Refusal) → given ≡ checked line s fibres assigns → Seen line s fibres assigns given
  seen given a =
      record {
        as_tabled = λ r e. said_refused r (sym (ap says a) ∙ e);
        whenever_tabled = λ r g. ap says a ∙ tabled r g;
        end_told = λ r e. (let g = said_refused r (sym (ap says a) ∙ e) in (check_tells line s (length fibres) (length assigns)).at g.index r g.below g.here);
        yes_says = λ long told-floor e. said_yes long told-floor (sym (ap says a) ∙ e);
        yes_whenever = λ h k. ap says (a ∙ answers_yes h (sound_yes line (circuits_of s) (fibres_of fibres) (assignments_of assigns) k));
        no_says = λ b e. said_no b (sym (ap says a) ∙ e);
        no_whenever = λ b h f. ap says a ∙ answers_no b h (first_broken_lem line (circuits_of s) (fibres_of fibres) (assignments_of assigns) b f);
      }
