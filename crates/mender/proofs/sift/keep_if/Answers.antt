-- `keep_if` meets its contract: a record that breaks no rule stays exactly if its wavelength is free. Assumes nothing.
use mathlib.Core.Path.{◌≡◌, refl, ap, ◌∙◌, sym}
use native.Mathlib.Omega.{arith}
use Rattle.records.specs.Records.{circuits_in, assignment_of, record_at}
use Rattle.records.specs.declared.AssignmentRecord.{AssignmentRecord}
use Rattle.std.specs.Prelude.{is_some}
use Rattle.checker.proofs.Faults.{told_faulty}
use Rattle.places.specs.Places.{riders, free}
use Rattle.placing.specs.Riding.{kept_in}
use Rattle.mender.proofs.Sifting.{broken_leaves, free_stays, sound_given, kept_given}
use Rattle.mender.proofs.sift.keep_if.Goals as goal

pub returns-then-is_some : goal.returns-then-is_some
returns-then-is_some c =
    let if1 = c.if-is_some in
    let rule-at = c.rule_at in
    let a = c.args in
    let A = a.damaged.assigns.now in
    let p = c.requires in
    let no = broken_leaves a.damaged.wavelengths a.damaged.m a.damaged.many a.damaged.circuits.now a.damaged.fibres.now A (kept_in a.damaged.m A a.kept.now) a.j p.room.0 (sym (told_faulty _) ∙ ap is_some (sym rule-at.ensures) ∙ sym c.is_some.ensures ∙ if1.true) in
    (rw no refl, p.staying)

pub is_free-requires : goal.is_free-requires
is_free-requires c =
    let rule-at = c.rule_at in
    let if1 = c.if-is_some in
    let index = c.from-q in
    let assignment_at_lem = c.record_at-a in
    let index2 = c.from-v in
    let a = c.args in
    let A = a.damaged.assigns.now in
    let s = a.damaged.circuits.now in
    let p = c.requires in
    let few = p.register.1.accepted.waves.1 in
    let g = sound_given a.damaged.wavelengths a.damaged.m a.damaged.many s a.damaged.fibres.now A a.j few (sym (told_faulty _) ∙ ap is_some (sym rule-at.ensures) ∙ sym c.is_some.ensures ∙ if1.false) in
    let q : index.result ≡ (assignment_of (record_at A a.j)).fibre = index.ensures ∙ ap (λ (r : AssignmentRecord). r.fibre) assignment_at_lem.ensures in
    let v : index2.result ≡ (assignment_of (record_at A a.j)).wavelength = index2.ensures ∙ ap (λ (r : AssignmentRecord). r.wavelength) assignment_at_lem.ensures in record {
      numbers = (omega arith, omega arith, omega arith, omega arith);
      riding = (a.damaged.many, riders (circuits_in a.damaged.m s) (kept_in a.damaged.m A a.kept.now), omega arith, p.staying.riding);
    }

pub returns-else-is_free : goal.returns-else-is_free
returns-else-is_free c =
    let rule-at = c.rule_at in
    let if1 = c.if-is_some in
    let index = c.from-q in
    let assignment_at_lem = c.record_at-a in
    let index2 = c.from-v in
    let is_free = c.is_free in
    let circuit-at = c.record_at-c in
    let if2 = c.if-is_free in
    let a = c.args in
    let A = a.damaged.assigns.now in
    let F = a.damaged.fibres.now in
    let s = a.damaged.circuits.now in
    let p = c.requires in
    let few = p.register.1.accepted.waves.1 in
    let unbroken = sym (told_faulty _) ∙ ap is_some (sym rule-at.ensures) ∙ sym c.is_some.ensures ∙ if1.false in
    let g = sound_given a.damaged.wavelengths a.damaged.m a.damaged.many s F A a.j few unbroken in
    let q : index.result ≡ (assignment_of (record_at A a.j)).fibre = index.ensures ∙ ap (λ (r : AssignmentRecord). r.fibre) assignment_at_lem.ensures in
    let v : index2.result ≡ (assignment_of (record_at A a.j)).wavelength = index2.ensures ∙ ap (λ (r : AssignmentRecord). r.wavelength) assignment_at_lem.ensures in
    let gs = kept_in a.damaged.m A a.kept.now in
    let rs = riders (circuits_in a.damaged.m s) gs in
    let f = is_free.ensures a.damaged.many rs (omega arith) p.staying.riding in
    let no = free_stays a.damaged.wavelengths a.damaged.m a.damaged.many s F A gs a.j p.room.0 is_free.result unbroken (f ∙ (λ i. free rs (circuit-at.ensures i) (q i) (v i))) ∙ if2.false in
    (rw no refl, p.staying)

pub keep-requires : goal.keep-requires
keep-requires c =
    let rule-at = c.rule_at in
    let if1 = c.if-is_some in
    let a = c.args in
    let p = c.requires in
    let few = p.register.1.accepted.waves.1 in
    let reg = p.register.1 in
    let unbroken = sym (told_faulty _) ∙ ap is_some (sym rule-at.ensures) ∙ sym c.is_some.ensures ∙ if1.false in
    let g = sound_given a.damaged.wavelengths a.damaged.m a.damaged.many a.damaged.circuits.now a.damaged.fibres.now a.damaged.assigns.now a.j few unbroken in
    let short = reg.accepted.file.few in record {
      room = (reg.accepted.file.whole, short, p.room.0, reg.few_fibres, omega arith, omega arith, p.room.1);
      riding = (g.0, p.room.2, p.staying.riding);
    }

pub returns-then-is_free : goal.returns-then-is_free
returns-then-is_free c =
    let rule-at = c.rule_at in
    let if1 = c.if-is_some in
    let index = c.from-q in
    let assignment_at_lem = c.record_at-a in
    let index2 = c.from-v in
    let is_free = c.is_free in
    let circuit-at = c.record_at-c in
    let if2 = c.if-is_free in
    let keep = c.keep in
    let a = c.args in
    let flags = a.kept.now in
    let A = a.damaged.assigns.now in
    let F = a.damaged.fibres.now in
    let s = a.damaged.circuits.now in
    let p = c.requires in
    let few = p.register.1.accepted.waves.1 in
    let unbroken = sym (told_faulty _) ∙ ap is_some (sym rule-at.ensures) ∙ sym c.is_some.ensures ∙ if1.false in
    let g = sound_given a.damaged.wavelengths a.damaged.m a.damaged.many s F A a.j few unbroken in
    let q : index.result ≡ (assignment_of (record_at A a.j)).fibre = index.ensures ∙ ap (λ (r : AssignmentRecord). r.fibre) assignment_at_lem.ensures in
    let v : index2.result ≡ (assignment_of (record_at A a.j)).wavelength = index2.ensures ∙ ap (λ (r : AssignmentRecord). r.wavelength) assignment_at_lem.ensures in
    let gs = kept_in a.damaged.m A flags in
    let rs = riders (circuits_in a.damaged.m s) gs in
    let f = is_free.ensures a.damaged.many rs (omega arith) p.staying.riding in
    let yes = free_stays a.damaged.wavelengths a.damaged.m a.damaged.many s F A gs a.j p.room.0 is_free.result unbroken (f ∙ (λ i. free rs (circuit-at.ensures i) (q i) (v i))) ∙ if2.true in
    let set-flag = keep.ensures.0 in
    (rw yes set-flag, record { given = kept_given a.damaged.many a.damaged.m a.j A flags _ set-flag g.0 p.staying.given; riding = keep.ensures.1 })
