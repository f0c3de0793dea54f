-- `assignment_fault` meets its contract: the first that breaks one of rules 4 to 7, or a clash before it. Assumes nothing.
use mathlib.Core.Path.{◌≡◌, ◌∙◌}
use native.Mathlib.Omega.{arith}
use Rattle.checker.proofs.RulesRead.{own_first, own_at, own_nowhere, clash_found, own_stays, none_found, placed}
use Rattle.checker.proofs.rules.assignment_fault.Goals as goal
use Rattle.checker.proofs.rules.assignment_fault.Goals.{in-Some, in-None}

pub overflow_sub-p : goal.overflow_sub-p
overflow_sub-p c =
    let a = c.args in
    (own_at a.line.wavelengths a.m a.k a.circuits.now a.fibres.now a.assigns.now _ _ c.first_own-own.ensures c.in-Some.is).0

pub first_clash-q-requires : goal.first_clash-q-requires
first_clash-q-requires c =
    let a = c.args in
    let first : c.match-own.p ≡ own_first a.line.wavelengths a.m a.k a.circuits.now a.fibres.now a.assigns.now = elim c.match-own.branch [
      | in-Some b ↦ b.p-is ∙ (own_at a.line.wavelengths a.m a.k a.circuits.now a.fibres.now a.assigns.now _ _ c.first_own-own.ensures b.in-Some.is).1
      | in-None b ↦ b.p-is ∙ own_nowhere a.line.wavelengths a.m a.k a.circuits.now a.fibres.now a.assigns.now _ c.first_own-own.ensures b.in-None.is
    ] in
    placed a.line.wavelengths a.m a.k a.circuits.now a.fibres.now a.assigns.now a.line.links _ first c.requires.accepted c.requires.sizes.1 c.requires.sizes.2

pub returns-then-q-p : goal.returns-then-q-p
returns-then-q-p c =
    let a = c.args in
    let first : c.match-own.p ≡ own_first a.line.wavelengths a.m a.k a.circuits.now a.fibres.now a.assigns.now = elim c.match-own.branch [
      | in-Some b ↦ b.p-is ∙ (own_at a.line.wavelengths a.m a.k a.circuits.now a.fibres.now a.assigns.now _ _ c.first_own-own.ensures b.in-Some.is).1
      | in-None b ↦ b.p-is ∙ own_nowhere a.line.wavelengths a.m a.k a.circuits.now a.fibres.now a.assigns.now _ c.first_own-own.ensures b.in-None.is
    ] in
    clash_found a.line.wavelengths a.m a.k a.circuits.now a.fibres.now a.assigns.now _ _ first c.first_clash-q.ensures c.if-q-p.true

pub returns : goal.returns
returns c =
    let a = c.args in
    elim c.match-own.branch [
      | in-Some b ↦ b.own-is ∙ own_stays a.line.wavelengths a.m a.k a.circuits.now a.fibres.now a.assigns.now _ b.in-Some.fault _ _ c.first_own-own.ensures b.in-Some.is b.p-is c.first_clash-q.ensures c.if-q-p.false
      | in-None b ↦
          b.own-is ∙ b.in-None.is
          ∙ none_found a.line.wavelengths a.m a.k a.circuits.now a.fibres.now a.assigns.now _ _ (b.p-is ∙ own_nowhere a.line.wavelengths a.m a.k a.circuits.now a.fibres.now a.assigns.now _ c.first_own-own.ensures b.in-None.is)
          c.first_clash-q.ensures c.if-q-p.false (omega (arith, b.p-is))
    ]
