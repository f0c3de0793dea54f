-- `grow_files`: all files were read, and `line.rec` says a line. Assumes nothing.
use Prim.Native.Nat.{ℕ}
use mathlib.Core.Path.{◌≡◌, refl, ap, subst, sym, ◌∙◌}
use mathlib.Core.List.{List}
use Rattle.std.proofs.Common.{Bor}
use Rattle.std.specs.Prelude.{Option, Some, None}
use Rattle.std.specs.Option.{MatchOption, option_copied}
use Rattle.records.specs.LineFiles.{line_in}
use Rattle.records.specs.declared.Line.{Line}
use Rattle.adder.specs.Additions.{Files}
use Rattle.text.specs.Wrote.{Wrote}
use Rattle.prints.specs.Adding.{Filed}
use Rattle.prints.proofs.AddingReads.{line_grown, line_text}
use Rattle.prints.proofs.adding.grow_files.Goals as goal

-- where `line.rec` says a line it was read
said : (line : Option (Bor (List ℕ))) (o : Option Line) (l : Line) → MatchOption line (o ≡ None) (λ x. o ≡ line_in x.now) → o ≡ Some l
    → (s : List ℕ) × (option_copied line ≡ Some s) × (line_in s ≡ Some l)
said None o l m is = let z = sym m ∙ is in cc
said (Some x) o l m is = (x.now, refl, sym m ∙ is)

pub returns : goal.returns
returns c =
    let x = c.args in
    let t = c.grow_circuits in
    let r = c.in-Some-Some-Some-Some-Some in
    let z = said x.line c.and_then.result r.line c.and_then.ensures r.is-0 in
    let n = ap option_copied r.is-2 in
    let files = line_grown _ _ _ _ _ x.circuits.now x.fibres.now x.assigns.now c.requires.0 z.0 _ _ _ _ _ z.1 r.is-1 n r.is-3 r.is-4 z.2 in
    let text = line_text _ _ _ _ _ x.circuits.now x.fibres.now x.assigns.now c.requires.0 z.0 _ _ _ _ _ z.1 r.is-1 n r.is-3 r.is-4 z.2 in (
      subst (λ (y : Option Files). Filed y t.result.files x.circuits.now t.new.circuits x.fibres.now t.new.fibres x.assigns.now t.new.assigns) (sym files) t.ensures.0,
      subst (λ (y : List ℕ). Wrote y t.result.text x.out.now t.new.out) (sym text) t.ensures.1,
    )
