-- `place_one` meets its contract: the place found is written, and the circuit rides there if it has one. Assumes nothing.
use Rattle.std.specs.Prelude.{ℕ, Option}
use mathlib.Core.List.{List, ◌++◌}
use mathlib.Core.Path.{◌≡◌, ap, ◌∙◌, sym}
use native.Mathlib.Omega.{arith}
use Rattle.records.specs.Records.{circuits_in}
use Rattle.records.specs.declared.Circuit.{Circuit}
use Rattle.method.specs.Line.{Assignment, Fibre, circuit}
use Rattle.method.proofs.Circuits.{circuit_in_lem}
use Rattle.places.specs.Places.{Rider, place, riders}
use Rattle.placing.specs.Found.{Spotted, told}
use Rattle.placing.specs.declared.Spot.{Spot}
use Rattle.placing.specs.inner.Spots.{spans_in}
use Rattle.placing.proofs.OneTurn.{Told, one_seated, spot_in_list}
use Rattle.placing.proofs.SpotLaws.{length_spans_in, spot_some, spot_told}
use Rattle.placing.proofs.turns.place_one.Goals as goal

-- what is told of the place is what `place` names
told_is : (fs : List Fibre) (lo hi : ℕ) (rs : List Rider) (c : Circuit) (s : Option Spot) → Spotted fs lo hi rs c s → Told fs lo hi rs c (told s).fibre (told s).wavelength
told_is fs lo hi rs c s e = let z = spot_told fs lo hi rs c s e in (ap (λ (g : Assignment). g.fibre) z, ap (λ (g : Assignment). g.wavelength) z)

pub spot_for-s-requires : goal.spot_for-s-requires
spot_for-s-requires c =
    let a = c.args in
    let b = c.requires.room in
    let y = c.requires.riding in
    let x = c.record_at-c in
    let first : x.result.first ≡ (circuit (circuits_in a.sizes.circuits a.new.now) a.i).first = ap (λ (z : Circuit). z.first) (x.ensures ∙ sym (circuit_in_lem a.sizes.circuits a.new.now a.i b.1)) in record {
      numbers = (a.sizes.few.1, omega (arith, first, b.4));
      riding = (y.0 ++ riders (circuits_in a.sizes.circuits a.new.now) y.1, y.4.riding);
    }

pub seat-requires : goal.seat-requires
unfolding told
seat-requires c =
    let a = c.args in
    let b = c.requires.room in
    let y = c.requires.riding in
    let s = c.spot_for-s in
    let rs = y.0 ++ riders (circuits_in a.sizes.circuits a.new.now) y.1 in
    let found = s.ensures rs y.4.riding y.4.corners in
    let fs = spans_in a.sizes.fibres a.spans.now.firsts a.spans.now.lasts in
    let n = length_spans_in a.sizes.fibres a.spans.now.firsts a.spans.now.lasts in
    let t = told_is fs 1 a.sizes.wavelengths rs c.record_at-c.result s.result found.0 in
    let last = spot_in_list fs 1 a.sizes.wavelengths rs c.record_at-c.result _ _ t in
    (omega (arith, a.sizes.few.0, b.1), omega (arith, b.1, b.2), omega (arith, b.1, b.3), λ x e. let f : (told s.result).fibre ≡ x.fibre = ap (λ (o : Option Spot). (told o).fibre) e in (spot_some (place fs 1 a.sizes.wavelengths rs c.record_at-c.result) x (sym e ∙ found.0), omega (arith, f, last, n, a.sizes.few.1)))

pub returns : goal.returns
returns c =
    let a = c.args in
    let b = c.requires.room in
    let x = c.record_at-c in
    let s = c.spot_for-s in
    let fs = spans_in a.sizes.fibres a.spans.now.firsts a.spans.now.lasts in
    let n = length_spans_in a.sizes.fibres a.spans.now.firsts a.spans.now.lasts in λ old gs z e h.
    let rs = old ++ riders (circuits_in a.sizes.circuits a.new.now) gs in
    let found = s.ensures rs h.riding h.corners in
    one_seated a.sizes.fibres a.sizes.wavelengths a.sizes.before a.sizes.circuits a.i a.new.now fs old gs a.ends.now a.assigns.now _ a.chains.now.heads a.chains.now.next
    a.corners.now.untils a.corners.now.froms _ _ x.result (told s.result).fibre (told s.result).wavelength b.1 x.ensures z e b.2 c.seat.ensures.said h
    (told_is fs 1 a.sizes.wavelengths rs x.result s.result found.0, found.1) _ _ _ n a.sizes.few.2 (omega (arith, a.sizes.few.1)) (omega (arith, a.sizes.few.0)) c.seat.ensures
