-- `seat` meets its contract: the record is written, and the circuit rides if it has a place. Assumes nothing.
use Rattle.std.specs.Prelude.{List, Option, Some, None, unwrap_or}
use mathlib.Core.Path.{◌≡◌, refl, ap, ◌∙◌, sym}
use native.Mathlib.Omega.{arith}
use Prim.Native.Nat.{ℕ, ◌+◌, ◌-◌}
use lib.ListN.{get_or, set}
use Rattle.records.specs.Records.{assignment_bytes, put_record}
use Rattle.placing.specs.Found.{told}
use Rattle.placing.specs.declared.Spot.{Spot}
use Rattle.placing.proofs.turns.seat.Goals as goal

-- what is said of no place is 0 and 0
said_told : (s : Option Spot) (x : Spot) (f : ℕ → ℕ → List ℕ) → x ≡ unwrap_or s (record { fibre = 0; wavelength = 0 }) → f x.fibre x.wavelength ≡ f (told s).fibre (told s).wavelength
unfolding told
said_told None x f e = ap (λ (y : Spot). f y.fibre y.wavelength) e
said_told (Some z) x f e = ap (λ (y : Spot). f y.fibre y.wavelength) e

-- the record of circuit c at place j
record_bytes : List ℕ → ℕ → ℕ → ℕ → ℕ → List ℕ
record_bytes s j c q v = put_record s j (assignment_bytes (record { circuit = c; fibre = q; wavelength = v }))

pub returns-in_default : goal.returns-in_default
unfolding told record_bytes
returns-in_default c =
    let a = c.args in
    let none : (told a.s).fibre ≡ 0 = ap (λ (o : Option Spot). (told o).fibre) c.in_default.is in
    record {
      said = c.put_record.ensures ∙ said_told a.s c.unwrap_or-said.result (record_bytes a.assigns.now a.j a.c.number) c.unwrap_or-said.ensures;
      none = λ e. (refl, refl, refl);
      rides = λ one. absurd (omega (arith, one, none));
    }

pub returns-in-Some : goal.returns-in-Some
unfolding told record_bytes
returns-in-Some c =
    let a = c.args in
    let r = c.ride.ensures in
    let is : c.from.result ≡ (told a.s).fibre = c.from.ensures ∙ sym (ap (λ (o : Option Spot). (told o).fibre) c.in-Some.is) in
    let y = c.requires.3 c.in-Some.x c.in-Some.is in
    record {
      said = c.put_record.ensures ∙ said_told a.s c.unwrap_or-said.result (record_bytes a.assigns.now a.j a.c.number) c.unwrap_or-said.ensures;
      none = λ e. absurd (let y₀ = y.0 in omega (arith, y₀, e, is, c.from.ensures));
      rides = λ one. (
        r.0,
        r.1 ∙ ap (λ (q : ℕ). set a.chains.now.heads (q - 1) (a.j + 1)) is,
        r.2 ∙ ap (λ (q : ℕ). set a.chains.now.next a.j (get_or a.chains.now.heads (q - 1) 0)) is,
      );
    }
