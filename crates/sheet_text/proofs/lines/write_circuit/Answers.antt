-- `write_circuit` meets its contract: the number that the grid gives is the frequency that the line names. Assumes nothing.
use Rattle.std.proofs.Common.{ℕ, [], ◌∷◌, ◌≤◌, ◌<◌, ◌≡◌, refl, ap, ◌∙◌, length, arith}
use lib.IntN.{pos, nat_abs}
use Rattle.sheet_text.specs.Text.{line, circuit_line}
use Rattle.sheet_text.proofs.Lengths.{circuit_room}
use Rattle.text.proofs.Writing.{by_name}
use Rattle.grid.specs.Frequencies.{frequency_of}
use Rattle.grid.proofs.FrequencyLaws.{frequency_size, frequency_small}
use Rattle.sheet_text.proofs.lines.write_circuit.Goals as goal

-- the line has room, since the frequency is no larger than on the finer grid
room : (grid c f v f' v' ghz : ℕ) → c < 4294967296 → f < 65536 → v < 65536 → f' ≡ f → v' ≡ v → pos ghz ≡ frequency_of grid v
    → length (line 67 (c ∷ f' ∷ v' ∷ ghz ∷ [])) ≤ 33
room grid c f v f' v' ghz p q r d e h =
    circuit_room 67 c f' v' ghz p (omega arith) (omega arith) (rw (e, ap nat_abs h ∙ frequency_size grid v) (frequency_small grid v))

pub write_line-requires : goal.write_line-requires
write_line-requires c =
    let a = c.args.a in
    let r =
    room c.args.grid a.circuit a.fibre a.wavelength _ _ _ (omega arith) (omega arith) (omega arith) c.from.ensures c.from-2.ensures c.frequency-ghz.ensures in
    omega arith

pub returns : goal.returns
unfolding circuit_line
returns c =
    let a = c.args.a in
    let r =
    room c.args.grid a.circuit a.fibre a.wavelength _ _ _ (omega arith) (omega arith) (omega arith) c.from.ensures c.from-2.ensures c.frequency-ghz.ensures in
    (by_name _ _ c.args.out.now _ _ (rw (c.from.ensures, c.from-2.ensures, ap nat_abs c.frequency-ghz.ensures) refl) c.write_line.ensures, omega (arith, c.write_line.ensures.0))
