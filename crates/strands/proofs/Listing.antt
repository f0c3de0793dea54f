-- The listing of the paper under R-1, byte for byte: n = 5, w = 2, circuits 10 [1,3], 20 [2,5], 30 [1,2], 40 [4,5]. Assumes nothing.
use Prim.Native.Nat.{ℕ}
use mathlib.Core.Path.{◌≡◌, refl}
use mathlib.Core.List.{List, [], ◌∷◌}
use Rattle.basics.specs.Tools.{count, any, every, seek, each, sum, top, better, lowest}
use Rattle.records.specs.Bytes.{cells_of, encode}
use Rattle.records.specs.Records.{circuits_in}
use Rattle.method.specs.Fibres.{join, runs, layer_of, wavelength_of, twice, in_layer, layer, layers, pairs, fibres, floor, together, on_first_by, on_first, find, pair_of, given, assignments, plan}
use Rattle.method.specs.Line.{assigned, circuit, uses, overlap, over, span_length, total}
use Rattle.method.specs.Lit.{lit, lit_plan, new_fibre, regiven, stretches, stretches_to, trimmed}
use Rattle.method.specs.Sheet.{load, need, most, at, run_from, run_past, in_run, fits, paint, chosen, act, step, steps, red_to, fresh, begun, row, sheet, rows}
use Rattle.register.specs.Lists.{fibre_record, fibre_records, assignment_record, assignment_records, counts_of, fibre_list, assignment_list}
use Rattle.rows.specs.Filled.{Filled}

-- the four circuits
file : List ℕ
file = 10 ∷ 0 ∷ 0 ∷ 0 ∷ 1 ∷ 0 ∷ 3 ∷ 0 ∷ 20 ∷ 0 ∷ 0 ∷ 0 ∷ 2 ∷ 0 ∷ 5 ∷ 0 ∷ 30 ∷ 0 ∷ 0 ∷ 0 ∷ 1 ∷ 0 ∷ 2 ∷ 0 ∷ 40 ∷ 0 ∷ 0 ∷ 0 ∷ 4 ∷ 0 ∷ 5 ∷ 0 ∷ []

-- the T line
counts_listed : counts_of (lit_plan 5 2 (circuits_in 4 file)) (floor 5 2 (circuits_in 4 file)) ≡ record { fibres = 2; total = 9; floor = 6 }
unfolding file counts_of circuits_in count any every seek each sum top better lowest uses overlap at circuit load need run_from run_past in_run fits paint chosen act step steps most red_to fresh begun row sheet rows join runs span_length over total find twice layer_of wavelength_of together on_first_by on_first in_layer layer layers pairs fibres floor pair_of given assignments plan assigned lit stretches stretches_to new_fibre regiven trimmed lit_plan
counts_listed = refl

-- the F lines
fibres_listed : fibre_list 0 (lit_plan 5 2 (circuits_in 4 file)).fibres (9 ∷ []) ≡ encode (1 ∷ 1 ∷ 5 ∷ 2 ∷ 2 ∷ 2 ∷ 5 ∷ 2 ∷ [])
unfolding file encode fibre_record fibre_records fibre_list circuits_in count any every seek each sum top better lowest uses overlap at circuit load need run_from run_past in_run fits paint chosen act step steps most red_to fresh begun row sheet rows join runs span_length over total find twice layer_of wavelength_of together on_first_by on_first in_layer layer layers pairs fibres floor pair_of given assignments plan assigned lit stretches stretches_to new_fibre regiven trimmed lit_plan
fibres_listed = refl

-- the C lines
assignments_listed : assignment_list 0 (circuits_in 4 file) (lit_plan 5 2 (circuits_in 4 file)).assignments [] ≡ encode (10 ∷ 0 ∷ 1 ∷ 2 ∷ 20 ∷ 0 ∷ 2 ∷ 1 ∷ 30 ∷ 0 ∷ 1 ∷ 1 ∷ 40 ∷ 0 ∷ 1 ∷ 2 ∷ [])
unfolding file encode assignment_record assignment_records assignment_list circuits_in count any every seek each sum top better lowest uses overlap at circuit load need run_from run_past in_run fits paint chosen act step steps most red_to fresh begun row sheet rows join runs span_length over total find twice layer_of wavelength_of together on_first_by on_first in_layer layer layers pairs fibres floor pair_of given assignments plan assigned lit stretches stretches_to new_fibre regiven trimmed lit_plan
assignments_listed = refl

-- a work area that phase one may leave: c(i), what nobody reads, rows, spare
area : List ℕ
area = encode (1 ∷ 2 ∷ 1 ∷ 1 ∷ 1 ∷ 2 ∷ 1 ∷ 2 ∷ 2 ∷ 2 ∷ 4 ∷ 3 ∷ 3 ∷ 4 ∷ 0 ∷ 0 ∷ 0 ∷ 0 ∷ [])

-- phase two may start on it
filled_listed : Filled 5 2 4 file area
unfolding file area encode cells_of circuits_in count any every seek each sum top better lowest uses overlap at circuit load need run_from run_past in_run fits paint chosen act step steps most red_to fresh begun row sheet rows
filled_listed = record { sized = refl; needs = refl; rows = refl }
