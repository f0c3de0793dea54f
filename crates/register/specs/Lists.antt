-- The bytes of the fibre list and of the assignment list of a plan, and its three numbers. What a reader must believe.
-- Assumes nothing.
use Rattle.std.specs.Prelude.{ℕ, ◌+◌, ◌*◌, List, [], ◌∷◌, ◌++◌, length, take, drop}
use Rattle.records.specs.Records.{fibre_bytes, assignment_bytes}
use Rattle.records.specs.declared.Circuit.{Circuit}
use Rattle.method.specs.Line.{Fibre, Assignment, Plan, total}
use Rattle.register.specs.declared.Counts.{Counts}

-- the record of fibre f under a number
unfoldable pub fibre_record : ℕ → Fibre → List ℕ
fibre_record number f = fibre_bytes (record { number = number; first = f.first; last = f.last; layer = f.layer })

-- the records of a list of fibres, numbered from + 1, from + 2, ..
unfoldable pub fibre_records : ℕ → List Fibre → List ℕ
fibre_records from [] = []
fibre_records from (f ∷ fs) = fibre_record (from + 1) f ++ fibre_records (from + 1) fs

-- the record of what circuit c is given: fibre 1 of the plan has number from + 1 in the list
unfoldable pub assignment_record : ℕ → Circuit → Assignment → List ℕ
assignment_record from c g = assignment_bytes (record { circuit = c.number; fibre = from + g.fibre; wavelength = g.wavelength })

-- the records of what the circuits are given, in the order of the file
unfoldable pub assignment_records : ℕ → List Circuit → List Assignment → List ℕ
assignment_records from [] gs = []
assignment_records from (c ∷ cs) [] = []
assignment_records from (c ∷ cs) (g ∷ gs) = assignment_record from c g ++ assignment_records from cs gs

-- the three numbers of a plan, with the floor: how many fibres, their length, the floor
unfoldable pub counts_of : Plan → ℕ → Counts
counts_of p floor = record { fibres = length p.fibres; total = total p.fibres; floor = floor }

-- the fibre list: records at the start, numbered after `from`, and the rest as it was
unfoldable pub fibre_list : ℕ → List Fibre → List ℕ → List ℕ
fibre_list from fs old = fibre_records from fs ++ drop (8 * length fs) old

-- the assignment list: records at the start, in the order of the file, and the rest as it was
unfoldable pub assignment_list : ℕ → List Circuit → List Assignment → List ℕ → List ℕ
assignment_list from cs gs old = assignment_records from cs gs ++ drop (8 * length cs) old

-- a list of which the first b bytes stay, and the rest is what `made` makes of it
unfoldable pub behind : ℕ → (List ℕ → List ℕ) → List ℕ → List ℕ
behind b made s = take b s ++ made (drop b s)
