-- Additions worked out: to the listing of 01, and slips, each with an instance that it gets wrong. `proofs/Bench.antt` shows that each holds. What a reader must believe.
-- Assumes nothing.
use Rattle.std.specs.Prelude.{ℕ, length, List, [], ◌++◌, ◌∷◌, ◌≡◌}
use Rattle.records.specs.declared.Circuit.{Circuit}
use Rattle.method.specs.Bench.{c, f, g}
use Rattle.method.specs.Line.{Assignment, Fibre}
use Rattle.additions.specs.Adding.{add, add_counts}

-- what a case says: n and w; the old circuits with their fibres and assignments; the new circuits; and then the new fibres, the new assignments, the total and the floor
pub data Case : Type 0 where
  adds : (n w : ℕ) → List Circuit → List Fibre → List Assignment → List Circuit → List Fibre → List Assignment → (total floor : ℕ) → Case

-- the addition gives just this
pub record Adds (n w : ℕ) (cs : List Circuit) (fs : List Fibre) (gs : List Assignment) (ds : List Circuit) (more : List Fibre) (news : List Assignment) (total floor : ℕ) : Type 0 where
  pub the_plan : add n w cs (record { fibres = fs; assignments = gs }) ds ≡ record { fibres = fs ++ more; assignments = gs ++ news }
  pub the_counts : add_counts n w cs (record { fibres = fs; assignments = gs }) ds ≡ record { fibres = length (fs ++ more); total = total; floor = floor }

-- a case holds
abbrev pub Holds : Case → Type 0
Holds (adds n w cs fs gs ds more news t l) = Adds n w cs fs gs ds more news t l

-- every case of a table holds
abbrev pub AllHold : List Case → Type 0
AllHold [] = Unit {0}
AllHold (k ∷ ks) = Holds k × AllHold ks

-- the table
unfoldable pub addition_cases : List Case
addition_cases =
    -- to the listing: 5 finds wavelength 1 of fibre 1 free on link 4; 50 then finds fibre 1 full and takes fibre 2; 60 and 70 are left
    adds 5 2 (c 10 1 3 ∷ c 20 2 5 ∷ c 30 1 2 ∷ c 40 4 5 ∷ []) (f 1 5 2 ∷ f 2 5 2 ∷ []) (g 1 2 ∷ g 2 1 ∷ g 1 1 ∷ g 1 2 ∷ []) (c 60 1 5 ∷ c 5 4 4 ∷ c 70 1 5 ∷ c 50 3 5 ∷ [])
    (f 1 5 1 ∷ []) (g 3 1 ∷ g 1 1 ∷ g 3 2 ∷ g 2 2 ∷ []) 14 14 ∷
    -- the new file in another order
    adds 5 2 (c 10 1 3 ∷ c 20 2 5 ∷ c 30 1 2 ∷ c 40 4 5 ∷ []) (f 1 5 2 ∷ f 2 5 2 ∷ []) (g 1 2 ∷ g 2 1 ∷ g 1 1 ∷ g 1 2 ∷ []) (c 50 3 5 ∷ c 70 1 5 ∷ c 60 1 5 ∷ c 5 4 4 ∷ [])
    (f 1 5 1 ∷ []) (g 2 2 ∷ g 3 2 ∷ g 3 1 ∷ g 1 1 ∷ []) 14 14 ∷
    -- the old file in reverse order, its assignments too
    adds 5 2 (c 40 4 5 ∷ c 30 1 2 ∷ c 20 2 5 ∷ c 10 1 3 ∷ []) (f 1 5 2 ∷ f 2 5 2 ∷ []) (g 1 2 ∷ g 1 1 ∷ g 2 1 ∷ g 1 2 ∷ []) (c 60 1 5 ∷ c 5 4 4 ∷ c 70 1 5 ∷ c 50 3 5 ∷ [])
    (f 1 5 1 ∷ []) (g 3 1 ∷ g 1 1 ∷ g 3 2 ∷ g 2 2 ∷ []) 14 14 ∷
    -- nothing new
    adds 5 2 (c 10 1 3 ∷ c 20 2 5 ∷ c 30 1 2 ∷ c 40 4 5 ∷ []) (f 1 5 2 ∷ f 2 5 2 ∷ []) (g 1 2 ∷ g 2 1 ∷ g 1 1 ∷ g 1 2 ∷ []) []
    [] [] 9 6 ∷
    -- to no plan: R-1's own
    adds 1 2 [] [] [] (c 1 1 1 ∷ c 2 1 1 ∷ c 3 1 1 ∷ [])
    (f 1 1 1 ∷ f 1 1 2 ∷ []) (g 1 1 ∷ g 1 2 ∷ g 2 1 ∷ []) 2 2 ∷
    -- by place in the file; by falling number; the new ones placed before not counted
    adds 1 2 (c 2 1 1 ∷ []) (f 1 1 1 ∷ []) (g 1 1 ∷ []) (c 3 1 1 ∷ c 1 1 1 ∷ [])
    (f 1 1 1 ∷ []) (g 2 1 ∷ g 1 2 ∷ []) 2 2 ∷
    -- all after the first that is left are left too
    adds 2 1 [] (f 1 1 1 ∷ []) [] (c 1 2 2 ∷ c 2 1 1 ∷ [])
    (f 2 2 1 ∷ []) (g 2 1 ∷ g 1 1 ∷ []) 2 2 ∷
    -- dark fibres not used
    adds 1 1 [] (f 1 1 1 ∷ f 1 1 1 ∷ []) [] (c 1 1 1 ∷ [])
    [] (g 1 1 ∷ []) 2 1 ∷
    -- a fibre over the first link alone
    adds 2 2 (c 1 1 1 ∷ []) (f 1 1 1 ∷ []) (g 1 1 ∷ []) (c 2 1 2 ∷ [])
    (f 1 2 1 ∷ []) (g 2 1 ∷ []) 3 2 ∷
    -- layers counted on from the old ones; new fibres numbered from 1
    adds 1 1 (c 2 1 1 ∷ []) (f 1 1 1 ∷ []) (g 1 1 ∷ []) (c 1 1 1 ∷ [])
    (f 1 1 1 ∷ []) (g 2 1 ∷ []) 2 2 ∷
    -- each that is left on a fibre of its own
    adds 1 2 [] [] [] (c 2 1 1 ∷ c 1 1 1 ∷ [])
    (f 1 1 1 ∷ []) (g 1 2 ∷ g 1 1 ∷ []) 1 1 ∷
    -- those left planned one by one, each in layer 1
    adds 1 1 [] [] [] (c 2 1 1 ∷ c 1 1 1 ∷ [])
    (f 1 1 1 ∷ f 1 1 2 ∷ []) (g 2 1 ∷ g 1 1 ∷ []) 2 2 ∷
    -- those left planned one by one, 1 and 2 on fibres of their own
    adds 3 1 [] [] [] (c 1 1 1 ∷ c 2 2 3 ∷ c 3 2 2 ∷ [])
    (f 2 2 1 ∷ f 1 3 2 ∷ []) (g 2 1 ∷ g 2 1 ∷ g 1 1 ∷ []) 4 4 ∷
    -- the w and n of the addition, not those of the old plan: the floor is with w = 1, and the line has 2 links
    adds 2 1 (c 1 1 1 ∷ []) (f 1 1 1 ∷ []) (g 1 1 ∷ []) (c 2 1 1 ∷ c 3 2 2 ∷ [])
    (f 1 2 1 ∷ []) (g 2 1 ∷ g 2 1 ∷ []) 3 3 ∷
    []
