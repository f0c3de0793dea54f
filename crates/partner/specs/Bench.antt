-- Questions of the partner worked out, and what happens where w or s changes. `proofs/Bench.antt` shows that each holds. What a reader must believe.
-- Assumes nothing.
use Rattle.std.specs.Prelude.{◌-◌, ℕ, length, List, [], ◌∷◌, ◌≡◌}
use Rattle.records.specs.declared.Circuit.{Circuit}
use Rattle.method.specs.Bench.{c, f, g}
use Rattle.method.specs.Line.{Assignment, Fibre, Plan, assigned, unassigned}
use Rattle.method.specs.Lit.{lit_plan}
use Rattle.places.specs.Places.{fibre_at}
use Rattle.additions.specs.Adding.{add}
use Rattle.partner.specs.Asking.{ask, ask_counts}
use Rattle.partner.specs.Sharing.{on_fibres}

-- what a case says: w and s; the partner's circuits, our fibres, the partner's assignments; the circuit asked for; and then
pub data Case : Type 0 where
  -- the place found, and on a line of n links the total and the floor
  grants : (n w s : ℕ) → List Circuit → List Fibre → List Assignment → Circuit → Assignment → (total floor : ℕ) → Case
  -- refusal 19
  refuses : (w s : ℕ) → List Circuit → List Fibre → List Assignment → Circuit → Case

-- the question is granted with just this
pub record Grants (n w s : ℕ) (ds : List Circuit) (fs : List Fibre) (gs : List Assignment) (d : Circuit) (found : Assignment) (total floor : ℕ) : Type 0 where
  pub the_place : ask w s ds (record { fibres = fs; assignments = gs }) d ≡ found
  pub the_counts : ask_counts n w s ds (record { fibres = fs; assignments = gs }) d ≡ record { fibres = length fs; total = total; floor = floor }

-- a case holds
abbrev pub Holds : Case → Type 0
Holds (grants n w s ds fs gs d found t l) = Grants n w s ds fs gs d found t l
Holds (refuses w s ds fs gs d) = ask w s ds (record { fibres = fs; assignments = gs }) d ≡ unassigned

-- every case of a table holds
abbrev pub AllHold : List Case → Type 0
AllHold [] = Unit {0}
AllHold (k ∷ ks) = Holds k × AllHold ks

-- the table
unfoldable pub partner_cases : List Case
partner_cases =
    -- on the fibres of the listing, the top one of three: 1 [1,3] gets fibre 1, wavelength 3
    grants 5 3 1 [] (f 1 5 2 ∷ f 2 5 2 ∷ []) [] (c 1 1 3) (g 1 3) 9 3 ∷
    -- 2 [3,5] meets it on link 3 and gets fibre 2
    grants 5 3 1 (c 1 1 3 ∷ []) (f 1 5 2 ∷ f 2 5 2 ∷ []) (g 1 3 ∷ []) (c 2 3 5) (g 2 3) 9 6 ∷
    -- 3 [4,5] does not
    grants 5 3 1 (c 1 1 3 ∷ c 2 3 5 ∷ []) (f 1 5 2 ∷ f 2 5 2 ∷ []) (g 1 3 ∷ g 2 3 ∷ []) (c 3 4 5) (g 1 3) 9 8 ∷
    -- the partner's file in another order, with its assignments
    grants 5 3 1 (c 2 3 5 ∷ c 1 1 3 ∷ []) (f 1 5 2 ∷ f 2 5 2 ∷ []) (g 2 3 ∷ g 1 3 ∷ []) (c 3 4 5) (g 1 3) 9 8 ∷
    -- 4 [1,3]: fibre 1 is taken there, and fibre 2 does not span it
    refuses 3 1 (c 1 1 3 ∷ c 2 3 5 ∷ []) (f 1 5 2 ∷ f 2 5 2 ∷ []) (g 1 3 ∷ g 2 3 ∷ []) (c 4 1 3) ∷
    -- two of three: the lowest of the partner's is 2, and not one of ours
    grants 1 3 2 [] (f 1 1 1 ∷ []) [] (c 1 1 1) (g 1 2) 1 1 ∷
    -- then 3, which is w; the floor takes 2 for w
    grants 1 3 2 (c 1 1 1 ∷ []) (f 1 1 1 ∷ []) (g 1 2 ∷ []) (c 2 1 1) (g 1 3) 1 1 ∷
    -- and then none, though 1 is free
    refuses 3 2 (c 1 1 1 ∷ c 2 1 1 ∷ []) (f 1 1 1 ∷ []) (g 1 2 ∷ g 1 3 ∷ []) (c 3 1 1) ∷
    -- the lowest fibre comes before the lowest wavelength
    grants 1 3 2 (c 1 1 1 ∷ []) (f 1 1 1 ∷ f 1 1 1 ∷ []) (g 1 2 ∷ []) (c 2 1 1) (g 1 3) 2 1 ∷
    -- the floor with s and not with w, the circuit asked for counted: three circuits on one wavelength each
    grants 1 3 1 (c 1 1 1 ∷ c 2 1 1 ∷ []) (f 1 1 1 ∷ f 1 1 1 ∷ f 1 1 1 ∷ []) (g 1 3 ∷ g 2 3 ∷ []) (c 3 1 1) (g 3 3) 3 3 ∷
    -- no wavelength rented
    refuses 2 0 [] (f 1 1 1 ∷ []) [] (c 1 1 1) ∷
    -- no fibre
    refuses 2 1 [] [] [] (c 1 1 1) ∷
    []

-- WHAT HAPPENS WHERE w OR s CHANGES, OR FIBRES ARE NUMBERED ANEW. n 1: our 1 [1,1] is planned with w 2 and s 1
abbrev pub our_plan : Plan
our_plan = lit_plan 1 (2 - 1) (c 1 1 1 ∷ [])

-- what our 2 [1,1] gets, added with this w and s
abbrev pub next_of_ours : ℕ → ℕ → Assignment
next_of_ours w s = assigned (add 1 (w - s) (c 1 1 1 ∷ []) our_plan (c 2 1 1 ∷ [])) 1

-- n 1: our 1 [1,1] and 2 [1,1] are planned with w 2 and s 0
abbrev pub plan_with_all : Plan
plan_with_all = lit_plan 1 (2 - 0) (c 1 1 1 ∷ c 2 1 1 ∷ [])

-- n 2: our circuits are planned with w 2 and s 1
abbrev pub plan_on_two_links : List Circuit → Plan
plan_on_two_links cs = lit_plan 2 (2 - 1) cs

-- what the first circuit of the partner gets, with w 2 and s 1, on the fibres of a plan of ours
abbrev pub first_of_theirs : Plan → Circuit → Assignment
first_of_theirs p d = ask 2 1 [] (on_fibres p []) d

-- what each then gets
pub record Hazard : Type 0 where
  -- with w 2 and s 1 throughout: the partner's 1 [1,1] gets wavelength 2 of fibre 1, and our next a fibre of its own
  pub theirs : first_of_theirs our_plan (c 1 1 1) ≡ g 1 2
  pub as_before : next_of_ours 2 1 ≡ g 2 1
  -- with w 3 our next gets the partner's place
  pub other_w : next_of_ours 3 1 ≡ g 1 2
  -- with s 0 too
  pub other_s : next_of_ours 2 0 ≡ g 1 2
  -- where s is 1 only after we planned with all w, the partner gets the place of our 2
  pub ours_before : assigned plan_with_all 1 ≡ g 1 2
  pub theirs_after : first_of_theirs plan_with_all (c 1 1 1) ≡ g 1 2
  -- where we plan 1 [1,2] anew with 2 [2,2], the fibre of the partner's 1 [1,2] no longer spans it
  pub their_fibre : first_of_theirs (plan_on_two_links (c 1 1 2 ∷ [])) (c 1 1 2) ≡ g 1 2
  pub its_span : fibre_at (plan_on_two_links (c 1 1 2 ∷ [])).fibres 1 ≡ f 1 2 1
  pub span_anew : fibre_at (plan_on_two_links (c 1 1 2 ∷ c 2 2 2 ∷ [])).fibres 1 ≡ f 2 2 1
