-- Laws of the index as it is filled, link by link. Assumes nothing.
use Prim.Native.Nat.{ℕ, ◌+◌, ◌-◌, ◌≤◌, ◌<◌}
use mathlib.Core.Path.{◌≡◌, refl, ap, ◌∙◌, sym, subst}
use mathlib.Core.Logic.{◌≢◌}
use mathlib.Core.Bool.{Bool, true, ◌&&◌}
use mathlib.Core.List.{List}
use native.Mathlib.Omega.{arith}
use lib.Dec.{leb}
use lib.ListN.{length, get_or, set, drop, length-set, length-drop}
use lib.Seq.{get_or-set_same, get_or-set_other, length-take-le, drop-set-lt}
use Rattle.basics.specs.Tools.{count, part}
use Rattle.basics.proofs.Bools.{by_eq, by_le}
use Rattle.basics.proofs.Counts.{count_rank, count_nth}
use Rattle.basics.proofs.Tables.{get_d_part, drop_same}
use Rattle.records.specs.declared.Circuit.{Circuit}
use Rattle.method.specs.Line.{circuit, uses, Lies}
use Rattle.method.specs.Sheet.{load}
use Rattle.riders.specs.Index.{Riders, Index, start_of, cells_for}
use Rattle.riders.specs.declared.columns.Columns.{Columns}
use Rattle.riders.specs.declared.stretches.Shortlist.{Shortlist}
use Rattle.riders.specs.inner.Picks.{row, rows, Rises, meets, listed, number_in, Near, near_to, Stretched}
use Rattle.riders.proofs.LoadLaws.{count_same}
use Rattle.riders.proofs.StartLaws.{cells_few, start_first, start_next, start_high, start_later, start_in, starts_in}
use Rattle.riders.proofs.PickLaws.{length_rows, rows_at, meets_more, near_none, near_reaches}

-- the numbers of the circuits that use link i stand from cell s on, no other, each once, rising
pub record RidersFrom (cs : List Circuit) (i s : ℕ) (cells : List ℕ) : Type 0 where
  pub rising : (p q : ℕ) → p < q → q < load cs i → get_or cells (s + p) 0 < get_or cells (s + q) 0
  pub all : (j : ℕ) → j < length cs → uses (circuit cs j) i ≡ true → (p : ℕ) × (p < load cs i) × (get_or cells (s + p) 0 ≡ (circuit cs j).number)
  pub only : (p : ℕ) → p < load cs i → (j : ℕ) × (j < length cs) × (uses (circuit cs j) i ≡ true) × (get_or cells (s + p) 0 ≡ (circuit cs j).number)

-- and still do where these cells are as they were
riders_kept : (cs : List Circuit) (i s : ℕ) (cells cells' : List ℕ) → ((p : ℕ) → p < load cs i → get_or cells' (s + p) 0 ≡ get_or cells (s + p) 0) → RidersFrom cs i s cells → RidersFrom cs i s cells'
riders_kept cs i s cells cells' e r =
    record {
      rising = λ p q h l. omega (arith, r.rising p q h l, e p (omega arith), e q l);
      all = λ j h u. (let x = r.all j h u in (x.0, x.1, e x.0 x.1 ∙ x.2));
      only = λ p h. (let x = r.only p h in (x.0, x.1, x.2, e p h ∙ x.3));
    }

-- as a list
riders_part : (cs : List Circuit) (i s : ℕ) (cells : List ℕ) → s + load cs i ≤ length cells → RidersFrom cs i s cells → Riders cs i (part s (load cs i) cells)
riders_part cs i s cells room r =
    let l : length (part s (load cs i) cells) ≡ load cs i = length-take-le (load cs i) (drop s cells) (omega (arith, length-drop s cells)) in
    let g : (p : ℕ) → p < load cs i → get_or (part s (load cs i) cells) p 0 ≡ get_or cells (s + p) 0 = λ p b. get_d_part s (load cs i) cells p 0 b in
    record {
      rising = λ p q b c. omega (arith, r.rising p q b (omega arith), g p (omega arith), g q (omega arith));
      all = λ j b u. (let x = r.all j b u in let x₁ = x.1 in (x.0, omega arith, g x.0 (omega arith) ∙ x.2));
      only = λ p b. (let x = r.only p (omega arith) in (x.0, x.1, x.2, g p (omega arith) ∙ x.3));
    }

module _ (C : Columns) where
  -- a row uses a link as its circuit does
  uses_row : (i p : ℕ) → p < C.many → uses (circuit (rows C) p) i ≡ meets i i C p
  unfolding uses meets row
  uses_row i p h = ap (λ (c : Circuit). leb c.first i && leb i c.last) (rows_at C p h)

  -- the number of its circuit
  number_row : (p : ℕ) → p < C.many → (circuit (rows C) p).number ≡ get_or C.numbers p 0
  unfolding row
  number_row p h = ap (λ (c : Circuit). c.number) (rows_at C p h)

  -- the load of a link is counted over the rows
  pub load_rows : (i : ℕ) → load (rows C) i ≡ count (meets i i C) C.many
  unfolding load
  load_rows i = ap (count (λ j. uses (circuit (rows C) j) i)) (length_rows C) ∙ count_same (λ j. uses (circuit (rows C) j) i) (meets i i C) C.many (λ j h. uses_row i j h)

  module _ (a e : ℕ) (S : Shortlist) (s : Near C a e S) (i : ℕ) (from : a ≤ i) (to : i ≤ e) where
    -- the shortlist has as many as use the link
    pub near_load : count (listed i C S) S.many ≡ load (rows C) i
    near_load = s.loads i from to ∙ sym (load_rows i)

    -- the numbers of those of the shortlist that use the link are its riders
    pub near_rides : Rises C → (at : ℕ) (before : List ℕ) (end : ℕ) (cells : List ℕ) → Stretched (listed i C S) (number_in C S) S.many at before end cells
        → RidersFrom (rows C) i at cells
    unfolding listed number_in
    near_rides rises at before end cells t =
        let test = listed i C S in
        let same = near_load in
        record {
          rising = λ p q h l.
              let x = count_nth test S.many p (omega arith) in
              let y = count_nth test S.many q (omega arith) in
              let x₁ = x.1 in
              let y₁ = y.1 in
              let x₃ = x.3 in
              let y₃ = y.3 in
              let below : x.0 < y.0 =
              by_le y.0 x.0
              (λ g. by_eq y.0 x.0 (λ z. absurd (omega (arith, ap (count test) z))) (λ n. absurd (omega (arith, count_rank test y.0 x.0 (omega arith) y.2))))
              (λ g. g) in
              let u = ap (λ (v : ℕ). get_or cells (at + v) 0) x₃ in
              let w = ap (λ (v : ℕ). get_or cells (at + v) 0) y₃ in
              omega (arith, t.put x.0 x₁ x.2, t.put y.0 y₁ y.2, rises (get_or S.places x.0 0) (get_or S.places y.0 0) (s.rising x.0 y.0 below y₁) (s.only y.0 y₁));
          all = λ j h u.
              let b : j < C.many = omega (arith, length_rows C) in
              let g : meets i i C j ≡ true = sym (uses_row i j b) ∙ u in
              let x = s.all j b (meets_more a e i i C j from to g) in
              let x₁ = x.1 in
              let r : test x.0 ≡ true = ap (meets i i C) x.2 ∙ g in
              (count test x.0, omega (arith, count_rank test x.0 S.many x₁ r), t.put x.0 x₁ r ∙ ap (λ (v : ℕ). get_or C.numbers v 0) x.2 ∙ sym (number_row j b));
          only = λ p h.
              let x = count_nth test S.many p (omega arith) in
              let j = get_or S.places x.0 0 in
              let b : j < C.many = s.only x.0 x.1 in
              (j, omega (arith, length_rows C), uses_row i j b ∙ x.2, ap (λ (v : ℕ). get_or cells (at + v) 0) (sym x.3) ∙ t.put x.0 x.1 x.2 ∙ sym (number_row j b));
        }

-- the links before i are in the index, and cell `at` is the start of link i
pub record Filled (n : ℕ) (cs : List Circuit) (before : List ℕ) (i at : ℕ) (cells : List ℕ) : Type 0 where
  pub long : length cells ≡ length before
  pub next : at ≡ start_of n cs i
  pub starts : (x : ℕ) → 1 ≤ x → x ≤ i → get_or cells (x - 1) 0 ≡ start_of n cs x
  pub stretches : (x : ℕ) → 1 ≤ x → x < i → RidersFrom cs x (start_of n cs x) cells
  pub rest : (v : ℕ) → cells_for n cs ≤ v → get_or cells v 0 ≡ get_or before v 0

module _ (n : ℕ) (cs : List Circuit) (before : List ℕ) (room : cells_for n cs ≤ length before) where
  -- the first start is there
  pub filled_start : get_or before 0 0 ≡ n + 1 → Filled n cs before 1 (n + 1) before
  filled_start e =
      record {
        long = refl;
        next = sym (start_first n cs);
        starts = λ x h l. (let d : x ≡ 1 = omega arith in ap (λ (y : ℕ). get_or before (y - 1) 0) d ∙ e ∙ sym (start_first n cs) ∙ ap (start_of n cs) (sym d));
        stretches = λ x h l. absurd (omega arith);
        rest = λ y h. refl;
      }

  -- one link more
  pub filled_turn : (i at : ℕ) (cells : List ℕ) → 1 ≤ i → i ≤ n → Filled n cs before i at cells → (test : ℕ → Bool) (number : ℕ → ℕ) (k end : ℕ) (cells' : List ℕ)
      → Stretched test number k at cells end cells' → count test k ≡ load cs i → RidersFrom cs i at cells' → (v : ℕ) (cells'' : List ℕ) → v ≡ end → cells'' ≡ set cells' i v
      → Filled n cs before (i + 1) end cells''
  filled_turn i at cells h l f test number k end cells' s c r v cells'' e u =
      let next = f.next in
      let after = s.next in
      let high = start_high n cs i in
      let more = start_next n cs i h in
      let inside = start_in n cs i h l in
      let other : (x : ℕ) → x ≢ i → get_or cells'' x 0 ≡ get_or cells' x 0 = λ x d. ap (λ (z : List ℕ). get_or z x 0) u ∙ get_or-set_other cells' i x v 0 d in
      let long : length cells' ≡ length before = s.long ∙ f.long in
      record {
        long = ap length u ∙ length-set cells' i v ∙ long;
        next = omega arith;
        starts = λ x a b. by_eq x (i + 1)
            (λ z. let d : x - 1 ≡ i = omega arith in
            ap (λ (y : ℕ). get_or cells'' y 0) d ∙ ap (λ (y : List ℕ). get_or y i 0) u ∙ get_or-set_same cells' i v 0 (omega arith) ∙ (let w : v ≡ start_of n cs (i + 1) = omega arith in w) ∙ ap (start_of n cs) (sym z))
            (λ d. other (x - 1) (λ z. omega arith) ∙ s.below (x - 1) (omega arith) ∙ f.starts x a (omega arith));
        stretches = λ x a b. by_eq x i
            (λ z. subst (λ (y : ℕ). RidersFrom cs y (start_of n cs y) cells'') (sym z)
            (riders_kept cs i (start_of n cs i) cells' cells'' (λ p q. other (start_of n cs i + p) (λ d. omega arith)) (subst (λ (y : ℕ). RidersFrom cs i y cells') next r)))
            (λ d.
            let g = start_high n cs x in
            let w = start_later n cs x i a (omega arith) in
            riders_kept cs x (start_of n cs x) cells cells'' (λ p q. other (start_of n cs x + p) (λ z. omega arith) ∙ s.below (start_of n cs x + p) (omega arith)) (f.stretches x a (omega arith)));
        rest = λ x a. other x (λ z. omega arith) ∙ s.above x (omega arith) ∙ f.rest x a;
      }

  -- all links are in
  pub filled_done : (i at : ℕ) (cells : List ℕ) → i ≡ n + 1 → Filled n cs before i at cells → Index n cs before cells
  filled_done i at cells e f =
      let long = f.long in
      record {
        long = long;
        starts = λ x a b. f.starts x a (omega arith);
        stretches = λ x a b. riders_part cs x (start_of n cs x) cells (omega (arith, start_in n cs x a b)) (f.stretches x a (omega arith));
        rest = drop_same 0 (cells_for n cs) cells before long f.rest;
      }

-- the cell that the first start was stored to is one of the index
pub index_from : (n : ℕ) (cs : List Circuit) (before : List ℕ) (v : ℕ) (after : List ℕ) → Index n cs (set before 0 v) after → Index n cs before after
index_from n cs before v after x =
    record {
      long = x.long ∙ length-set before 0 v;
      starts = x.starts;
      stretches = x.stretches;
      rest = x.rest ∙ drop-set-lt (cells_for n cs) before 0 v (omega (arith, starts_in n cs));
    }

-- THE LOOP OVER THE LINKS, in an index with room
module _ (n : ℕ) (C : Columns) (index : List ℕ) (room : cells_for n (rows C) ≤ length index) where
  -- its first start is stored
  abbrev begun : List ℕ
  begun = set index 0 (n + 1)

  -- and it has as much room
  roomy : cells_for n (rows C) ≤ length begun
  roomy = omega (arith, length-set index 0 (n + 1))

  -- a circuit on the line begins at link 1 or after it
  pub first_pos : Lies n (rows C) → (p : ℕ) → p < C.many → 1 ≤ get_or C.firsts p 0
  unfolding circuit row
  first_pos lies p h =
      let e = ap (λ (c : Circuit). c.first) (rows_at C p h) in
      omega (arith, (lies p (omega (arith, length_rows C))).0)

  -- before link 1 no row is listed
  pub loop_near : (S : Shortlist) → S.many ≡ 0 → Lies n (rows C) → Near C 1 (near_to 1) S
  loop_near S z lies = near_none C S z (first_pos lies)

  -- and no link is in
  pub loop_start : Filled n (rows C) begun 1 (n + 1) begun
  loop_start = filled_start n (rows C) begun roomy (get_or-set_same index 0 (n + 1) 0 (omega (arith, starts_in n (rows C))))

  -- past the last link all are
  pub loop_done : (i at : ℕ) (cells : List ℕ) → i ≡ n + 1 → Filled n (rows C) begun i at cells → Index n (rows C) index cells
  loop_done i at cells e f = index_from n (rows C) index (n + 1) cells (filled_done n (rows C) begun roomy i at cells e f)

  module _ (i at : ℕ) (S : Shortlist) (cells : List ℕ) (pos : 1 ≤ i) (high : i ≤ n) (s : Near C i (near_to (i + 1)) S) (f : Filled n (rows C) begun i at cells) where
    -- the shortlist has as many as use the link
    same_load : count (listed i C S) S.many ≡ load (rows C) i
    same_load = near_load C i (near_to (i + 1)) S s i (omega arith) (near_reaches i pos)

    -- there is room for them
    pub link_room : at + count (listed i C S) S.many ≤ length cells
    link_room = omega (arith, same_load, f.next, f.long, roomy, start_in n (rows C) i pos high)

    module _ (end : ℕ) (cells' : List ℕ) (t : Stretched (listed i C S) (number_in C S) S.many at cells end cells') where
      -- they end within the index
      pub link_end : end ≤ cells_for n (rows C)
      link_end = omega (arith, same_load, f.next, t.next, start_in n (rows C) i pos high)

      -- at a place that a cell can hold
      pub link_fits : n ≤ 512 → end ≤ 1049089
      link_fits short = omega (arith, link_end, cells_few n (rows C) (omega (arith, length_rows C, C.few)) short)

      -- there is a cell for the next start
      pub link_cell : i < length cells'
      link_cell = omega (arith, t.long, f.long, roomy, starts_in n (rows C))

      -- and then the link is in the index
      pub link_turn : Rises C → (v : ℕ) (cells'' : List ℕ) → v ≡ end → cells'' ≡ set cells' i v → Filled n (rows C) begun (i + 1) end cells''
      link_turn rises v cells'' e u =
          filled_turn n (rows C) begun roomy i at cells pos high f (listed i C S) (number_in C S) S.many end cells' t same_load
          (near_rides C i (near_to (i + 1)) S s i (omega arith) (near_reaches i pos) rises at cells end cells' t) v cells'' e u
