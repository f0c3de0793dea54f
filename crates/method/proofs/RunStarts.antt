-- Where runs begin: the link before does not pass, and the run over a link is told by how many begin up to it. Assumes nothing.
use Prim.Native.Nat.{◌+◌, ◌-◌, ◌<◌, ◌≤◌, suc, zero, ℕ}
use lib.ListN.{get_or, length}
use mathlib.Core.Bool.{Bool, ◌&&◌, cond, false, not, true}
use mathlib.Core.List.{List, [], ◌∷◌}
use mathlib.Core.Path.{◌∙◌, ◌≡◌, ap, refl, sym}
use native.Mathlib.Omega.{arith}
use Rattle.basics.specs.Tools.{count}
use Rattle.basics.proofs.Bools.{by_eq, by_le, clash, on}
use Rattle.method.specs.Fibres.{find, join, runs}
use Rattle.method.specs.Line.{Fibre, no_fibre, over, tally}
use Rattle.method.proofs.FibreLists.{All, all_get_d, all_imp, at_most_one, find_hit}
use Rattle.method.proofs.Runs.{Maximal, Starts, join_apart, join_on, over_first, over_last, over_of, over_right, runs_in, runs_join, runs_maximal, runs_skip, runs_start}

-- LEFT ENDS
-- a fibre that begins where the link before does not pass, or at link 1
abbrev pub Begins : (ℕ → Bool) → Fibre → Type 0
Begins p f = 1 < f.first → p (f.first - 1) ≡ false

-- at most one run is over a link
pub one_run : (h : ℕ) (p : ℕ → Bool) (i k x : ℕ) → i ≤ x → x < i + k → tally (λ f. over f x) (runs h p i k) ≤ 1
one_run h p i k x a b =
    let t = runs_in h p i k x a b in
    on (p x) (λ e. let t' = rw e at t in omega arith) (λ e. let t' = rw e at t in omega arith)

-- each maximal run begins so: else the run over the link before would go on
pub runs_begin : (h : ℕ) (p : ℕ → Bool) (n q : ℕ) → q < length (runs h p 1 n) → Begins p (get_or (runs h p 1 n) q no_fibre)
runs_begin h p n q l b =
    on (p (f.first - 1))
    (λ e.
    let x = f.first - 1 in
    let m₁ = m.some in
    let m₂ = m.to in
    let t = runs_in h p 1 n x (omega arith) (omega arith) in
    let g = find_hit (λ f. over f x) (runs h p 1 n) (let t' = rw e at t in omega arith) in
    let r = find (λ f. over f x) (runs h p 1 n) in
    let k : Fibre = get_or (runs h p 1 n) r no_fibre in
    let mk : Maximal h p 1 n k = all_get_d (Maximal h p 1 n) (runs h p 1 n) (runs_maximal h p 1 n) r g.0 in
    let o = over_first k x g.1 in
    let o' = over_last k x g.1 in
    by_le f.first k.last
    (λ c.
    let same : q ≡ r =
    at_most_one (λ g. over g f.first) (runs h p 1 n) (one_run h p 1 n f.first m.from (omega arith)) q r l g.0
    (over_of f f.first (omega arith) m₁) (over_of k f.first (omega arith) c) in
    let z : f.first ≡ k.first = ap (λ q. (get_or (runs h p 1 n) q no_fibre).first) same in
    absurd (omega arith))
    (λ c.
    let z : suc k.last ≡ f.first = omega arith in
    let v : p (suc k.last) ≡ false = mk.stop (omega arith) in
    clash (p f.first) (m.pass f.first (omega arith) m₁) (ap p (sym z) ∙ v)))
    (λ e. e)
  where
    -- the run
    f : Fibre
    f = get_or (runs h p 1 n) q no_fibre

    -- it is maximal
    m : Maximal h p 1 n (get_or (runs h p 1 n) q no_fibre)
    m = all_get_d (Maximal h p 1 n) (runs h p 1 n) (runs_maximal h p 1 n) q l

-- HOW MANY BEGIN
-- how many runs begin at links 1 to x: a link passes and the one before does not
unfoldable pub begins_to : (ℕ → Bool) → ℕ → ℕ
begins_to p x = count (λ y. p (suc y) && not (p y)) x

-- none begins after link a, up to link b
pub begins_none : (p : ℕ → Bool) (a b : ℕ) → a ≤ b → ((y : ℕ) → a ≤ y → y < b → p (suc y) && not (p y) ≡ false) → begins_to p b ≡ begins_to p a
unfolding begins_to count
begins_none p a zero l h = ap (begins_to p) (let z : 0 ≡ a = omega arith in z)
begins_none p a (suc b) l h =
    by_eq a (suc b) (λ e. ap (begins_to p) (sym e))
    (λ e. rw (h b (omega arith) (omega arith)) (omega (arith, begins_none p a b (omega arith) (λ y c d. h y c (omega arith)))))

-- the next link passes, so it begins a run or goes on with one
begins_next : (p : ℕ → Bool) (x : ℕ) → p (suc x) ≡ true → begins_to p (suc x) ≡ cond (p x) 0 1 + begins_to p x
unfolding begins_to count
begins_next p x e = on (p x) (λ t. rw (e, t)) (λ t. rw (e, t))

-- the next link does not pass, so no run begins there
begins_skip : (p : ℕ → Bool) (x : ℕ) → p (suc x) ≡ false → begins_to p (suc x) ≡ begins_to p x
unfolding begins_to count
begins_skip p x e = rw e (omega arith)

-- a link that passes, with the next one: the run that starts there goes on
goes_on : (h : ℕ) (p : ℕ → Bool) (i k : ℕ) → p i ≡ true → p (suc i) ≡ true → (fs : List Fibre) → runs h p (suc i) (suc k) ≡ fs
    → length (runs h p i (suc (suc k))) ≡ length (runs h p (suc i) (suc k))
goes_on h p i k e t [] r = absurd (let z : Starts (suc i) (runs h p (suc i) (suc k)) = runs_start h p (suc i) (suc k) (omega arith) t in rw r at z)
goes_on h p i k e t (f ∷ fs) r =
    let s : Starts (suc i) (f ∷ fs) = (let z : Starts (suc i) (runs h p (suc i) (suc k)) = runs_start h p (suc i) (suc k) (omega arith) t in rw r at z) in
    ap length (runs_join h p i (suc k) e ∙ ap (join h i) r ∙ join_on h i f fs s) ∙ ap length (sym r)

-- and is over the same links further right
finds_on : (h : ℕ) (p : ℕ → Bool) (i k x : ℕ) → i < x → p i ≡ true → p (suc i) ≡ true → (fs : List Fibre) → runs h p (suc i) (suc k) ≡ fs
    → find (λ f. over f x) (runs h p i (suc (suc k))) ≡ find (λ f. over f x) (runs h p (suc i) (suc k))
unfolding find
finds_on h p i k x l e t [] r = absurd (let z : Starts (suc i) (runs h p (suc i) (suc k)) = runs_start h p (suc i) (suc k) (omega arith) t in rw r at z)
finds_on h p i k x l e t (f ∷ fs) r =
    let s : f.first ≡ suc i = (let z : Starts (suc i) (runs h p (suc i) (suc k)) = runs_start h p (suc i) (suc k) (omega arith) t in rw r at z) in
    let g : Fibre = record { first = i; last = f.last; layer = h } in
    let o : over g x ≡ over f x =
    by_le x f.last (λ c. over_of g x (omega arith) c ∙ sym (over_of f x (omega arith) c)) (λ c. over_right g x c ∙ sym (over_right f x c)) in
    ap (find (λ f. over f x)) (runs_join h p i (suc k) e ∙ ap (join h i) r ∙ join_on h i f fs s)
    ∙ ap (λ b. cond b 0 (suc (find (λ f. over f x) fs))) o ∙ ap (find (λ f. over f x)) (sym r)

-- a link that passes, and not the next one: a run of its own
alone : (h : ℕ) (p : ℕ → Bool) (i k : ℕ) → p i ≡ true → p (suc i) ≡ false → runs h p i (suc k) ≡ record { first = i; last = i; layer = h } ∷ runs h p (suc i) k
alone h p i k e t =
    runs_join h p i k e
    ∙ join_apart h i (runs h p (suc i) k)
    (all_imp {P = Maximal h p (suc i) k} {Q = λ f. suc i < f.first}
    (λ f m. by_eq f.first (suc i) (λ q. clash (p (suc i)) (ap p (sym q) ∙ m.pass f.first (omega arith) m.some) t) (λ q. omega (arith, m.from)))
    (runs h p (suc i) k) (runs_maximal h p (suc i) k))

-- one link: a run if it passes
runs_single : (h : ℕ) (p : ℕ → Bool) (i : ℕ) → length (runs h p i 1) ≡ cond (p i) 1 0
unfolding runs join
runs_single h p i = on (p i) (λ e. rw e refl) (λ e. rw e refl)

-- how many runs there are, counted from link i on
runs_counted : (h : ℕ) (p : ℕ → Bool) (i k : ℕ) → length (runs h p i (suc k)) + begins_to p i ≡ cond (p i) 1 0 + begins_to p (i + k)
runs_counted h p i zero =
    let z : begins_to p (i + 0) ≡ begins_to p i = ap (begins_to p) (omega arith) in
    omega (arith, runs_single h p i)
runs_counted h p i (suc k) =
    let ih = runs_counted h p (suc i) k in
    let z : begins_to p (suc i + k) ≡ begins_to p (i + suc k) = ap (begins_to p) (omega arith) in
    on (p i)
    (λ e.
    let c : cond {A = ℕ} (p i) 1 0 ≡ 1 = rw e in
    on (p (suc i))
    (λ t.
    let ih' = rw t at ih in
    let b : begins_to p (suc i) ≡ 0 + begins_to p i = begins_next p i t ∙ rw e in
    let g = goes_on h p i k e t (runs h p (suc i) (suc k)) refl in
    omega arith)
    (λ t.
    let ih' = rw t at ih in
    let b = begins_skip p i t in
    let g : length (runs h p i (suc (suc k))) ≡ suc (length (runs h p (suc i) (suc k))) = ap length (alone h p i (suc k) e t) in
    omega arith))
    (λ e.
    let g = ap length (runs_skip h p i (suc k) e) in
    let c : cond {A = ℕ} (p i) 1 0 ≡ 0 = rw e in
    on (p (suc i))
    (λ t. let ih' = rw t at ih in let b : begins_to p (suc i) ≡ 1 + begins_to p i = begins_next p i t ∙ rw e in omega arith)
    (λ t. let ih' = rw t at ih in let b = begins_skip p i t in omega arith))

-- at link 1 a run begins if it passes
begins_one : (p : ℕ → Bool) → p 0 ≡ false → begins_to p 1 ≡ cond (p 1) 1 0
unfolding begins_to count
begins_one p e = on (p 1) (λ t. rw (t, e)) (λ t. rw t)

-- there are as many runs as begin
pub runs_length : (h : ℕ) (p : ℕ → Bool) (n : ℕ) → p 0 ≡ false → length (runs h p 1 n) ≡ begins_to p n
runs_length h p zero e = unfold runs begins_to count in refl
runs_length h p (suc n) e =
    let z : begins_to p (1 + n) ≡ begins_to p (suc n) = ap (begins_to p) (omega arith) in
    omega (arith, runs_counted h p 1 n, begins_one p e)

-- a run of link i alone is not over a link further right
past : (h i x : ℕ) (fs : List Fibre) → i < x → find (λ f. over f x) (record { first = i; last = i; layer = h } ∷ fs) ≡ suc (find (λ f. over f x) fs)
past h i x fs l = unfold find in rw (over_right (record { first = i; last = i; layer = h }) x l)

-- the first run is over its first link
first_found : (i : ℕ) (fs : List Fibre) → Starts i fs → All (λ f. f.first ≤ f.last) fs → find (λ f. over f i) fs ≡ 0
first_found i [] s m = absurd s
first_found i (f ∷ fs) s m = unfold find in (let m₀ = m.0 in rw (over_of f i (omega arith) (omega arith)))

-- link i itself
here : (h : ℕ) (p : ℕ → Bool) (i k x : ℕ) → x ≡ i → p x ≡ true → suc (find (λ f. over f x) (runs h p i (suc k))) + begins_to p i ≡ cond (p i) 1 0 + begins_to p x
here h p i k x q t =
    let e : p i ≡ true = ap p (sym q) ∙ t in
    let c : cond {A = ℕ} (p i) 1 0 ≡ 1 = rw e in
    let z = first_found i (runs h p i (suc k)) (runs_start h p i (suc k) (omega arith) e) (all_imp {P = Maximal h p i (suc k)} {Q = λ f. f.first ≤ f.last} (λ f m. m.some) (runs h p i (suc k)) (runs_maximal h p i (suc k))) in
    let y : find (λ f. over f x) (runs h p i (suc k)) ≡ find (λ f. over f i) (runs h p i (suc k)) = ap (λ x. find (λ f. over f x) (runs h p i (suc k))) q in
    omega (arith, ap (begins_to p) q)

-- the place of the run over link x, counted from link i on
run_counted : (h : ℕ) (p : ℕ → Bool) (i k x : ℕ) → i ≤ x → x < i + k → p x ≡ true
    → suc (find (λ f. over f x) (runs h p i k)) + begins_to p i ≡ cond (p i) 1 0 + begins_to p x
run_counted h p i zero x a b t = absurd (omega arith)
run_counted h p i (suc zero) x a b t =
    let q : x ≡ i = omega arith in
    here h p i 0 x q t
run_counted h p i (suc (suc k)) x a b t =
    by_eq x i (λ q. here h p i (suc k) x q t)
    (λ q.
    let ih = run_counted h p (suc i) (suc k) x (omega arith) (omega arith) t in
    on (p i)
    (λ e.
    let c : cond {A = ℕ} (p i) 1 0 ≡ 1 = rw e in
    on (p (suc i))
    (λ u.
    let ih' = rw u at ih in
    let b : begins_to p (suc i) ≡ 0 + begins_to p i = begins_next p i u ∙ rw e in
    let g = finds_on h p i k x (omega arith) e u (runs h p (suc i) (suc k)) refl in
    omega arith)
    (λ u.
    let ih' = rw u at ih in
    let b = begins_skip p i u in
    let g : find (λ f. over f x) (runs h p i (suc (suc k))) ≡ suc (find (λ f. over f x) (runs h p (suc i) (suc k))) =
    ap (find (λ f. over f x)) (alone h p i (suc k) e u) ∙ past h i x (runs h p (suc i) (suc k)) (omega arith) in
    omega arith))
    (λ e.
    let g = ap (find (λ f. over f x)) (runs_skip h p i (suc k) e) in
    let c : cond {A = ℕ} (p i) 1 0 ≡ 0 = rw e in
    on (p (suc i))
    (λ u. let ih' = rw u at ih in let b : begins_to p (suc i) ≡ 1 + begins_to p i = begins_next p i u ∙ rw e in omega arith)
    (λ u. let ih' = rw u at ih in let b = begins_skip p i u in omega arith)))

-- the run over a link that passes has so many before it as begin up to the link, less one
pub run_place : (h : ℕ) (p : ℕ → Bool) (n x : ℕ) → p 0 ≡ false → 1 ≤ x → x ≤ n → p x ≡ true → suc (find (λ f. over f x) (runs h p 1 n)) ≡ begins_to p x
run_place h p n x e a b t = omega (arith, run_counted h p 1 n x a (omega arith) t, begins_one p e)

-- it is in the list, and over the link
pub run_found : (h : ℕ) (p : ℕ → Bool) (n x : ℕ) → 1 ≤ x → x ≤ n → p x ≡ true
    → (find (λ f. over f x) (runs h p 1 n) < length (runs h p 1 n)) × (over (get_or (runs h p 1 n) (find (λ f. over f x) (runs h p 1 n)) no_fibre) x ≡ true)
run_found h p n x a b t =
    let c = runs_in h p 1 n x a (omega arith) in
    find_hit (λ f. over f x) (runs h p 1 n) (let c' = rw t at c in omega arith)
