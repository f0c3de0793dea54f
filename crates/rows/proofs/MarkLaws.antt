-- The marks of circuits, added up link by link, are the loads. Assumes nothing.
use Rattle.std.proofs.Common.{◌≡◌, ℕ, zero, suc, ◌+◌, ◌-◌, ◌*◌, ◌%◌, ◌^◌, ◌<◌, ◌≤◌, Bool, true, false, cond, eqb, List, length, set, replicate, sym, ap, ◌∙◌, ap₂, add-one, arith, length-set, eq-eqb, ne_eqb, le-leb}
use lib.Seq.{set_out}
use borrow.Author.Tests.{lt-leb}
use Rattle.basics.specs.Tools.{count, each, sum}
use Rattle.basics.proofs.Bools.{by_eq, by_le}
use Rattle.basics.proofs.Tables.{each_same, each_zero, length_each}
use Rattle.basics.proofs.Counts.{count_balance, count_below, count_none}
use Rattle.method.specs.Line.{circuit, uses, Lies}
use Rattle.method.specs.Sheet.{at, load}
use Rattle.method.proofs.Colours.{at_each}
use Rattle.records.specs.Bytes.{cell, set_cell, cells_of}
use Rattle.records.specs.declared.Circuit.{Circuit}
use Rattle.records.proofs.CellLaws.{stored}
use Rattle.rows.specs.inner.Loads.{wrapped, mark_up, mark_down, begin_to, end_to, mark_to, sum_to}
use Rattle.rows.proofs.LoadLaws.{load_few}
use Rattle.rows.proofs.Written.{links_are, at_set_same, at_set_other, read}

-- the cell of link x is read, goes v up, and is stored
pub mark_stored : (b b' : List ℕ) (x v got put : ℕ) → 1 ≤ x → 2 * (x - 1) + 1 < length b → got ≡ cell b (x - 1) → put ≡ wrapped (got + v) → b' ≡ set_cell b (x - 1) put
    → cells_of b' ≡ set (cells_of b) (x - 1) (wrapped (at (cells_of b) x + v))
mark_stored b b' x v got put l h g p e =
    stored b b' (x - 1) put e ∙ ap (set (cells_of b) (x - 1)) (p ∙ ap (λ (z : ℕ). wrapped (z + v)) (read b x got l h g))

-- past the line no cell goes one down
pub mark_past : (C : List ℕ) (a past : ℕ) → length C < past → mark_up a C ≡ mark_down past (mark_up a C)
mark_past C a past h =
    sym (set_out (mark_up a C) (past - 1) (wrapped (at (mark_up a C) past + 65535)) (omega (arith, length-set C (a - 1) (wrapped (at C a + 1)))))

-- link i goes v up: what link x then holds
mark_at : (C : List ℕ) (i x v : ℕ) → 1 ≤ i → x ≤ length C → at C x < 65536 → at (set C (i - 1) (wrapped (at C i + v))) x ≡ wrapped (at C x + cond (eqb i x) v 0)
mark_at C i x v p q h =
    by_eq i x
    (λ e. rw (eq-eqb i x e)
    (ap (at (set C (i - 1) (wrapped (at C i + v)))) (sym e) ∙ at_set_same C i (wrapped (at C i + v)) p (omega arith) ∙ ap (λ (z : ℕ). wrapped (at C z + v)) e))
    (λ e. rw (ne_eqb i x e) (omega (arith, at_set_other C i x (wrapped (at C i + v)) p (omega arith))))

-- a mark that goes one up or not, then one down or not
mark_turn : (up down : Bool) (v v₁ v₂ begin end : ℕ) → end ≤ 2048 → v ≡ wrapped (65536 + begin - end) → v₁ ≡ wrapped (v + cond up 1 0) → v₂ ≡ wrapped (v₁ + cond down 65535 0)
    → v₂ ≡ wrapped (65536 + (cond up 1 0 + begin) - (cond down 1 0 + end))
mark_turn true true v v₁ v₂ begin end h p q r = omega arith
mark_turn true false v v₁ v₂ begin end h p q r = omega arith
mark_turn false true v v₁ v₂ begin end h p q r = omega arith
mark_turn false false v v₁ v₂ begin end h p q r = omega arith

-- of j circuits at most j end somewhere
end_few : (cs : List Circuit) (j x : ℕ) → end_to cs j x ≤ j
unfolding end_to
end_few cs j x = count_below (λ d. eqb ((circuit cs d).last + 1) x) j

-- before the first circuit
pub mark_none : (cs : List Circuit) (n : ℕ) (C : List ℕ) → C ≡ replicate n 0 → C ≡ each (mark_to cs 0) 1 n
unfolding mark_to begin_to end_to count
mark_none cs n C e = e ∙ each_zero 1 n

-- one circuit more
pub mark_more : (cs : List Circuit) (n j a past : ℕ) (C C' : List ℕ) → j ≤ 2048 → C ≡ each (mark_to cs j) 1 n → a ≡ (circuit cs j).first → past ≡ (circuit cs j).last + 1 → 1 ≤ a → 1 ≤ past
    → C' ≡ mark_down past (mark_up a C) → C' ≡ each (mark_to cs (j + 1)) 1 n
unfolding mark_to begin_to end_to count
mark_more cs n j a past C C' few e p q k₁ k₂ h =
    let long : length C ≡ n = ap length e ∙ length_each (mark_to cs j) 1 n in
    let long₁ : length (mark_up a C) ≡ n = length-set C (a - 1) (wrapped (at C a + 1)) ∙ long in
    links_are n C' (mark_to cs (j + 1)) (ap length h ∙ length-set (mark_up a C) (past - 1) (wrapped (at (mark_up a C) past + 65535)) ∙ long₁)
    (λ x k l.
    let v : at C x ≡ mark_to cs j x = ap (λ (z : List ℕ). at z x) e ∙ at_each (mark_to cs j) n x k l in
    let v₁ = mark_at C a x 1 k₁ (omega arith) (omega arith) in
    let v₂ = mark_at (mark_up a C) past x 65535 k₂ (omega arith) (omega arith) in
    mark_turn (eqb a x) (eqb past x) (at C x) (at (mark_up a C) x) (at C' x) (begin_to cs j x) (end_to cs j x) (omega (arith, end_few cs j x))
    v v₁ (ap (λ (z : List ℕ). at z x) h ∙ v₂)
    ∙ ap₂ (λ (f g : ℕ). wrapped (65536 + (cond (eqb f x) 1 0 + begin_to cs j x) - (cond (eqb g x) 1 0 + end_to cs j x))) p q
    ∙ sym (ap (λ (z : ℕ). mark_to cs z x) (add-one j)))

-- one cell more is added up
pub sum_turn : (C : List ℕ) (i s v r : ℕ) → 1 ≤ i → s ≡ sum_to C (i - 1) → v ≡ at C i → r ≡ (s + v) % 2 ^ 16 → r ≡ sum_to C i
unfolding sum_to sum
sum_turn C zero s v r l p q h = absurd (omega arith)
sum_turn C (suc i) s v r l p q h =
    let k : suc i - 1 ≡ i = omega arith in
    let e : s ≡ wrapped (sum (at C) i) = p ∙ ap (sum_to C) k in
    omega arith

-- a circuit that uses link x goes on to link x + 1 or ends, and one that uses link x + 1 comes from link x or begins
one_link : (c : Circuit) (x : ℕ) → c.first ≤ c.last
    → cond (uses c (suc x)) 1 0 + cond (eqb (c.last + 1) (suc x)) 1 0 ≡ cond (uses c x) 1 0 + cond (eqb c.first (suc x)) 1 0
unfolding uses
one_link c x h =
    by_le c.first x
    (λ f. rw (le-leb c.first (suc x) (omega arith), le-leb c.first x f, ne_eqb c.first (suc x) (omega arith))
    (by_le (suc x) c.last
    (λ l. rw (le-leb (suc x) c.last l, le-leb x c.last (omega arith), ne_eqb (c.last + 1) (suc x) (omega arith)))
    (λ l. rw (lt-leb (suc x) c.last l)
    (by_eq c.last x
    (λ e. rw (le-leb x c.last (omega arith), eq-eqb (c.last + 1) (suc x) (omega arith)))
    (λ e. rw (lt-leb x c.last (omega arith), ne_eqb (c.last + 1) (suc x) (omega arith)))))))
    (λ f. rw (lt-leb c.first x f, ne_eqb (c.last + 1) (suc x) (omega arith))
    (by_eq c.first (suc x)
    (λ e. rw (le-leb c.first (suc x) (omega arith), le-leb (suc x) c.last (omega arith), eq-eqb c.first (suc x) e))
    (λ e. rw (lt-leb c.first (suc x) (omega arith), ne_eqb c.first (suc x) e))))

-- L(x + 1) and those that end at link x are as many as L(x) and those that begin at link x + 1
next_load : (n : ℕ) (cs : List Circuit) (x : ℕ) → Lies n cs → load cs (suc x) + end_to cs (length cs) (suc x) ≡ load cs x + begin_to cs (length cs) (suc x)
unfolding load begin_to end_to circuit
next_load n cs x lies =
    count_balance (λ j. uses (circuit cs j) (suc x)) (λ j. eqb ((circuit cs j).last + 1) (suc x)) (λ j. uses (circuit cs j) x) (λ j. eqb (circuit cs j).first (suc x)) (length cs)
    (λ j l. one_link (circuit cs j) x (lies j l).1)

-- no circuit uses a link before the first
load_zero : (n : ℕ) (cs : List Circuit) → Lies n cs → load cs 0 ≡ 0
unfolding load uses circuit
load_zero n cs lies = count_none (λ j. uses (circuit cs j) 0) (length cs) (λ j l. rw (lt-leb (circuit cs j).first 0 (lies j l).0))

-- the marks of links 1 to x added up are L(x)
load_sum : (n : ℕ) (cs : List Circuit) (C : List ℕ) → Lies n cs → length cs ≤ 2048 → C ≡ each (mark_to cs (length cs)) 1 n → (x : ℕ) → x ≤ n → sum_to C x ≡ load cs x
unfolding sum_to sum mark_to
load_sum n cs C lies few e zero l = sym (load_zero n cs lies)
load_sum n cs C lies few e (suc x) l =
    let ih : wrapped (sum (at C) x) ≡ load cs x = load_sum n cs C lies few e x (omega arith) in
    let v : at C (suc x) ≡ wrapped (65536 + begin_to cs (length cs) (suc x) - end_to cs (length cs) (suc x)) = ap (λ (z : List ℕ). at z (suc x)) e ∙ at_each (mark_to cs (length cs)) n (suc x) (omega arith) l in
    omega (arith, next_load n cs x lies, load_few cs (suc x), end_few cs (length cs) (suc x))

-- all circuits are marked, and the marks added up
pub loads_are : (n m : ℕ) (cs : List Circuit) (C C' : List ℕ) → Lies n cs → length cs ≡ m → m ≤ 2048 → C ≡ each (mark_to cs m) 1 n → C' ≡ each (sum_to C) 1 n → C' ≡ each (load cs) 1 n
loads_are n m cs C C' lies q few e h =
    h ∙ each_same (sum_to C) (load cs) 1 n
    (λ x k l. load_sum n cs C lies (omega arith) (e ∙ ap (λ (z : ℕ). each (mark_to cs z) 1 n) (sym q)) x (omega arith))
