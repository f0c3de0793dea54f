-- `run_at`: the run and its reach. Assumes nothing.
use Rattle.std.proofs.Common.{ℕ, ◌+◌, ◌<◌, arith, rules}
use Rattle.method.specs.Sheet.{at}
use Rattle.method.proofs.Colours.{from_pos}
use Rattle.records.specs.Bytes.{cells_of}
use Rattle.rows.specs.inner.Colours.{shown}
use Rattle.rows.proofs.ShownLaws.{length_shown, links_low, sought_in, shut_sought, unblue_sought, past_in, around}
use Rattle.rows.proofs.colours.run_at.Goals as goal

pub overflow_sub-l : goal.overflow_sub-l
overflow_sub-l c =
    let a = c.args in
    let p = from_pos a.n (shown a.n a.k (cells_of a.lasts.now)) in
    omega arith

pub overflow_add-past : goal.overflow_add-past
overflow_add-past c =
    let a = c.args in
    let p = from_pos a.n (shown a.n a.k (cells_of a.lasts.now)) in
    let z = sought_in _ a.n a.l _ (omega arith) (omega arith) c.first_within-past.ensures in
    omega arith

pub blue_to-low-requires : goal.blue_to-low-requires
blue_to-low-requires c =
    let a = c.args in
    let p = from_pos a.n (shown a.n a.k (cells_of a.lasts.now)) in
    (omega arith, omega arith, omega arith, omega arith, omega arith)

pub first_within-high-requires : goal.first_within-high-requires
first_within-high-requires c =
    let a = c.args in
    let p = from_pos a.n (shown a.n a.k (cells_of a.lasts.now)) in
    let z = sought_in _ a.n a.l _ (omega arith) (omega arith) c.first_within-past.ensures in
    (omega arith, omega arith, omega arith)

pub overflow_add-high : goal.overflow_add-high
overflow_add-high c =
    let a = c.args in
    let p = from_pos a.n (shown a.n a.k (cells_of a.lasts.now)) in
    let f = c.first_within-past in
    let z = sought_in _ a.n a.l _ (omega arith) (omega arith) f.ensures in
    let y = sought_in _ a.n (f.result + 1) _ (omega arith) (omega arith) c.first_within-high.ensures in
    omega arith

pub returns : goal.returns
returns c =
    let a = c.args in
    let b = a.lasts.now in
    let p = from_pos a.n (shown a.n a.k (cells_of b)) in
    let f = c.first_within-past in
    let low : (x : ℕ) → at (cells_of b) x < 65536 = links_low b (λ i. search rules) in
    let past = shut_sought a.n a.k a.l _ (cells_of b) low (omega arith) (omega arith) f.ensures in
    let z = past_in a.n a.l (f.result + 1) (shown a.n a.k (cells_of b)) (omega arith) past in
    let z₀ = z.0 in
    let z₁ = z.1 in
    around a.n a.l _ _ _ _ (length_shown a.n a.k (cells_of b)) (omega arith) c.requires.2.3 past c.blue_to-low.ensures
    (unblue_sought a.n a.k (f.result + 1) _ (cells_of b) (omega arith) low (omega arith) (omega arith) c.first_within-high.ensures)
