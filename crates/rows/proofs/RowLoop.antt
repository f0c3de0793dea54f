-- The loop of a row, "while a link is open, a step", against the n steps of the method. Assumes nothing.
use Rattle.std.proofs.Common.{◌≡◌, ℕ, zero, suc, ◌<◌, ◌≤◌, List, sym, refl, ◌∙◌, ⊎_elim, arith}
use Rattle.method.specs.Line.{Lies}
use Rattle.method.specs.Sheet.{State, run_from, step, steps}
use Rattle.method.proofs.Links.{lies_there}
use Rattle.method.proofs.Colours.{from_pos, from_open}
use Rattle.method.proofs.Closed.{opens, opens_le, opens_some, step_falls, steps_idle}
use Rattle.records.specs.declared.Circuit.{Circuit}

-- at the head of the loop of row k: what is left of the row leads from s to `end`
pub record InLoop (n : ℕ) (cs : List Circuit) (k : ℕ) (end s : State) : Type 0 where
  pub left : ℕ
  pub enough : opens n s ≤ left
  pub leads : steps n cs left k s ≡ end

-- before the first step
pub loop_start : (n : ℕ) (cs : List Circuit) (k : ℕ) (s : State) → InLoop n cs k (steps n cs n k s) s
loop_start n cs k s = record { left = n; enough = opens_le n s; leads = refl }

-- no link is open, so the row has ended
pub loop_end : (n : ℕ) (cs : List Circuit) (k : ℕ) (end s : State) → InLoop n cs k end s → n < run_from n s.colours → s ≡ end
loop_end n cs k end s y h = sym (steps_idle n cs y.left k s h) ∙ y.leads

-- a run starts with an open link
some_open : (n : ℕ) (s : State) → run_from n s.colours ≤ n → 1 ≤ opens n s
some_open n s l = opens_some n s (run_from n s.colours) (from_pos n s.colours) l (from_open n s.colours l)

module _ (n : ℕ) (cs : List Circuit) (lies : Lies n cs) (k : ℕ) where
  -- one step more
  pub loop_turn : (end s s' : State) → InLoop n cs k end s → run_from n s.colours ≤ n → s' ≡ step n cs k s → InLoop n cs k end s'
  unfolding steps
  loop_turn end s s' y l e = rw e (go y.left y.enough y.leads)
    where
      -- where f steps are left
      go : (f : ℕ) → opens n s ≤ f → steps n cs f k s ≡ end → InLoop n cs k end (step n cs k s)
      go zero b q = absurd (omega (arith, some_open n s l))
      go (suc f) b q = record { left = f; enough = ⊎_elim (λ t. omega arith) (λ t. omega arith) (step_falls n cs (lies_there n cs lies) k s); leads = q }

  -- the step leaves fewer links open
  pub loop_less : (s : State) → run_from n s.colours ≤ n → opens n (step n cs k s) < opens n s
  loop_less s l =
      let o = some_open n s l in
      ⊎_elim (λ t. t) (λ t. omega arith) (step_falls n cs (lies_there n cs lies) k s)
