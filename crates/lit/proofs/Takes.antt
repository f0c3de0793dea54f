-- One circuit of a sweep: the three ways, in numbers and in bytes. Assumes nothing.
use Prim.Native.Nat.{ℕ, ◌+◌, ◌-◌, ◌*◌, ◌≤◌, ◌<◌}
use mathlib.Core.Path.{◌≡◌, sym, ◌∙◌}
use mathlib.Core.List.{List}
use borrow.Author.Tests.{lt-ltb, le-ltb}
use Rattle.records.specs.Bytes.{set_cell}
use Rattle.records.specs.Records.{fibre_bytes, put_record}
use Rattle.records.specs.declared.Circuit.{Circuit}
use Rattle.register.specs.Lists.{fibre_record}
use Rattle.lit.specs.inner.Sweeps.{taken, written}
use Rattle.lit.specs.declared.Open.{Open}

module _ (c : Circuit) (s : Open) where
  -- it begins a run
  pub new_taken : (a b : ℕ) → a ≡ c.first → b ≡ c.last → s.past < c.first → ◌≡◌ {A = Open} (record { made = record { fibres = s.made.fibres + 1; total = s.made.total + (b + 1 - a) }; past = b + 1 }) (taken c s)
  unfolding taken
  new_taken a b p q h = rw (lt-ltb s.past c.first h) (λ i. record { made = record { fibres = s.made.fibres + 1; total = s.made.total + (q i + 1 - p i) }; past = q i + 1 })

  pub new_written : (from layer : ℕ) (F F' : List ℕ) → s.past < c.first → F' ≡ put_record F s.made.fibres (fibre_bytes (record { number = from + s.made.fibres + 1; first = c.first; last = c.last; layer = layer }))
      → F' ≡ written from layer c s F
  unfolding written fibre_record
  new_written from layer F F' h e = e ∙ sym (rw (lt-ltb s.past c.first h))

  -- it lengthens the one that is open
  pub on_taken : (b : ℕ) → b ≡ c.last → c.first ≤ s.past → s.past < c.last + 1 → ◌≡◌ {A = Open} (record { made = record { fibres = s.made.fibres; total = s.made.total + (b + 1 - s.past) }; past = b + 1 }) (taken c s)
  unfolding taken
  on_taken b q h k = rw (le-ltb s.past c.first h, lt-ltb s.past (c.last + 1) k) (λ i. record { made = record { fibres = s.made.fibres; total = s.made.total + (q i + 1 - s.past) }; past = q i + 1 })

  pub on_written : (from layer : ℕ) (F F' : List ℕ) → c.first ≤ s.past → s.past < c.last + 1 → F' ≡ set_cell F (4 * (s.made.fibres - 1) + 2) c.last → F' ≡ written from layer c s F
  unfolding written
  on_written from layer F F' h k e = e ∙ sym (rw (le-ltb s.past c.first h, lt-ltb s.past (c.last + 1) k))

  -- it lies in it
  pub in_taken : c.first ≤ s.past → c.last + 1 ≤ s.past → s ≡ taken c s
  unfolding taken
  in_taken h k = sym (rw (le-ltb s.past c.first h, le-ltb s.past (c.last + 1) k))

  pub in_written : (from layer : ℕ) (F : List ℕ) → c.first ≤ s.past → c.last + 1 ≤ s.past → F ≡ written from layer c s F
  unfolding written
  in_written from layer F h k = sym (rw (le-ltb s.past c.first h, le-ltb s.past (c.last + 1) k))
