-- What was read stands in its buffer, and is no more than that holds. Assumes nothing.
use Prim.Native.Nat.{ℕ, ◌≤◌}
use mathlib.Core.Path.{◌≡◌, subst, sym}
use mathlib.Core.List.{List}
use native.Mathlib.Omega.{arith}
use lib.ListN.{length, take}
use lib.Seq.{length-take-le}
use Rattle.std.specs.Prelude.{Option, Some, None, IfSome}
use Rattle.files.specs.declared.Start.{Start}
use Rattle.prints.specs.Adding.{AddRead, AddStarts}
use Rattle.prints.specs.Reads.{AtMost, Into, start_read}

pub held : (room : ℕ) (got : Option Start) → Into room got → IfSome got (λ s. s.read ≤ length s.buffer.now)
held room (Some s) h = omega (arith, h)
held room None h = tt

pub at_most : (room : ℕ) (got : Option Start) → Into room got → AtMost room (start_read got)
at_most room (Some s) h = omega (arith, h, length-take-le s.read s.buffer.now (omega (arith, h)))
at_most room None h = tt

pub starts_read : (line new : Option Start) (got_circuits got_fibres got_assigns : Option ℕ) (circuits fibres assigns : List ℕ) → AddStarts line got_circuits new got_fibres got_assigns circuits fibres assigns
    → AddRead got_circuits (start_read new) got_fibres got_assigns circuits fibres assigns
starts_read line new got_circuits got_fibres got_assigns circuits fibres assigns h = record {
  circuits_read = h.circuits_read;
  circuits_long = h.circuits_long;
  new_read = at_most 16392 new h.new_read;
  fibres_read = h.fibres_read;
  fibres_long = h.fibres_long;
  assigns_read = h.assigns_read;
  assigns_long = h.assigns_long;
}
