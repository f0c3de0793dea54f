-- A refusal is told from its numbers as it was, and no reason has number 0. Assumes nothing.
use Prim.Native.Nat.{◌≤◌}
use mathlib.Core.Path.{◌≡◌, refl}
use native.Mathlib.Omega.{arith}
use Rattle.std.specs.Prelude.{Option, Some, None}
use Rattle.refusals.specs.Refusals.{number_of, end_told}
use Rattle.refusals.specs.declared.Refusal.{Refusal}
use Rattle.refusals.specs.declared.Reason.{Reason}
use Rattle.refusals.specs.declared.Reason.TheVariants.{PartRecord, TooManyCircuits, Links, Wavelengths, NumberZero, WrongEnd, NumberTwice, FibreRoom, AssignmentRoom, WorkRoom, Unread, Grid, UnfitPlan, NumberTaken, IndexRoom, PartList, UnfitFibres, SheetRoom, ReportRoom}
use Rattle.refusals.specs.declared.End.{End}
use Rattle.refusals.specs.declared.End.TheVariants.{FirstZero, FirstPastLast, LastPastLine}
use Rattle.exports.specs.Numbers.{reason_numbered, end_numbered, refusal_numbered}

reason_told : (reason : Reason) → reason_numbered (number_of reason) ≡ reason
reason_told PartRecord = refl
reason_told TooManyCircuits = refl
reason_told Links = refl
reason_told Wavelengths = refl
reason_told NumberZero = refl
reason_told WrongEnd = refl
reason_told NumberTwice = refl
reason_told FibreRoom = refl
reason_told AssignmentRoom = refl
reason_told WorkRoom = refl
reason_told Unread = refl
reason_told Grid = refl
reason_told UnfitPlan = refl
reason_told NumberTaken = refl
reason_told IndexRoom = refl
reason_told PartList = refl
reason_told UnfitFibres = refl
reason_told SheetRoom = refl
reason_told ReportRoom = refl

which_told : (end : Option End) → end_numbered (end_told end) ≡ end
which_told None = refl
which_told (Some FirstZero) = refl
which_told (Some FirstPastLast) = refl
which_told (Some LastPastLine) = refl

-- a refusal is that of its numbers
pub refusal_told : (r : Refusal) → refusal_numbered (number_of r.reason) r.place (end_told r.end) ≡ r
refusal_told r = λ i. record { reason = reason_told r.reason i; place = r.place; end = which_told r.end i }

-- the number of a reason is 1 or more
pub reason_named : (reason : Reason) → 1 ≤ number_of reason
reason_named PartRecord = omega arith
reason_named TooManyCircuits = omega arith
reason_named Links = omega arith
reason_named Wavelengths = omega arith
reason_named NumberZero = omega arith
reason_named WrongEnd = omega arith
reason_named NumberTwice = omega arith
reason_named FibreRoom = omega arith
reason_named AssignmentRoom = omega arith
reason_named WorkRoom = omega arith
reason_named Unread = omega arith
reason_named Grid = omega arith
reason_named UnfitPlan = omega arith
reason_named NumberTaken = omega arith
reason_named IndexRoom = omega arith
reason_named PartList = omega arith
reason_named UnfitFibres = omega arith
reason_named SheetRoom = omega arith
reason_named ReportRoom = omega arith
