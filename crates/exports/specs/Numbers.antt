-- The refusal that a caller tells from its numbers. What a reader must believe.
-- Assumes nothing.
use Rattle.std.specs.Prelude.{ℕ, eqb, List, [], ◌∷◌, Option, find, unwrap_or}
use Rattle.refusals.specs.Refusals.{number_of, end_number}
use Rattle.refusals.specs.declared.Refusal.{Refusal}
use Rattle.refusals.specs.declared.Reason.{Reason}
use Rattle.refusals.specs.declared.Reason.TheVariants.{PartRecord, TooManyCircuits, Links, Wavelengths, NumberZero, WrongEnd, NumberTwice, FibreRoom, AssignmentRoom, WorkRoom, Unread, Grid, UnfitPlan, NumberTaken, IndexRoom, PartList, UnfitFibres, SheetRoom, ReportRoom}
use Rattle.refusals.specs.declared.End.{End}
use Rattle.refusals.specs.declared.End.TheVariants.{FirstZero, FirstPastLast, LastPastLine}

-- all reasons
abbrev pub reasons : List Reason
reasons =
    PartRecord ∷ TooManyCircuits ∷ Links ∷ Wavelengths ∷ NumberZero ∷ WrongEnd ∷ NumberTwice ∷ FibreRoom ∷ AssignmentRoom ∷ WorkRoom
    ∷ Unread ∷ Grid ∷ UnfitPlan ∷ NumberTaken ∷ IndexRoom ∷ PartList ∷ UnfitFibres ∷ SheetRoom ∷ ReportRoom ∷ []

-- all ends
abbrev pub ends : List End
ends = FirstZero ∷ FirstPastLast ∷ LastPastLine ∷ []

-- the reason of this number; no operation tells a number that is none's
abbrev pub reason_numbered : ℕ → Reason
reason_numbered x = unwrap_or (find (λ reason. eqb (number_of reason) x) reasons) Unread

-- the end of this number; 0 is none's
abbrev pub end_numbered : ℕ → Option End
end_numbered x = find (λ end. eqb (end_number end) x) ends

-- the refusal of these numbers
abbrev pub refusal_numbered : ℕ → ℕ → ℕ → Refusal
refusal_numbered number place end = record { reason = reason_numbered number; place = place; end = end_numbered end }
