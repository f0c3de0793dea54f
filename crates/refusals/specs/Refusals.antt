-- What a refusal says. Every answer that refuses is told through these definitions. What a reader must believe.
-- Assumes nothing.
use Rattle.std.specs.Prelude.{ℕ, Option, Some, None, Result, Ok, Err}
use Rattle.std.proofs.Math.Option.{Option as Maybe, none, some}
use Rattle.refusals.specs.declared.Reason.{Reason}
use Rattle.refusals.specs.declared.Reason.TheVariants.{PartRecord, TooManyCircuits, Links, Wavelengths, NumberZero, WrongEnd, NumberTwice, FibreRoom, AssignmentRoom, WorkRoom, Unread, Grid, UnfitPlan, NumberTaken, IndexRoom, PartList, UnfitFibres, SheetRoom, ReportRoom}
use Rattle.refusals.specs.declared.End.{End}
use Rattle.refusals.specs.declared.End.TheVariants.{FirstZero, FirstPastLast, LastPastLine}
use Rattle.refusals.specs.declared.Refusal.{Refusal}

-- the number of a reason in the table
abbrev pub number_of : Reason → ℕ
number_of PartRecord = 1
number_of TooManyCircuits = 2
number_of Links = 3
number_of Wavelengths = 4
number_of NumberZero = 5
number_of WrongEnd = 6
number_of NumberTwice = 7
number_of FibreRoom = 8
number_of AssignmentRoom = 9
number_of WorkRoom = 10
number_of Unread = 11
number_of Grid = 12
number_of UnfitPlan = 13
number_of NumberTaken = 14
number_of IndexRoom = 15
number_of PartList = 16
number_of UnfitFibres = 20
number_of SheetRoom = 21
number_of ReportRoom = 23

-- the number by which a wrong end is told
abbrev pub end_number : End → ℕ
end_number FirstZero = 1
end_number FirstPastLast = 2
end_number LastPastLine = 3

-- which end is told: its number, or 0 for none
abbrev pub end_told : Option End → ℕ
end_told None = 0
end_told (Some end) = end_number end

-- what an answer refuses: one definition takes each of its cases to a refusal, or none
abbrev pub refusal_in : {A : Type 0} → Result A Refusal → Maybe Refusal
refusal_in (Ok x) = none
refusal_in (Err r) = some r

-- what is made of a refusal where there is one, and else what stands otherwise
abbrev pub if_refused : {A : Type 0} → Maybe Refusal → (Refusal → A) → A → A
if_refused none made otherwise = otherwise
if_refused (some r) made otherwise = made r

-- the refusal, if there is one, and else what follows
abbrev pub refused_or : {A : Type 0} → Maybe Refusal → Result A Refusal → Result A Refusal
refused_or row next = if_refused row Err next
