pub mod Cells
pub mod WholeOutcome
pub mod WholeSeen
pub mod WholeBench
pub mod inner
