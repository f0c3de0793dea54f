pub mod CellLaws
pub mod Encode
pub mod Parts
pub mod Inverse
pub mod Files
pub mod Series
pub mod PartCells
pub mod RecordLaws
