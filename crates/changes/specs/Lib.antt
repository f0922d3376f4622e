pub mod Changes
pub mod CellNames
