pub mod Cells
pub mod Index
