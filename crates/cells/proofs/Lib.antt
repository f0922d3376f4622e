pub mod Own
pub mod Trees
pub mod Whole
pub mod Counts
pub mod Index
