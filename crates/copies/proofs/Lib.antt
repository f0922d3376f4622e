pub mod Copies
pub mod Clears
