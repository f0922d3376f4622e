pub mod Ways
pub mod Reversals
