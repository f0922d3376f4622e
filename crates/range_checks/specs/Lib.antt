pub mod InRange
pub mod Exactly
