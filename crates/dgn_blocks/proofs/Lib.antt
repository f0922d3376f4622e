pub mod Moves
pub mod Small
