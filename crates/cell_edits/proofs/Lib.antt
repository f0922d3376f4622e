pub mod Trees
pub mod Moves
pub mod After
