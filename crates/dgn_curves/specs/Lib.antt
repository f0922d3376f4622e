pub mod Curves
pub mod Answers
pub mod Calls
