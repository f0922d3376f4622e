pub mod Check
pub mod Ranges
pub mod Answers
pub mod Calls
