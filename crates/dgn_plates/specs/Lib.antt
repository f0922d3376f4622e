pub mod Plates
pub mod Answers
pub mod Calls
