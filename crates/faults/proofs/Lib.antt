pub mod ExactMarks
pub mod Depths
pub mod Inserting
pub mod ExactInserts
pub mod ExactReversals
pub mod Ends
