pub mod Indexed
pub mod Parts
pub mod AllLengths
