pub mod Demands
pub mod Starred
pub mod Lengths
pub mod Growth
pub mod Listing
pub mod ReadingCalls
pub mod IndexPromises
