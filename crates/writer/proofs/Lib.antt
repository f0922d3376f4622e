pub mod Stores
pub mod Laid
pub mod Writes
pub mod Refusals
