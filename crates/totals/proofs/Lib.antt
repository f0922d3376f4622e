pub mod Holders
pub mod Descent
pub mod Corrected
pub mod Reached
pub mod Paths
pub mod Totals
pub mod Rooms
