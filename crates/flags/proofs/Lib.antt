pub mod Stores
pub mod Turns
pub mod Places
pub mod Sixteens
pub mod Walked
pub mod Packing
