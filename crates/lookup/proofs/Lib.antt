pub mod Turns
pub mod Halving
pub mod Table
pub mod Steps
pub mod Calls
pub mod Named
pub mod Finding
pub mod Passing
