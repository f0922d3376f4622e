pub mod Views
pub mod Starts
pub mod Display
pub mod Name
pub mod Range
