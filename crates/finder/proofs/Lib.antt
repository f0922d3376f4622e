pub mod Order
pub mod Named
pub mod Looks
pub mod Refusals
pub mod Base
