pub mod Attributes
pub mod Rules
pub mod Simple
