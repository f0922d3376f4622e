pub mod FirstWord
pub mod Kinds
