pub mod Bytes
pub mod Refusals
pub mod Inside
pub mod Fields
