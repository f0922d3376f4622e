pub mod Bounds
pub mod Element
pub mod Writable
