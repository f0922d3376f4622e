pub mod Bounds
pub mod Triples
pub mod Element
pub mod Writable
pub mod Below
