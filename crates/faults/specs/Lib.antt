pub mod Faults
pub mod Inserting
pub mod Reversing
pub mod Components
