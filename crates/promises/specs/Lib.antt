pub mod Words
pub mod Components
pub mod Marked
