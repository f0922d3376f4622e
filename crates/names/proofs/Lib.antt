pub mod Alphabet
pub mod Texts
pub mod Stored
pub mod Table
pub mod OneToOne
pub mod Refusals
