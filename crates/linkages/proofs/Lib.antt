pub mod Laws
pub mod Meaning
pub mod Local
pub mod Listed
