pub mod Decimal
pub mod Laws
pub mod Escapes
pub mod OneToOne
pub mod Told
