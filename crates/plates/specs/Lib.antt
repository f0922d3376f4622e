pub mod Kinds
pub mod Plates
pub mod Hops
pub mod Promises
