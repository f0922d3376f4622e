pub mod Ends
pub mod LastRecord
pub mod Small
