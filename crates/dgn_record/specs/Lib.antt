pub mod LastRecord
