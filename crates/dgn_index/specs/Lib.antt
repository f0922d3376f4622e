pub mod IndexNumbers
