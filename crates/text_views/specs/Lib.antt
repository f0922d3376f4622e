pub mod TextViews
pub mod Refusals
pub mod Fields
pub mod Characters
pub mod Field
