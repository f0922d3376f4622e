pub mod Types
pub mod Own
pub mod Grammar
pub mod Reading
pub mod FirstFault
