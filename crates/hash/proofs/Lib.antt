pub mod Product
pub mod Unique
