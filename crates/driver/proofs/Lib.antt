pub mod Laws
pub mod Driven
pub mod Unique
