pub mod Applying
pub mod Unique
