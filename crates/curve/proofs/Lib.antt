pub mod Coming
pub mod Input
pub mod Printed
