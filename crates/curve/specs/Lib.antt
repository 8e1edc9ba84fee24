pub mod Program
pub mod Printed
