pub mod Words
pub mod Program
pub mod Printed
pub mod Demands
pub mod Examples
