pub mod Decimal
pub mod Lines
pub mod Buffer
pub mod Demands
