pub mod Given
pub mod Operands
pub mod Words
