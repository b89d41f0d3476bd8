pub mod Filters
pub mod Inputs
pub mod Marking
pub mod Sets
