pub mod Lookups
pub mod Atomic
pub mod Marks
pub mod Orders
pub mod Runs
pub mod Index
pub mod Stamps
