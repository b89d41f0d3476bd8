pub mod Writing
pub mod Retrieval
pub mod Starving
pub mod Deleting
pub mod Refreshing
pub mod Rows
pub mod Within
