pub mod Targets
pub mod Deletions
pub mod Collecting
pub mod Swapping
pub mod Swaps
pub mod SwapSteps
pub mod Tasks
pub mod Sessions
