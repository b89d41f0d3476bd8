pub mod Targets
pub mod Collecting
pub mod Swapping
pub mod Faults
pub mod Sizes
pub mod Machines
pub mod Clients
