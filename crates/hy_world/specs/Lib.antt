pub mod Schedules
pub mod Seats
pub mod Nodes
pub mod Holders
pub mod Machines
pub mod World
pub mod Promises
pub mod Reporting
