pub mod Courses
pub mod Effects
pub mod Kept
pub mod History
pub mod Log
pub mod Orders
pub mod Points
pub mod RunOrders
