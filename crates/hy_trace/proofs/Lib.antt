pub mod Growth
pub mod Heard
pub mod Steps
