pub mod Params
pub mod Say
pub mod Ranges
pub mod Text
pub mod Reading
