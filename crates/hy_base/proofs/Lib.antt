pub mod Taking
pub mod Appending
pub mod Results
pub mod Adding
pub mod Runs
pub mod Taping
