pub mod Requests
pub mod Fetching
pub mod Standing
pub mod Laws
