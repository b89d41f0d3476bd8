pub mod Block
pub mod Fragments
pub mod Points
pub mod Polynomial
pub mod Refusal
pub mod Weights
