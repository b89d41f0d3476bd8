pub mod Doubling
pub mod RowLemmas
pub mod Halves
pub mod LaneLemmas
pub mod Added
