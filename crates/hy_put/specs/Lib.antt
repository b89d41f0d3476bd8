pub mod Contents
pub mod Sizes
pub mod Standing
pub mod Updates
