mod Keys
pub mod Numbers
pub mod Fields
pub mod Records
pub mod Names
pub mod Order
pub mod CloudSets
pub mod Validity
pub mod Sizes
