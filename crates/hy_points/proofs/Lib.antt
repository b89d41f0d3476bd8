pub mod Sorting
pub mod Moments
mod Tellings
mod Raising
mod Marking
pub mod Places
pub mod Heights
pub mod InOrder
mod Seeking
pub mod Swapping
pub mod Courses
mod Placing
pub mod Listing
pub mod ByMoment
mod LogLaw
mod ByStamp
mod StampLaw
pub mod RunLog
pub mod OneOrder
pub mod RunOrder
pub mod SortedKeys
