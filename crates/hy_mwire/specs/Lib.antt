pub mod Kind
pub mod Message
pub mod Frames
pub mod Reading
pub mod Front
pub mod Seen
pub mod Stream
pub mod HeldStream
