pub mod Drawing
pub mod Making
