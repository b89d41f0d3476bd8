pub mod Field
pub mod Gf
pub mod GfLaws
pub mod Lanes
pub mod Row
pub mod Tables
pub mod RowLaws
