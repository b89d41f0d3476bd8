pub mod HeaderRows
pub mod SayRows
pub mod EventRows
pub mod ScheduleLaws
