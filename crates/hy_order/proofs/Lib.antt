pub mod ReportLaws
pub mod OrderRows
pub mod HeldRows
pub mod EndRows
pub mod OperationRows
pub mod DueKeys
pub mod Fronts
pub mod Elements
pub mod SortedKeys
mod Lines
mod Legal
mod Illegal
mod DueOrders
mod Places
mod Marking
mod Grouping
mod Listed
mod Verdicts
mod PlainOrders
mod Passing
