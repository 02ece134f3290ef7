pub mod Refusals
pub mod Stores
pub mod Slotted
pub mod Logs
pub mod Spans
pub mod Halves
pub mod Logged
pub mod Indexes
