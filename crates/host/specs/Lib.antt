pub mod Outcomes
pub mod Areas
