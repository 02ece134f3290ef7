pub mod Entries
pub mod Tables
pub mod Refusals
pub mod TableLaws
