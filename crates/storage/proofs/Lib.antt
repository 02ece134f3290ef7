pub mod Places
pub mod Fronts
pub mod Scans
pub mod Growing
pub mod Committing
pub mod Moving
