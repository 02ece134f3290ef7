pub mod Puts
pub mod Places
pub mod Merges
pub mod Sweeps
