pub mod Checkpoints
pub mod Format
pub mod FormatLaws
pub mod Contents
pub mod Refusals
