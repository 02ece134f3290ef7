pub mod Rows
pub mod RowBytes
pub mod FormatTheorems
pub mod Reading
pub mod Written
