pub mod Kept
pub mod Ends
pub mod Printed
pub mod Nameless
pub mod Spelled
