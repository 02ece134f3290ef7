pub mod Posts
pub mod Takes
