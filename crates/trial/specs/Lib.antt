pub mod Case
pub mod Line
