pub mod Steps
pub mod Promise
pub mod Parts
pub mod Sections
