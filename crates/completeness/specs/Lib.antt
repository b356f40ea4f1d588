pub mod Form
pub mod Complete
pub mod Needed
pub mod Example
pub mod Sound
