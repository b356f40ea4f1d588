pub mod Part
pub mod Shown
pub mod Answer
pub mod Numbers
