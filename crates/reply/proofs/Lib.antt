pub mod Part
pub mod Answer
pub mod Numbers
