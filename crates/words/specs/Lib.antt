pub mod Out
pub mod Read
pub mod Answer
pub mod Items
pub mod Code
