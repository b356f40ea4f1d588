pub mod Items
pub mod Same
pub mod Several
pub mod Literals
pub mod Lines
pub mod Refusals
pub mod Whole
pub mod Promise
