pub mod Table
pub mod Which
pub mod Posed
pub mod Fired
pub mod Answer
pub mod Held
pub mod Policy
pub mod Enough
