pub mod Named
pub mod Supposing
pub mod Asks
pub mod Codes
pub mod Ready
