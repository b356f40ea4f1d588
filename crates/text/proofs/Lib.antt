pub mod Put
pub mod Sizes
pub mod Value
