pub mod Lowest
pub mod Papers
pub mod Outcome
pub mod Tables
