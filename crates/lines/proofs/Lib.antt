pub mod Bools
pub mod Equal
pub mod Lists
pub mod Names
pub mod Tables
pub mod Values
