pub mod Printed
pub mod Lists
