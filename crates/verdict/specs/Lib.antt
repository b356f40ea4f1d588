pub mod Told
pub mod Trial
