pub mod NoSlack
pub mod Promised
pub mod Builds
