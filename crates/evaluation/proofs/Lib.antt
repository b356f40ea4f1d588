pub mod Firing
pub mod Fired
pub mod Rounds
pub mod Entry
pub mod Atoms
pub mod Enough
