pub mod Kept
pub mod Waits
