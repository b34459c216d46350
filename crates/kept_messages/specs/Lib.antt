pub mod Ways
pub mod Spelled
