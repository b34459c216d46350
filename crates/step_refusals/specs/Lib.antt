pub mod Keyed
pub mod Places
