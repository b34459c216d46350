pub mod Prefixes
pub mod Places
pub mod Corners
pub mod Pictured
