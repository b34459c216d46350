pub mod Lookups
pub mod Keys
pub mod ByHash
