pub mod Lookups
pub mod Walks
pub mod Written
