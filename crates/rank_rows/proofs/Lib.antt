mod GreatestName
mod Growing
mod ByName
pub mod Pairs
pub mod Repeated
mod Marked
