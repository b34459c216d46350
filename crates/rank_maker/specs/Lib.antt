pub mod Adding
pub mod Circle
pub mod Longest
