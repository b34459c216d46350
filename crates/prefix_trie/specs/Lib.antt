pub mod Walk
pub mod Growth
pub mod Pairs
pub mod Index
