pub mod Reaching
pub mod Same
pub mod Longest
pub mod Rows
pub mod Walking
