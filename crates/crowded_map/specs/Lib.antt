pub mod Values
pub mod Counts
pub mod Sets
pub mod Hashed
