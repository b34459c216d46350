pub mod Plain
pub mod Hops
pub mod Values
