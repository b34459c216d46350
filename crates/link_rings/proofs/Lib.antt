pub mod Parts
pub mod Popping
