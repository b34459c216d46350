pub mod Parts
pub mod Spaces
pub mod Tables
