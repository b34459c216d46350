pub mod Each
pub mod Rows
pub mod Reading
pub mod Plain
pub mod Masks
