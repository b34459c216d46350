pub mod Stepped
pub mod Starts
pub mod Reading
