pub mod Rows
pub mod Found
pub mod Known
pub mod Here
