pub mod Codes
pub mod FirstElement
pub mod Spelled
