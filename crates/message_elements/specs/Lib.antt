pub mod Types
pub mod Groups
pub mod Table
pub mod Values
pub mod Codes
pub mod Fixed
