mod Blanks
mod Strings
mod Numbers
mod Headers
pub mod Ahead
pub mod Keys
pub mod Members
pub mod Documents
pub mod Pairs
pub mod Found
pub mod Texts
