pub mod Shown
pub mod Refused
pub mod Made
pub mod Answers
