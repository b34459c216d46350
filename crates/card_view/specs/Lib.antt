pub mod View
pub mod Listed
pub mod Answers
