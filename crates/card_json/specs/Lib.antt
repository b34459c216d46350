pub mod CardJson
pub mod Answers
