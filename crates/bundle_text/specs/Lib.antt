pub mod Lines
pub mod Parts
pub mod Cutting
pub mod Answers
