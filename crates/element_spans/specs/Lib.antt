pub mod Spans
pub mod Building
