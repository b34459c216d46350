pub mod Like
pub mod Reading
pub mod Words
pub mod Writing
