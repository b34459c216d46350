pub mod Exports
pub mod Messages
pub mod Nodes
pub mod Writing
