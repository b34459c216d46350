pub mod Messages
pub mod Parts
pub mod Few
pub mod Requested
pub mod Stays
pub mod Coming
pub mod Complete
