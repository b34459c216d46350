pub mod Printed
pub mod Parts
pub mod Lines
pub mod Labels
pub mod Room
