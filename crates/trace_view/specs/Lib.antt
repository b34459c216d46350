pub mod Faults
pub mod Lines
pub mod Packets
pub mod Words
pub mod Rows
pub mod Inputs
pub mod Table
pub mod Answers
