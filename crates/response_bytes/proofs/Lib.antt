pub mod PieceLengths
pub mod Steps
pub mod Bits
pub mod Whole
