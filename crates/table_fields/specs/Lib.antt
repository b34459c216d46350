pub mod Words
pub mod Values
pub mod Faults
pub mod Fields
pub mod Shapes
