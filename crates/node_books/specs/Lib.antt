pub mod Values
pub mod Ways
pub mod Effects
