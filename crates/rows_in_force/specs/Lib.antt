pub mod InForce
pub mod Own
pub mod Kept
pub mod LinkEnds
