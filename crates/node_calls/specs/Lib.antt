pub mod Inputs
pub mod Making
pub mod Outputs
pub mod Steps
