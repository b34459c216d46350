pub mod Outputs
pub mod SoFar
pub mod Used
pub mod Failures
pub mod Held
pub mod Acting
