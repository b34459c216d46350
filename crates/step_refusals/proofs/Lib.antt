pub mod Lends
pub mod Loads
pub mod Present
pub mod Entered
pub mod Roomy
