pub mod Values
pub mod Walk
pub mod Tree
pub mod End
