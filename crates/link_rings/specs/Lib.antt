pub mod Rings
pub mod Ends
pub mod Held
