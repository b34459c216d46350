pub mod Codes
pub mod Asks
pub mod Fresh
pub mod Loads
pub mod Packets
pub mod Few
pub mod Ticks
