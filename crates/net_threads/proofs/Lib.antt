pub mod Sends
pub mod Pumps
pub mod Sofar
pub mod Standing
