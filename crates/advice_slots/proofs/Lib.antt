mod Derived
mod Loose
mod Changed
mod Looking
mod Standing
mod Items
mod Due
mod Arming
mod Lists
mod Turning
mod Names
pub mod Owned
