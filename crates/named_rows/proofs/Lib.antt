pub mod Entries
pub mod Taken
pub mod Places
pub mod Sets
pub mod Pushed
pub mod Again
pub mod Masks
