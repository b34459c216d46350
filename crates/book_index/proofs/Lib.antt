pub mod Telling
pub mod Holding
pub mod Texts
pub mod Identities
