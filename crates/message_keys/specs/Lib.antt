pub mod Keys
pub mod Amounts
