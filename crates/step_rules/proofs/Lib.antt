pub mod Values
pub mod CardsRead
pub mod Between
pub mod Present
