pub mod Cursors
pub mod Found
pub mod Hearing
pub mod Keys
pub mod Wanted
