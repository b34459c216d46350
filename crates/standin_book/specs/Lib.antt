pub mod Sums
pub mod Approvals
pub mod Lending
pub mod Limits
