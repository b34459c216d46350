pub mod Sums
mod Mapped
mod Lessened
mod Taken
mod Removed
mod Once
