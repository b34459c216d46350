mod Counting
mod Due
mod Exact
mod Found
mod Leaving
mod Listing
mod Lists
pub mod Located
mod Waiting
