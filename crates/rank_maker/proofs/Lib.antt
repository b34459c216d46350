mod Added
mod Around
