pub mod App
pub mod Line
