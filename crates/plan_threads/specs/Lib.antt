pub mod Calls
pub mod Numbers
pub mod Pumps
pub mod Queues
pub mod Shelves
pub mod Turns
