pub mod Books
pub mod Nodes
pub mod Advices
