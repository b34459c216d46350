mod Nodes
mod Stores
mod Identities
