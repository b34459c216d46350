mod Pieces
mod Apart
mod Ranks
