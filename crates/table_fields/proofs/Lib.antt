mod KeyLemmas
mod Pairs
