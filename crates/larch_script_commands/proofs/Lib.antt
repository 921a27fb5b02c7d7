pub mod TreeLists
pub mod Decided
