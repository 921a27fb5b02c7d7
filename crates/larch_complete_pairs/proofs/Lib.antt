pub mod PairEntries
pub mod Waiting
