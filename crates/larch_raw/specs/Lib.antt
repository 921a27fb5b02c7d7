pub mod RawCode
pub mod RawFalls
pub mod RawListFalls
pub mod RawTree
pub mod RawView
pub mod Worded
