pub mod Aims
pub mod Call
pub mod CommandLine
pub mod Options
