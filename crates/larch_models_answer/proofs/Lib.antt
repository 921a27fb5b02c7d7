pub mod Failing
pub mod Findings
