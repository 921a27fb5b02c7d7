pub mod Failing
pub mod Judgements
