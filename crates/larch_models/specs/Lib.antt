pub mod Answers
pub mod Clauses
pub mod Every
pub mod Reading
pub mod Stacks
pub mod Tables
