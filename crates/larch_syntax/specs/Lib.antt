pub mod Hand
pub mod Implied
pub mod Read
pub mod Refusal
pub mod Refused
