pub mod NamedSorts
pub mod Places
