pub mod Found
pub mod Going
pub mod Holding
pub mod Stating
