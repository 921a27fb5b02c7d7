pub mod Cases
pub mod Inductions
pub mod Variables
