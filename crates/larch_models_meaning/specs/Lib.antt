pub mod Computed
pub mod Examples
pub mod FiniteModel
pub mod Interpretation
pub mod ModelText
pub mod Models
pub mod Standard
