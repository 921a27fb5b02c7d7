pub mod Arguments
pub mod BuiltIn
pub mod BuiltInNames
pub mod Equality
pub mod Operator
pub mod OperatorKey
pub mod OperatorView
pub mod Place
pub mod Sorts
pub mod Statement
pub mod Substitution
pub mod TermFalls
pub mod TermView
pub mod Tree
pub mod TreeCode
pub mod TreeFalls
pub mod Truth
pub mod Variable
-- passed on to crates above, which then needn't list the crates that these are of
pub use Rattle.larch_base.specs.ByNumber as BaseByNumber
pub use Rattle.larch_base.specs.declared.limits.TheConstants as BaseLimitsTheConstants
pub use Rattle.larch_base.specs.Word as BaseWord
