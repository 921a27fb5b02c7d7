pub mod Coded
pub mod CodedCode
pub mod CodedFalls
pub mod CodedItems
pub mod CodedListFalls
pub mod CodedView
pub mod SymbolCode
-- passed on to crates above, which then needn't list the crates that these are of
pub use Rattle.larch_term.specs.BaseByNumber as BaseByNumber
pub use Rattle.larch_term.specs.BaseWord as BaseWord
pub use Rattle.larch_term.specs.BuiltIn as TermBuiltIn
pub use Rattle.larch_term.specs.declared.built_in.BuiltIn as TermBuilt_inBuiltIn
pub use Rattle.larch_term.specs.Equality as TermEquality
pub use Rattle.larch_term.specs.Operator as TermOperator
pub use Rattle.larch_term.specs.OperatorKey as TermOperatorKey
pub use Rattle.larch_term.specs.Place as TermPlace
pub use Rattle.larch_term.specs.Sorts as TermSorts
pub use Rattle.larch_term.specs.Statement as TermStatement
pub use Rattle.larch_term.specs.declared.statement.Statement as TermStatementStatement
pub use Rattle.larch_term.specs.declared.statement.Theory as TermStatementTheory
pub use Rattle.larch_term.specs.Substitution as TermSubstitution
pub use Rattle.larch_term.specs.declared.substitution.Entry as TermSubstitutionEntry
pub use Rattle.larch_term.specs.Tree as TermTree
pub use Rattle.larch_term.specs.Truth as TermTruth
pub use Rattle.larch_term.specs.Variable as TermVariable
pub use Rattle.larch_term.specs.declared.variable.Variable as TermVariableVariable
