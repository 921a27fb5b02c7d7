pub mod Boxes
pub mod Derivable
pub mod Example
pub mod Formula
pub mod Freed
pub mod Generation
pub mod Identity
pub mod Induction
pub mod Letters
pub mod Observation
pub mod Renaming
pub mod Theories
-- passed on to crates above, which then needn't list the crates that these are of
pub use Rattle.larch_term.specs.BaseByNumber as BaseByNumber
pub use Rattle.larch_renaming.specs.Renaming as RenamingRenaming
pub use Rattle.larch_term.specs.BuiltIn as TermBuiltIn
pub use Rattle.larch_term.specs.declared.built_in.BuiltIn as TermBuilt_inBuiltIn
pub use Rattle.larch_term.specs.Operator as TermOperator
pub use Rattle.larch_term.specs.Sorts as TermSorts
pub use Rattle.larch_term.specs.Statement as TermStatement
pub use Rattle.larch_term.specs.declared.statement.Statement as TermStatementStatement
pub use Rattle.larch_term.specs.declared.statement.Theory as TermStatementTheory
pub use Rattle.larch_term.specs.Substitution as TermSubstitution
pub use Rattle.larch_term.specs.declared.substitution.Entry as TermSubstitutionEntry
pub use Rattle.larch_term.specs.Tree as TermTree
pub use Rattle.larch_term.specs.Truth as TermTruth
