-- What laws say of traits as they are written, and of what they present.
use Rattle.std.specs.Prelude.{List, All, Contains}
use Rattle.larch_base_meaning.specs.Word.{IsWord}
use Rattle.larch_raw.specs.declared.declared.RawDecl.{RawDecl}
use Rattle.larch_raw.specs.declared.equation.RawItem.{RawItem}
use Rattle.larch_raw.specs.declared.equation.RawItem.TheVariants.{Clause, Equations}
use Rattle.larch_term.specs.Operator.{PlainOperator}
use Rattle.larch_term.specs.declared.statement.Statement.{Statement}
use Rattle.larch_term.specs.declared.statement.Statement.TheVariants.{Equation, Generated, Partitioned}

-- a clause names only these operators
abbrev pub NamesOwn : List PlainOperator → Statement → Type 0
NamesOwn fs (Equation l r) = Unit {0}
NamesOwn fs (Generated s gs) = All (Contains fs) gs
NamesOwn fs (Partitioned s gs) = All (Contains fs) gs

-- the sorts of a declaration are words
abbrev pub DeclaresWords : RawDecl → Type 0
DeclaresWords decl = All (λ w. IsWord w.name) decl.sig.domain × IsWord decl.sig.range.name

-- the variables of an item are words
abbrev pub BindsWords : RawItem → Type 0
BindsWords (Clause kind sort refs) = Unit {0}
BindsWords (Equations variables equations) = All (λ v. IsWord v.name.name) variables
