-- What is in words: where the names of variables and all sorts are words, lines have texts.
use Rattle.std.specs.Prelude.{List, All}
use Rattle.larch_term.specs.Operator.{PlainOperator}
use Rattle.larch_term.specs.Tree.{Tree, Forest, var, app, none, more}
use Rattle.larch_term.specs.declared.statement.Statement.{Statement}
use Rattle.larch_term.specs.declared.statement.Statement.TheVariants.{Equation, Generated, Partitioned}
use Rattle.larch_term.specs.declared.statement.Theory.{Theory}
use Rattle.larch_certificate_text.specs.LineText.{IsWord}
use Rattle.larch_certificate_text.specs.Parts.{Each}

-- the sorts of the operator are words
abbrev pub IsWordedOperator : PlainOperator → Type 0
IsWordedOperator f = Each IsWord f.domain × IsWord f.range

-- those of each operator are
abbrev pub AreWordedOperators : List PlainOperator → Type 0
AreWordedOperators fs = All IsWordedOperator fs

abbrev mutual
  -- the names of variables and the sorts in the term are words
  pub IsWordedTerm : Tree → Type 0
  IsWordedTerm (var n s) = IsWord n × IsWord s
  IsWordedTerm (app f ts) = IsWordedOperator f × AreWordedTerms ts

  pub AreWordedTerms : Forest → Type 0
  AreWordedTerms none = Unit {0}
  AreWordedTerms (more t ts) = IsWordedTerm t × AreWordedTerms ts

-- the names of variables and the sorts in the statement are words
abbrev pub IsWordedStatement : Statement → Type 0
IsWordedStatement (Equation l r) = IsWordedTerm l × IsWordedTerm r
IsWordedStatement (Generated s fs) = IsWord s × AreWordedOperators fs
IsWordedStatement (Partitioned s fs) = IsWord s × AreWordedOperators fs

-- so they are in each statement
abbrev pub AreWordedStatements : List Statement → Type 0
AreWordedStatements ss = All IsWordedStatement ss

-- the sorts of the theory's operators are words, and so are the names of variables and the sorts in its statements
abbrev pub IsWordedTheory : Theory → Type 0
IsWordedTheory t = AreWordedOperators t.operators × AreWordedStatements t.statements
