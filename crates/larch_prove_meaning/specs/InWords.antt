-- What is in words: the names of variables and all sorts.
use Rattle.std.specs.Prelude.{All}
use Rattle.larch_term.specs.Tree.{Tree}
use Rattle.larch_term.specs.Variable.{occurrences}
use Rattle.larch_term.specs.declared.statement.Statement.{Statement}
use Rattle.larch_sorts_meaning.specs.Laws.{OperatorSorts, StatementSorts, StatementVariables, TermSorts}
use Rattle.larch_sorts_meaning.specs.Scope.{Variables}
use Rattle.larch_base_meaning.specs.Word.{IsWord}
use Rattle.larch_prove_meaning.specs.Levels.{Proof}
use Rattle.larch_prove_meaning.specs.Steps.{own_operators}

-- the names of a term's variables and the sorts in it are words
abbrev pub IsTermInWords : Tree → Type 0
IsTermInWords t = TermSorts IsWord t × All (λ v. IsWord v.name) (occurrences t)

-- the same of a statement
abbrev pub IsStatementInWords : Statement → Type 0
IsStatementInWords s = StatementSorts IsWord s × StatementVariables IsWord s

-- variables and their sorts are words
abbrev pub AreVariablesInWords : Variables → Type 0
AreVariablesInWords vs = All (λ v. IsWord v.0 × IsWord v.1) vs

-- what the commands of a proof can name is in words: the sorts of the theory's operators and of the block's constants,
-- and the variables in scope
abbrev pub NamesWords : Proof → Type 0
NamesWords p = All (OperatorSorts IsWord) (own_operators p) × AreVariablesInWords p.scope
