-- What a proof is of.
use Rattle.std.specs.Prelude.{◌≡◌}
use Rattle.larch_prove_levels.specs.OrderPrecedenceRanked.{Ranked}
use Rattle.std.specs.Prelude.{ℕ, List}
use Rattle.larch_prove_levels.specs.ProveInvariantHolding.{theory_for}
use Rattle.larch_prove_levels.specs.ProveMeaningLevels.{Proof}
use Rattle.larch_term.specs.Statement.{IsStatementOver, IsWellSortedTheory}
use Rattle.larch_term.specs.declared.statement.Statement.{Statement}
use Rattle.larch_term.specs.declared.statement.Theory.{Theory}
use Rattle.larch_prove_levels.specs.TraitsItemsLaws.{NamesOwn}

-- the theory with the lemmas is well sorted, and so is the statement over it; a clause names the theory's operators
pub record IsProvable (t : Theory) (s : Statement) : Type 0 where
  pub theory : IsWellSortedTheory t
  pub statement : IsStatementOver t.operators s
  pub named : NamesOwn t.operators s

-- a proof is over a theory with the lemmas, with this precedence and limit
pub record IsOver (t : Theory) (ranks : List Ranked) (limit : ℕ) (p : Proof) : Type 0 where
  pub theory : theory_for p ≡ t
  pub ranks_are : p.ranks ≡ ranks
  pub limit_is : p.limit ≡ limit
