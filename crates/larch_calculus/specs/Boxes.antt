-- Constants of boxes: names that a theory doesn't have yet.
use Rattle.std.specs.Prelude.{◌≤◌, ℕ, suc, List, [], ◌∷◌, All}
use Rattle.larch_term.specs.Operator.{OperatorName, PlainOperator, plain, boxed}
use Rattle.larch_term.specs.Tree.{Tree, Forest, var, app, none, more}
use Rattle.larch_term.specs.declared.statement.Statement.{Statement}
use Rattle.larch_term.specs.declared.statement.Statement.TheVariants.{Equation, Generated, Partitioned}
use Rattle.larch_term.specs.declared.statement.Theory.{Theory}

-- the constants of a box, one of each of these sorts; the first has a number
abbrev pub constants_from : ℕ → ℕ → List (List ℕ) → List PlainOperator
constants_from b k [] = []
constants_from b k (s ∷ ss) = record { name = boxed b k; domain = []; range = s } ∷ constants_from b (suc k) ss

-- the name is bytes, or of a box with this number at most
abbrev pub IsOlderName : ℕ → OperatorName → Type 0
IsOlderName b (plain n) = Unit {0}
IsOlderName b (boxed c k) = c ≤ b

-- all constants of boxes among the theory's operators are of boxes with this number at most
abbrev pub IsOlder : ℕ → Theory → Type 0
IsOlder b t = All (λ f. IsOlderName b f.name) t.operators

abbrev mutual
  -- all constants of boxes in the term are so
  pub IsOlderTerm : ℕ → Tree → Type 0
  IsOlderTerm b (var n s) = Unit {0}
  IsOlderTerm b (app f ts) = IsOlderName b f.name × AreOlderTerms b ts

  pub AreOlderTerms : ℕ → Forest → Type 0
  AreOlderTerms b none = Unit {0}
  AreOlderTerms b (more t ts) = IsOlderTerm b t × AreOlderTerms b ts

-- all constants of boxes in the statement are so
abbrev pub IsOlderStatement : ℕ → Statement → Type 0
IsOlderStatement b (Equation l r) = IsOlderTerm b l × IsOlderTerm b r
IsOlderStatement b (Generated s fs) = All (λ f. IsOlderName b f.name) fs
IsOlderStatement b (Partitioned s fs) = All (λ f. IsOlderName b f.name) fs
