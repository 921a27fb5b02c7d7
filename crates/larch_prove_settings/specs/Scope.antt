-- Variables in scope, one by one.
use Rattle.std.specs.Prelude.{◌≡◌, ℕ, List, [], map}
use Rattle.larch_prove_meaning.specs.Steps.{with_all_new}
use Rattle.larch_sorts_meaning.specs.Scope.{Variables}
use Rattle.larch_term.specs.declared.variable.Variable.{Variable}

-- a variable as a pair of its name and its sort
abbrev pub pair_of : Variable → List ℕ × List ℕ
pair_of v = (v.name, v.sort)

-- put into scope one by one, variables stay as they are: each name is there once
abbrev pub AreNewInTurn : Variables → Type 0
AreNewInTurn scope = with_all_new [] scope ≡ scope

-- these are the variables in scope, in order, and each name is there once
abbrev pub AreInOrder : List Variable → Variables → Type 0
AreInOrder vs scope = (map pair_of vs ≡ scope) × AreNewInTurn scope
