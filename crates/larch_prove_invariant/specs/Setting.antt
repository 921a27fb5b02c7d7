-- Names that are taken beside those of the theory's operators.
use Rattle.std.specs.Prelude.{ℕ, List, ◌++◌, map}
use Rattle.larch_methods.specs.ProveMeaningLevels.{Proof}
use Rattle.larch_methods.specs.ProvePlansPlanning.{names_of_operators}

-- the names of the constants of the block, and of what is in scope
abbrev pub names_beside : Proof → List (List ℕ)
names_beside p = names_of_operators p.constants ++ map (λ v. v.0) p.scope
