-- The built-in operators at sorts.
use Rattle.std.specs.Prelude.{ℕ, List, [], ◌∷◌, ◌++◌, map}
use Rattle.larch_term.specs.BuiltIn.{built_in, bool_sort}
use Rattle.larch_term.specs.Operator.{PlainOperator}
use Rattle.larch_term.specs.declared.built_in.BuiltIn.{BuiltIn}
use Rattle.larch_term.specs.declared.built_in.BuiltIn.TheVariants.{True, False, Not, And, Or, Implies, Iff}
use Rattle.larch_term.specs.declared.built_in.BuiltIn.TheVariants.{Equal, Unequal, If}

-- the built-in operators over Bool alone
abbrev pub propositional : List BuiltIn
propositional = True ∷ False ∷ Not ∷ And ∷ Or ∷ Implies ∷ Iff ∷ []

-- the built-in operators at sorts: those over Bool alone, and equality, inequality and choice at each
abbrev pub built_ins_at : List (List ℕ) → List PlainOperator
built_ins_at sorts =
    map (λ b. built_in b bool_sort) propositional
    ++ (map (built_in Equal) sorts ++ (map (built_in Unequal) sorts ++ map (built_in If) sorts))
