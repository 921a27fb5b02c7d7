-- The operators that every theory has.
use Rattle.std.specs.Prelude.{◌≡◌, ℕ, ◌-◌, Bool, List, [], ◌∷◌, length, get_or, codes}
use Rattle.std.specs.List.{list_any}
use Rattle.larch_term.specs.OperatorKey.{same_operator}
use Rattle.larch_term.specs.Operator.{PlainOperator, plain}
use Rattle.larch_term.specs.declared.built_in.BuiltIn.{BuiltIn}
use Rattle.larch_term.specs.declared.built_in.BuiltIn.TheVariants.{True, False, Not, And, Or, Implies, Iff}
use Rattle.larch_term.specs.declared.built_in.BuiltIn.TheVariants.{Equal, Unequal, If}

-- the sort of truth values
abbrev pub bool_sort : List ℕ
bool_sort = codes "Bool"

-- the canonical name of a built-in operator
abbrev pub built_in_name : BuiltIn → List ℕ
built_in_name True = codes "true"
built_in_name False = codes "false"
built_in_name Not = codes "~ __"
built_in_name And = codes "__ /\\ __"
built_in_name Or = codes "__ \\/ __"
built_in_name Implies = codes "__ => __"
built_in_name Iff = codes "__ <=> __"
built_in_name Equal = codes "__ = __"
built_in_name Unequal = codes "__ ~= __"
built_in_name If = codes "if __ then __ else __"

-- its domain, at a sort: equality, inequality and choice are there for each sort, the others over Bool alone
abbrev pub built_in_domain : BuiltIn → List ℕ → List (List ℕ)
built_in_domain True s = []
built_in_domain False s = []
built_in_domain Not s = bool_sort ∷ []
built_in_domain And s = bool_sort ∷ bool_sort ∷ []
built_in_domain Or s = bool_sort ∷ bool_sort ∷ []
built_in_domain Implies s = bool_sort ∷ bool_sort ∷ []
built_in_domain Iff s = bool_sort ∷ bool_sort ∷ []
built_in_domain Equal s = s ∷ s ∷ []
built_in_domain Unequal s = s ∷ s ∷ []
built_in_domain If s = bool_sort ∷ s ∷ s ∷ []

-- its range, at a sort: that of a choice is the sort, any other is Bool
abbrev pub built_in_range : BuiltIn → List ℕ → List ℕ
built_in_range True s = bool_sort
built_in_range False s = bool_sort
built_in_range Not s = bool_sort
built_in_range And s = bool_sort
built_in_range Or s = bool_sort
built_in_range Implies s = bool_sort
built_in_range Iff s = bool_sort
built_in_range Equal s = bool_sort
built_in_range Unequal s = bool_sort
built_in_range If s = s

-- a built-in operator at a sort
abbrev pub built_in : BuiltIn → List ℕ → PlainOperator
built_in b s = record { name = plain (built_in_name b); domain = built_in_domain b s; range = built_in_range b s }

-- the operator is this built-in one at some sort
abbrev pub IsBuiltInAs : BuiltIn → PlainOperator → Type 0
IsBuiltInAs b f = (s : List ℕ) × (f ≡ built_in b s)

-- the operator is a built-in one
abbrev pub IsBuiltIn : PlainOperator → Type 0
IsBuiltIn f = (b : BuiltIn) × IsBuiltInAs b f

-- the built-in operators, equality, inequality and choice standing for those at each sort
abbrev pub built_ins : List BuiltIn
built_ins = True ∷ False ∷ Not ∷ And ∷ Or ∷ Implies ∷ Iff ∷ Equal ∷ Unequal ∷ If ∷ []

-- whether an operator is this built-in one; its sort could only be the last of its domain
abbrev pub is_built_in_as : PlainOperator → BuiltIn → Bool
is_built_in_as f b = same_operator f (built_in b (get_or f.domain (length f.domain - 1) []))

-- whether an operator is a built-in one
unfoldable pub is_built_in : PlainOperator → Bool
is_built_in f = list_any (is_built_in_as f) built_ins
