-- The one operator that a reference names.
use Rattle.std.specs.Prelude.{List, [], ◌∷◌, Option, None, Some}
use Rattle.larch_term.specs.Operator.{PlainOperator}

-- the only one of operators, if there is just one
abbrev pub only_one : List PlainOperator → Option PlainOperator
only_one [] = None
only_one (f ∷ []) = Some f
only_one (f ∷ g ∷ fs) = None

-- one or none as a list
abbrev pub as_list : {A : Type 0} → Option A → List A
as_list None = []
as_list (Some x) = x ∷ []
