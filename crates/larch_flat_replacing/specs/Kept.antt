-- What is kept of replacements so that each is found at once.
use Rattle.std.specs.Prelude.{◌≡◌, ℕ, List, [], ◌∷◌, IfSome, refl}
use Rattle.std.specs.Coded.{Coded, code_by, coded×, coded_ℕ, coded_list}
use Rattle.std.specs.Map.{lookup}
use Rattle.larch_term.specs.BuiltIn.{bool_sort, built_in}
use Rattle.larch_term.specs.Equality.{same_operator}
use Rattle.larch_term.specs.Operator.{PlainOperator, coded_operator}
use Rattle.larch_term.specs.declared.built_in.BuiltIn.TheVariants.{True, False}
use Rattle.larch_flat_meaning.specs.Replacements.{Replacements, new_operator}

-- the replacements of two lists
abbrev pub these : List (List ℕ × List ℕ) → List (PlainOperator × List ℕ) → Replacements
these sorts operators = record { sorts = sorts; operators = operators }

abbrev text : Coded (List ℕ)
text = coded_list coded_ℕ

-- replacements are told apart by their lists
abbrev pub coded_replacements : Coded Replacements
coded_replacements =
    code_by (List (List ℕ × List ℕ) × List (PlainOperator × List ℕ))
    (coded× (coded_list (coded× text text)) (coded_list (coded× coded_operator text)))
    (λ by. (by.sorts, by.operators)) (λ p. record { sorts = p.0; operators = p.1 }) (λ _. refl)

-- each operator is found in an index as in a list
abbrev pub FindsAs : List (PlainOperator × List ℕ) → List (PlainOperator × List ℕ) → Type 0
FindsAs index list = (f : PlainOperator) → lookup (same_operator f) index ≡ lookup (same_operator f) list

-- what is kept for an operator is the one in its place
abbrev pub KeepsNew : Replacements → List (PlainOperator × PlainOperator) → Type 0
KeepsNew by kept = (f : PlainOperator) → IfSome (lookup (same_operator f) kept) (λ g. g ≡ new_operator by f)

-- the truth values
abbrev pub both_truth_values : List PlainOperator
both_truth_values = built_in True bool_sort ∷ built_in False bool_sort ∷ []
