-- What an enumeration stands for.
use Rattle.std.specs.Prelude.{ℕ, List, [], ◌∷◌, ◌++◌, map, codes}
use Rattle.larch_term.specs.BuiltIn.{built_in}
use Rattle.larch_term.specs.Operator.{PlainOperator}
use Rattle.larch_term.specs.Truth.{truth}
use Rattle.larch_term.specs.declared.built_in.BuiltIn.TheVariants.{Unequal}
use Rattle.larch_term.specs.declared.statement.Statement.{Statement}
use Rattle.larch_term.specs.declared.statement.Statement.TheVariants.{Equation, Generated}
use Rattle.larch_shorthand.specs.Operators.{operator, constant, on, on_two}
use Rattle.larch_shorthand.specs.declared.expansion.Expansion.{Expansion}

-- the constants of a sort with these names
abbrev pub elements : List ℕ → List (List ℕ) → List PlainOperator
elements sort names = map (λ n. operator n [] sort) names

-- the operator from each element to the next
abbrev pub successor : List ℕ → PlainOperator
successor sort = operator (codes "succ") (sort ∷ []) sort

-- the operators of an enumeration
abbrev pub enumeration_operators : List ℕ → List (List ℕ) → List PlainOperator
enumeration_operators sort names = elements sort names ++ successor sort ∷ []

-- two elements differ
abbrev pub differ : PlainOperator → PlainOperator → PlainOperator → Statement
differ unequal a b = Equation (on_two unequal (constant a) (constant b)) truth

-- each two elements differ: the first of all from each behind it, and so on
abbrev pub all_differ : PlainOperator → List PlainOperator → List Statement
all_differ unequal [] = []
all_differ unequal (a ∷ bs) = map (differ unequal a) bs ++ all_differ unequal bs

-- an element is followed by another one
abbrev pub following_statement : PlainOperator → PlainOperator → PlainOperator → Statement
following_statement succ a b = Equation (on succ (constant a)) (constant b)

-- an element is followed by the first of those behind it, that by the next, and so on
abbrev pub followed_from : PlainOperator → PlainOperator → List PlainOperator → List Statement
followed_from succ a [] = []
followed_from succ a (b ∷ bs) = following_statement succ a b ∷ followed_from succ b bs

-- each element but the last is followed by the next
abbrev pub all_followed : PlainOperator → List PlainOperator → List Statement
all_followed succ [] = []
all_followed succ (a ∷ bs) = followed_from succ a bs

-- what is stated of the elements of a sort: they generate it, differ, and follow one another
abbrev pub enumeration_statements : List ℕ → List PlainOperator → List Statement
enumeration_statements sort fs =
    Generated sort fs ∷ (all_differ (built_in Unequal sort) fs ++ all_followed (successor sort) fs)

-- an enumeration of a sort with these names
abbrev pub enumeration : List ℕ → List (List ℕ) → Expansion
enumeration sort names =
    record {
      operators = enumeration_operators sort names;
      statements = enumeration_statements sort (elements sort names);
    }
