-- Where nothing is replaced, nothing changes.
use Rattle.std.proofs.Common.{◌≡◌, ℕ, List, [], ◌∷◌, map, length, refl, ◌∙◌, ap, arith}
use Rattle.larch_term.specs.Operator.{PlainOperator}
use Rattle.larch_term.specs.declared.statement.Statement.{Statement}
use Rattle.larch_renaming.specs.Renaming.{renamed_statement, no_renaming}
use Rattle.larch_renaming.proofs.RenamedStatements.{statement_alike, statement_unchanged}
use Rattle.larch_flat_meaning.specs.Replacements.{new_operator, none_replaced, renaming}
use Rattle.larch_flat_replacing.specs.Kept.{these}

map_itself : {X : Type 0} (xs : List X) → map (λ x. x) xs ≡ xs
map_itself [] = refl
map_itself (x ∷ xs) = ap (λ ys. x ∷ ys) (map_itself xs)

pub nothing_new : (f : PlainOperator) → new_operator none_replaced f ≡ f
nothing_new f = λ i. record { name = f.name; domain = map_itself f.domain i; range = f.range }

pub nothing_renamed : (s : Statement) → renamed_statement (renaming none_replaced) s ≡ s
nothing_renamed s =
    statement_alike (renaming none_replaced) no_renaming (record { sorts = λ z. refl; operators = nothing_new }) s
    ∙ statement_unchanged s

-- with two empty lists nothing is replaced
pub both_empty : (sorts : List (List ℕ × List ℕ)) (operators : List (PlainOperator × List ℕ)) → length sorts ≡ 0
    → length operators ≡ 0
    → these sorts operators ≡ none_replaced
both_empty [] [] d e = refl
both_empty [] (f ∷ fs) d e = absurd (omega arith)
both_empty (s ∷ ss) fs d e = absurd (omega arith)
