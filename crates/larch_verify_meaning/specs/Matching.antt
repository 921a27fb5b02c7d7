-- Tests that rules share.
use Rattle.std.specs.Prelude.{ℕ, ◌&&◌, not, Bool, true, false, List, [], ◌∷◌, map, bytes_eq, Option, Some, None}
use Rattle.std.specs.List.{list_all, list_any}
use Rattle.std.specs.Cmp.Lexicographic.{pointwise}
use Rattle.larch_certificate.specs.TermEquality.{same_statement}
use Rattle.larch_certificate.specs.TermPlace.{at}
use Rattle.larch_certificate.specs.TermTree.{Tree, var, app}
use Rattle.larch_certificate.specs.TermVariable.{occurrences, same_variable}
use Rattle.larch_certificate.specs.TermStatementStatement.{Statement}
use Rattle.larch_certificate.specs.TermVariableVariable.{Variable}
use Rattle.larch_certificate.specs.declared.line.BoxPart.{BoxPart}
use Rattle.larch_certificate.specs.declared.line.CodedVar.{CodedVar}
use Rattle.larch_verify_meaning.specs.Events.{PlainBox}

-- whether a list is empty
abbrev pub is_empty : {X : Type 0} → List X → Bool
is_empty [] = true
is_empty (x ∷ xs) = false

-- whether two lists have the same statements in the same order
abbrev pub same_statements : List Statement → List Statement → Bool
same_statements ss rs = pointwise same_statement ss rs

-- a written variable
abbrev pub variable_of : CodedVar → Variable
variable_of v = record { name = v.name; sort = v.sort }

-- whether no variable stands twice
abbrev pub all_different : List Variable → Bool
all_different [] = true
all_different (v ∷ vs) = not (list_any (same_variable v) vs) && all_different vs

-- whether a variable occurs in a term
abbrev pub occurs_in : Tree → Variable → Bool
occurs_in t v = list_any (same_variable v) (occurrences t)

-- whether no variable stands twice, and none occurs in one of two terms
abbrev pub are_apart : List Variable → Tree → Tree → Bool
are_apart vs l r = all_different vs && list_all (λ v. not (occurs_in l v) && not (occurs_in r v)) vs

-- the name of a variable, where a term is one
abbrev pub variable_name : Option Tree → List ℕ
variable_name None = []
variable_name (Some (var n s)) = n
variable_name (Some (app f ts)) = []

-- the name of the variable that is the argument with a number
abbrev pub argument_name : Tree → ℕ → List ℕ
argument_name t k = variable_name (at t (k ∷ []))

-- whether the parts of a box are constants of these sorts, in order
abbrev pub has_constants : PlainBox → List (List ℕ) → Bool
has_constants b sorts = list_all (λ p. not p.predicate) b.parts && pointwise bytes_eq (map (λ p. p.sort) b.parts) sorts

-- whether the only part is a predicate on a sort
abbrev pub is_predicate_on : List ℕ → List BoxPart → Bool
is_predicate_on s [] = false
is_predicate_on s (p ∷ []) = p.predicate && bytes_eq p.sort s
is_predicate_on s (p ∷ q ∷ ps) = false
