-- How the sides of an equality are exchanged by a line.
use Rattle.std.specs.Prelude.{◌≡◌, ℕ, List, [], ◌∷◌, codes}
use Rattle.larch_term.specs.Tree.{Tree, var, app, none, more}
use Rattle.larch_term.specs.Operator.{PlainOperator}
use Rattle.larch_term.specs.declared.substitution.Entry.{Entry}
use Rattle.larch_rewrite_match.specs.RewriteMeaningRewriting.{sort_at}

-- the substitution that makes of an equality of two variables the one of two terms
abbrev pub pair_at : List ℕ → Tree → Tree → List Entry
pair_at z s t = record { name = codes "a"; sort = z; term = s } ∷ record { name = codes "b"; sort = z; term = t } ∷ []

-- a substitution at a sort makes of an equality of two variables that of a term's two arguments, exchanged
abbrev pub IsExchange : Tree → List ℕ → List Entry → Type 0
IsExchange l z es =
    (f : PlainOperator) (s t : Tree) → l ≡ app f (more s (more t none)) → (z ≡ sort_at f) × (es ≡ pair_at z t s)
