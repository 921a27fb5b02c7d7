-- What examples are written with, and the rules of the examples.
use Rattle.std.specs.Prelude.{ℕ, codes, List, [], ◌∷◌, ◌++◌}
use Rattle.std.specs.Fmt.{decimal, digits}
use Rattle.larch_term.specs.Operator.{plain}
use Rattle.larch_term.specs.OperatorKey.{same_operator}
use Rattle.larch_term.specs.Tree.{Tree, var, app, none, more}
use Rattle.larch_term.specs.declared.substitution.Entry.{Entry}
use Rattle.larch_pairs.specs.Unify.{unify, unify_from}
use Rattle.larch_pairs_critical.specs.Pairs.{critical_pairs, pair_at}
use Rattle.larch_pairs_critical.specs.declared.pair.Rule.{Rule}

-- all words that an example unfolds
unfoldable pub computing : Unit {0}
unfolding critical_pairs pair_at unify unify_from same_operator digits
computing = tt

-- the one sort
abbrev pub sort : List ℕ
sort = codes "S"

-- a variable of a rule, and one of a pair
abbrev pub variable : List ℕ → Tree
variable name = var name sort

abbrev pub v : ℕ → Tree
v k = variable (codes "v" ++ decimal k)

-- what takes the place of a variable of a rule
abbrev pub named_in : List ℕ → Tree → Entry
named_in name t = record { name = name; sort = sort; term = t }

abbrev of_one : List ℕ → Tree → Tree
of_one name t = app (record { name = plain name; domain = sort ∷ []; range = sort }) (more t none)

abbrev pub f : Tree → Tree
f = of_one (codes "f")

abbrev pub g : Tree → Tree
g = of_one (codes "g")

abbrev pub product : Tree → Tree → Tree
product t u =
    app (record { name = plain (codes "__ * __"); domain = sort ∷ sort ∷ []; range = sort }) (more t (more u none))

-- f(f(x)) -> g(x)
abbrev pub twice_f_is_g : Rule
twice_f_is_g = record { left = f (f (variable (codes "x"))); right = g (variable (codes "x")) }

-- (x * y) * z -> x * (y * z)
abbrev pub associative : Rule
associative =
    let x = variable (codes "x") in
    let y = variable (codes "y") in
    let z = variable (codes "z") in
    record { left = product (product x y) z; right = product x (product y z) }

-- f(g(x)) -> x
abbrev pub for_f_of_g : Rule
for_f_of_g = record { left = f (g (variable (codes "x"))); right = variable (codes "x") }

-- g(f(x)) -> x
abbrev pub for_g_of_f : Rule
for_g_of_f = record { left = g (f (variable (codes "x"))); right = variable (codes "x") }

-- f(x) -> c
abbrev pub to_constant : Rule
to_constant = record {
  left = f (variable (codes "x"));
  right = app (record { name = plain (codes "c"); domain = []; range = sort }) none;
}
