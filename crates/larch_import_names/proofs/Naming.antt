-- New names of operators.
use Rattle.std.proofs.Common.{◌≡◌, ℕ, ◌+◌, ◌<◌, Bool, true, false, cond}
use Rattle.std.proofs.Common.{List, [], ◌∷◌, ◌++◌, length, map, take, get_or}
use Rattle.std.proofs.Common.{Option, Some, None, refl, sym, ◌∙◌, ap}
use Rattle.std.specs.Prelude.{find}
use Rattle.std.proofs.lemmas.List.{map_more}
use Rattle.larch_term.proofs.BuiltIns.{is_built_in_Decides}
use Rattle.larch_term.specs.BuiltIn.{IsBuiltIn, is_built_in}
use Rattle.larch_term.specs.Equality.{same_operator}
use Rattle.larch_term.specs.Operator.{OperatorName, PlainOperator, plain, name_bytes}
use Rattle.larch_import_names.specs.Names.{name_by, new_name}
use Rattle.larch_import_names.specs.declared.pairs.OperatorPair.{OperatorPair}
use Rattle.larch_import_names.specs.declared.pairs.Renaming.{Renaming}

-- the pair for an operator
abbrev pair_for : Renaming → PlainOperator → Option OperatorPair
pair_for by f = find (λ p. same_operator p.old f) by.operators

pub own_stays : (by : Renaming) (f : PlainOperator) → IsBuiltIn f → f.name ≡ new_name by f
own_stays by f b =
    sym (ap (λ t. cond t f.name (name_by f.name (pair_for by f))) ((is_built_in_Decides f).1 b))

named_by : (by : Renaming) (f : PlainOperator) (b : Bool) → is_built_in f ≡ b → (IsBuiltIn f → ⊥)
    → new_name by f ≡ name_by f.name (pair_for by f)
named_by by f true e outside = absurd (outside ((is_built_in_Decides f).0 e))
named_by by f false e outside = ap (λ t. cond t f.name (name_by f.name (pair_for by f))) e

plain_stays : (n : List ℕ) (m : OperatorName) → plain n ≡ m → name_by m None ≡ m
plain_stays n m e = ap (λ k. name_by k None) (sym e) ∙ e

pub none_given : (by : Renaming) (f : PlainOperator) (n : List ℕ) → (IsBuiltIn f → ⊥) → plain n ≡ f.name
    → pair_for by f ≡ None → f.name ≡ new_name by f
none_given by f n outside e found =
    sym (named_by by f (is_built_in f) refl outside ∙ ap (name_by f.name) found ∙ plain_stays n f.name e)

plain_taken : (n : List ℕ) (m : OperatorName) (p : OperatorPair) (k : List ℕ) → plain n ≡ m → plain k ≡ p.new.name
    → name_by m (Some p) ≡ plain k
plain_taken n m p k e named =
    ap (λ j. name_by j (Some p)) (sym e) ∙ ap (λ j. plain (name_bytes j)) (sym named)

pub some_given : (by : Renaming) (f : PlainOperator) (p : OperatorPair) (n k : List ℕ) → (IsBuiltIn f → ⊥)
    → plain n ≡ f.name → pair_for by f ≡ Some p → plain k ≡ p.new.name → plain k ≡ new_name by f
some_given by f p n k outside e found named =
    sym (named_by by f (is_built_in f) refl outside ∙ ap (name_by f.name) found ∙ plain_taken n f.name p k e named)

-- one more item is as it should be
pub one_more : {X Y : Type 0} (f : X → Y) (held : List Y) (xs : List X) (i : ℕ) (x : X) (y : Y) → i < length xs
    → x ≡ get_or xs i x → y ≡ f x → held ≡ map f (take i xs) → held ++ y ∷ [] ≡ map f (take (i + 1) xs)
one_more f held xs i x y lt is made e =
    ap (λ ys. ys ++ y ∷ []) e ∙ ap (λ z. map f (take i xs) ++ z ∷ []) (made ∙ ap f is) ∙ sym (map_more f xs i x lt)
