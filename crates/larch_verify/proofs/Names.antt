-- Names that are bytes.
use Rattle.std.proofs.Common.{◌≡◌, ◌<◌, ◌+◌, ℕ, List, [], ◌∷◌, ◌++◌, length, take, get_or, All, sym, ◌∙◌, ap, subst}
use Rattle.std.proofs.lemmas.List.{take_more}
use Rattle.std.proofs.lemmas.List.Elements.{All-push}
use Rattle.larch_term.specs.Operator.{OperatorName, PlainOperator, plain, boxed}
use Rattle.larch_calculus.specs.Renaming.{IsPlainName}

named_plain : (n : List ℕ) (m : OperatorName) → plain n ≡ m → IsPlainName m
named_plain n (plain k) e = tt
named_plain n (boxed b k) e = cc

-- one operator more
pub names_step : (fs : List PlainOperator) (i : ℕ) (f : PlainOperator) (n : List ℕ) → i < length fs → f ≡ get_or fs i f
    → plain n ≡ f.name → All (λ g. IsPlainName g.name) (take i fs) → All (λ g. IsPlainName g.name) (take (i + 1) fs)
names_step fs i f n lt is e h =
    subst (All (λ g. IsPlainName g.name)) (sym (take_more fs i f lt ∙ ap (λ y. take i fs ++ y ∷ []) (sym is)))
    (All-push (λ g. IsPlainName g.name) (take i fs) f h (named_plain n f.name e))
