-- The argument behind some others.
use Rattle.std.specs.Prelude.{◌≡◌, ◌+◌, ℕ, suc, List, [], ◌∷◌, ◌++◌, length, Option, Some, option_and_then, refl}
use Rattle.std.proofs.Common.{arith, ap, sym, subst, ◌∙◌}
use Rattle.larch_term.specs.Operator.{PlainOperator}
use Rattle.larch_term.specs.Place.{argument, at, put, put_in}
use Rattle.larch_term.specs.Tree.{Tree, app, more, forest_of}
use Rattle.larch_derive.specs.Predicates.{HasEquation}
use Rattle.larch_derive.specs.declared.builder.Builder.{Builder}

argument_behind : (done rest : List Tree) (t : Tree)
    → argument (forest_of (done ++ t ∷ rest)) (suc (length done)) ≡ Some t
argument_behind [] rest t = refl
argument_behind (d ∷ done) rest t = argument_behind done rest t

put_behind : (done rest : List Tree) (t u : Tree)
    → put_in (forest_of (done ++ t ∷ rest)) (suc (length done)) [] u ≡ forest_of (done ++ u ∷ rest)
put_behind [] rest t u = refl
put_behind (d ∷ done) rest t u = ap (more d) (put_behind done rest t u)

next_is : (n k : ℕ) → n ≡ k + 1 → n ≡ suc k
next_is n k e = omega (arith, e)

pub stands_at : (f : PlainOperator) (done rest : List Tree) (t : Tree) (n : ℕ) (q : List ℕ) → q ≡ n ∷ []
    → n ≡ length done + 1 → at (app f (forest_of (done ++ t ∷ rest))) q ≡ Some t
stands_at f done rest t n q p e =
    ap (at (app f (forest_of (done ++ t ∷ rest)))) (p ∙ ap (λ k. k ∷ []) (next_is n (length done) e))
    ∙ one (argument (forest_of (done ++ t ∷ rest)) (suc (length done))) (argument_behind done rest t)
  where
    one : {t : Tree} (o : Option Tree) → o ≡ Some t → option_and_then (λ u. at u []) o ≡ Some t
    one o h = ap (option_and_then (λ u. at u [])) h

pub changed_at : (b : Builder) (m n : ℕ) (q : List ℕ) (s t u : Tree) (f : PlainOperator) (done rest : List Tree)
    → q ≡ n ∷ [] → n ≡ length done + 1 → HasEquation b m s (put (app f (forest_of (done ++ t ∷ rest))) q u)
    → HasEquation b m s (app f (forest_of (done ++ u ∷ rest)))
changed_at b m n q s t u f done rest p e h =
    subst (HasEquation b m s)
    (ap (λ k. put (app f (forest_of (done ++ t ∷ rest))) k u) (p ∙ ap (λ k. k ∷ []) (next_is n (length done) e))
    ∙ ap (app f) (put_behind done rest t u)) h
