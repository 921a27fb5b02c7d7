-- Variables in the places of constants have the values that the constants are given.
use Rattle.std.proofs.Common.{◌≡◌, ℕ, List, [], ◌∷◌, map, Option, Some, None, option_map, option_and_then, unwrap_or}
use Rattle.std.proofs.Common.{refl, sym, ◌∙◌, ap}
use Rattle.std.specs.List.{slice_get}
use Rattle.std.proofs.lemmas.Option.{slice_get-map}
use Rattle.larch_term.specs.Operator.{PlainOperator}
use Rattle.larch_term.specs.Tree.{Tree, Forest, var, app, none, more}
use Rattle.larch_term.specs.declared.variable.Variable.{Variable}
use Rattle.larch_calculus.specs.Freed.{place_of, variable_for, free_constants, freed_all}
use Rattle.larch_models_meaning.specs.Interpretation.{Interpretation, Assignment, value_of, values_of, Within, InRange}
use Rattle.larch_soundness.proofs.Changed.{taken, changed, always, given_by}

-- the values of variables
abbrev pub of_variables : Assignment → List Variable → List ℕ
of_variables a vs = map (λ v. a v.name v.sort) vs

pub of_variables_within : (last : List ℕ → ℕ) (a : Assignment) → InRange last a → (vs : List Variable)
    → Within last (map (λ v. v.sort) vs) (of_variables a vs)
of_variables_within last a r [] = tt
of_variables_within last a r (v ∷ vs) = (r v.name v.sort, of_variables_within last a r vs)

abbrev variable_always : Assignment → Variable → List ℕ → ℕ
variable_always a v = always (a v.name v.sort)

given_variable : (a : Assignment) (vs : List Variable) (o : Option ℕ)
    → option_map always (option_and_then (slice_get (of_variables a vs)) o)
    ≡ option_map (variable_always a) (option_and_then (slice_get vs) o)
given_variable a vs None = refl
given_variable a vs (Some k) =
    ap (option_map always) (slice_get-map (λ v. a v.name v.sort) vs k) ∙ twice a (slice_get vs k)
  where
    twice : (a : Assignment) (o : Option Variable)
        → option_map always (option_map (λ v. a v.name v.sort) o) ≡ option_map (variable_always a) o
    twice a None = refl
    twice a (Some v) = refl

freed_here : (m : Interpretation) (a : Assignment) (f : PlainOperator) (ts : Forest) (xs : List ℕ)
    → values_of m a ts ≡ xs
    → (o : Option Variable) → value_of m a (unwrap_or (option_map (λ v. var v.name v.sort) o) (app f ts))
    ≡ taken (option_map (variable_always a) o) (m.table f) xs
freed_here m a f ts xs e None = ap (m.table f) e
freed_here m a f ts xs e (Some v) = refl

-- the constants with the values of these variables
abbrev pub as_variables : Interpretation → Assignment → List PlainOperator → List Variable → Interpretation
as_variables m a cs vs = changed (given_by cs (of_variables a vs)) m

mutual
  pub freed_value : (m : Interpretation) (a : Assignment) (cs : List PlainOperator) (vs : List Variable) (t : Tree)
      → value_of m a (free_constants cs vs t) ≡ value_of (as_variables m a cs vs) a t
  freed_value m a cs vs (var n s) = refl
  freed_value m a cs vs (app f ts) =
      let xs = values_of (as_variables m a cs vs) a ts in
      freed_here m a f (freed_all cs vs ts) xs (freed_values m a cs vs ts) (variable_for cs vs f.name)
      ∙ ap (λ o. taken o (m.table f) xs) (sym (given_variable a vs (place_of cs f.name)))

  freed_values : (m : Interpretation) (a : Assignment) (cs : List PlainOperator) (vs : List Variable) (ts : Forest)
      → values_of m a (freed_all cs vs ts) ≡ values_of (as_variables m a cs vs) a ts
  freed_values m a cs vs none = refl
  freed_values m a cs vs (more t ts) = λ i. freed_value m a cs vs t i ∷ freed_values m a cs vs ts i
