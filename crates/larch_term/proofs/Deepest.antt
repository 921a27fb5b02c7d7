-- The pending terms of a drop are each smaller than the terms that are dropped.
use Rattle.std.proofs.Common.{◌≡◌, ℕ, ◌+◌, ◌*◌, ◌<◌, List, [], ◌∷◌, ◌++◌, max, arith, refl}
use denote.Param.Weighed.{most, most-append}
use Rattle.larch_term.specs.Operator.{PlainOperator}
use Rattle.larch_term.specs.Tree.{Tree, app, nodes, nodes_all, forest_of}
use Rattle.larch_term.specs.declared.term.Term.TheDeep.{size-Term, size-Terms}

pub size_term : (t : Tree) → size-Term t ≡ 2 * (2 * nodes t + 1) + 0
size_term t = refl

pub size_terms : (ts : List Tree) → size-Terms ts ≡ 2 * (2 * nodes_all (forest_of ts) + 1 + 1) + 0
size_terms ts = refl

pub most_below : (ts : List Tree) → most size-Term ts < size-Terms ts
most_below [] = omega arith
most_below (t ∷ ts) = omega (arith, most_below ts, size_term t)

pub most_joined : (μ : Tree → ℕ) (xs ys : List Tree) → most μ (xs ++ ys) ≡ max (most μ xs) (most μ ys)
most_joined μ xs ys = most-append μ xs ys

pub arguments_fall : (f : PlainOperator) (ts us : List Tree) (t : Tree) → us ≡ ts → app f (forest_of ts) ≡ t
    → most size-Term us < size-Term t
arguments_fall f ts us t e p =
    rw (← p) (rw e (omega (arith, most_below ts, size_term (app f (forest_of ts)), size_terms ts)))
