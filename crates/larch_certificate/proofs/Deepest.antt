-- The pending terms of a drop are each smaller than the terms that are dropped.
use Rattle.std.proofs.Common.{◌≡◌, ℕ, ◌+◌, ◌*◌, ◌<◌, List, [], ◌∷◌, ◌++◌, max, arith, refl, Option, Some, None, IfSome}
use Rattle.std.proofs.Common.{Vec, Global}
use denote.Param.Weighed.{most, most-append}
use Rattle.larch_certificate.specs.Coded.{CodedTree, coded_app, coded_nodes, coded_nodes_all, coded_forest_of}
use Rattle.larch_certificate.specs.declared.coded.Coded.TheDeep.{size-Coded, size-CodedTerms}
use Rattle.larch_certificate.specs.declared.symbol.Symbol.{Symbol}

pub size_coded : (t : CodedTree) → size-Coded t ≡ 2 * (2 * coded_nodes t + 1) + 0
size_coded t = refl

pub size_coded_terms : (ts : List CodedTree)
    → size-CodedTerms ts ≡ 2 * (2 * coded_nodes_all (coded_forest_of ts) + 1 + 1) + 0
size_coded_terms ts = refl

pub most_below : (ts : List CodedTree) → most size-Coded ts < size-CodedTerms ts
most_below [] = omega arith
most_below (t ∷ ts) = omega (arith, most_below ts, size_coded t)

pub most_joined : (μ : CodedTree → ℕ) (xs ys : List CodedTree) → most μ (xs ++ ys) ≡ max (most μ xs) (most μ ys)
most_joined μ xs ys = most-append μ xs ys

pub arguments_fall : (f : Symbol) (ts us : List CodedTree) (t : CodedTree) → us ≡ ts
    → coded_app f (coded_forest_of ts) ≡ t
    → most size-Coded us < size-Coded t
arguments_fall f ts us t e p =
    rw (← p) (rw e (omega (arith, most_below ts, size_coded (coded_app f (coded_forest_of ts)), size_coded_terms ts)))

-- arguments that are taken out of a term
pub taken_fall : (f : Symbol) (ts : List CodedTree) (taken : Option (Vec CodedTree Global)) (t : CodedTree)
    → IfSome taken (λ us. us.items ≡ ts) → coded_app f (coded_forest_of ts) ≡ t
    → IfSome taken (λ us. most size-Coded us.items < size-Coded t)
taken_fall f ts None t e p = tt
taken_fall f ts (Some us) t e p = arguments_fall f ts us.items t e p
