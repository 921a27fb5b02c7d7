use Rattle.std.proofs.Common.{◌≡◌, not, drop}
use Rattle.larch_sorts.specs.SortsKnownSorts.{exists_sort}
use Rattle.larch_base_meaning.specs.Steps.{first_position}
use Rattle.larch_traits_items.proofs.variables.unknown_sort.Given as goal

-- what is left is answered as all variables are
abbrev pub invariant-loop-variable : goal.invariant-loop-variable
invariant-loop-variable l =
    first_position (λ v. not (exists_sort l.signature v.sort.name)) (λ v. v.sort.pos)
    (drop l.variable-index l.variables)
    ≡ first_position (λ v. not (exists_sort l.signature v.sort.name)) (λ v. v.sort.pos) l.variables
