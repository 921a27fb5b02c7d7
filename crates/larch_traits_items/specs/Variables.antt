-- Variables that are declared over operators.
use Rattle.std.specs.Prelude.{if◌then◌else◌, not, is_some, List, [], ◌∷◌, ◌++◌, Result, Ok, Err}
use Rattle.larch_base.specs.declared.code.Code.TheVariants.{UnknownSort, VariableTwice}
use Rattle.larch_base.specs.declared.fault.Fault.{Fault}
use Rattle.larch_raw.specs.declared.equation.RawVar.{RawVar}
use Rattle.larch_term.specs.Operator.{PlainOperator}
use Rattle.larch_sorts.specs.SortsKnownSorts.{exists_sort}
use Rattle.larch_sorts.specs.SortsMeaningFaults.{fault, fault_at, unless}
use Rattle.larch_sorts.specs.SortsMeaningScope.{Variables, sort_in}
use Rattle.larch_base_meaning.specs.Steps.{all_taken, first_position}

-- the variables with one more behind them, unless its name is there
abbrev pub with_declared : RawVar → Variables → Result Variables Fault
with_declared v vs =
    if is_some (sort_in vs v.name.name) then Err (fault VariableTwice v.name.pos)
    else Ok (vs ++ (v.name.name, v.sort.name) ∷ [])

-- variables as a scope, in order: a sort that doesn't exist comes before a name that is there
abbrev pub variables_declared : List PlainOperator → List RawVar → Result Variables Fault
variables_declared fs variables =
    unless (fault_at UnknownSort (first_position (λ v. not (exists_sort fs v.sort.name)) (λ v. v.sort.pos) variables))
    (all_taken with_declared variables [])
