-- Which built-in operators have a name.
use Rattle.std.specs.Prelude.{ℕ, if◌then◌else◌, List, Option, Some, None}
use Rattle.std.specs.Str.{bytes_eq}
use Rattle.larch_term.specs.BuiltIn.{built_in_name}
use Rattle.larch_term.specs.declared.built_in.BuiltIn.{BuiltIn}
use Rattle.larch_term.specs.declared.built_in.BuiltIn.TheVariants.{True, False, Not, And, Or, Implies, Iff}
use Rattle.larch_term.specs.declared.built_in.BuiltIn.TheVariants.{Equal, Unequal, If}

-- those that are there for each sort
abbrev pub built_in_at_each_sort : List ℕ → Option BuiltIn
built_in_at_each_sort n =
    if bytes_eq n (built_in_name Equal) then Some Equal
    else if bytes_eq n (built_in_name Unequal) then Some Unequal
    else if bytes_eq n (built_in_name If) then Some If
    else None

-- those that stand between their arguments, or among them
abbrev pub built_in_between : List ℕ → Option BuiltIn
built_in_between n =
    if bytes_eq n (built_in_name And) then Some And
    else if bytes_eq n (built_in_name Or) then Some Or
    else if bytes_eq n (built_in_name Implies) then Some Implies
    else if bytes_eq n (built_in_name Iff) then Some Iff
    else built_in_at_each_sort n

-- all of them
abbrev pub built_in_named : List ℕ → Option BuiltIn
built_in_named n =
    if bytes_eq n (built_in_name True) then Some True
    else if bytes_eq n (built_in_name False) then Some False
    else if bytes_eq n (built_in_name Not) then Some Not
    else built_in_between n
