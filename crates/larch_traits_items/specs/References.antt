-- The operators that references of clauses name.
use Rattle.std.specs.Prelude.{if◌then◌else◌, ◌&&◌, ◌||◌, ℕ, Bool, false, not, bytes_eq, List, Option, Some, None}
use Rattle.std.specs.Prelude.{option_map, option_and_then, find, Result, Ok, Err}
use Rattle.std.specs.List.{list_any, list_all}
use Rattle.larch_base.specs.declared.code.Code.{Code}
use Rattle.larch_base.specs.declared.code.Code.TheVariants.{Generator, Partition}
use Rattle.larch_base.specs.declared.fault.Fault.{Fault}
use Rattle.larch_raw.specs.declared.declared.RawOpRef.{RawOpRef}
use Rattle.larch_raw.specs.declared.equation.ClauseKind.{ClauseKind}
use Rattle.larch_raw.specs.declared.equation.ClauseKind.TheVariants.{Generated, Partitioned}
use Rattle.larch_term.specs.Equality.{same_operator}
use Rattle.larch_term.specs.Operator.{OperatorName, PlainOperator, plain, boxed}
use Rattle.larch_sorts.specs.SortsMeaningFaults.{fault}
use Rattle.larch_traits_items.specs.Declarations.{operator_of}
use Rattle.larch_base_meaning.specs.Steps.{each}
use Rattle.larch_traits_items.specs.declared.references.Wanted.{Wanted}

-- the one operator that a reference with a signature means
abbrev pub exact_of : RawOpRef → Option PlainOperator
exact_of ref = option_map (λ sig. operator_of sig ref.form) ref.sig

-- what a reference of a clause of this sort is looked for as
abbrev pub wanted_of : ClauseKind → List ℕ → RawOpRef → Wanted
wanted_of kind sort ref =
    record { kind = kind; sort = sort; name = ref.form.name; exact = exact_of ref }

-- an operator's name is these bytes
abbrev pub is_named : OperatorName → List ℕ → Bool
is_named (plain n) m = bytes_eq n m
is_named (boxed b k) m = false

-- the operator is the one of the reference's signature; or where that has none, has the reference's name
abbrev pub is_meant : Option PlainOperator → List ℕ → PlainOperator → Bool
is_meant None name f = is_named f.name name
is_meant (Some exact) name f = same_operator f exact

-- the operator has this sort in its domain
abbrev pub takes : List ℕ → PlainOperator → Bool
takes sort f = list_any (bytes_eq sort) f.domain

-- the operator suits a clause of this sort: a generator has it as its range, an observer has it in its domain
abbrev pub suits : ClauseKind → List ℕ → PlainOperator → Bool
suits Generated sort f = bytes_eq f.range sort
suits Partitioned sort f = takes sort f

-- the reference means the operator, which suits the clause
abbrev pub is_wanted : Wanted → PlainOperator → Bool
is_wanted w f = is_meant w.exact w.name f && suits w.kind w.sort f

-- all the operators that are so are equal to this one
abbrev pub all_same : (PlainOperator → Bool) → PlainOperator → List PlainOperator → Bool
all_same is_so f fs = list_all (λ g. not (is_so g) || same_operator f g) fs

-- the first of the operators that is so, if all that are so are equal to it
abbrev pub only_operator : (PlainOperator → Bool) → List PlainOperator → Option PlainOperator
only_operator is_so fs = option_and_then (λ f. if all_same is_so f fs then Some f else None) (find is_so fs)

-- the code of a clause of which a reference names no one operator that suits
abbrev pub clause_code : ClauseKind → Code
clause_code Generated = Generator
clause_code Partitioned = Partition

-- what was found, or this fault
abbrev pub found_or : {A : Type 0} → Fault → Option A → Result A Fault
found_or f None = Err f
found_or f (Some x) = Ok x

-- the one operator that a reference names among those that suit a clause of this sort
abbrev pub operator_named : List PlainOperator → ClauseKind → List ℕ → RawOpRef → Result PlainOperator Fault
operator_named fs kind sort ref =
    found_or (fault (clause_code kind) ref.form.pos) (only_operator (is_wanted (wanted_of kind sort ref)) fs)

-- the operators that the references of a clause name, in order
abbrev pub operators_named : List PlainOperator → ClauseKind → List ℕ → List RawOpRef
    → Result (List PlainOperator) Fault
operators_named fs kind sort refs = each (operator_named fs kind sort) refs
