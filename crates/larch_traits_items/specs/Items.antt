-- What items state, or what is wrong with them first.
use Rattle.std.specs.Prelude.{if◌then◌else◌, ℕ, List, [], ◌∷◌, Result, Ok, Err}
use Rattle.larch_base.specs.declared.code.Code.TheVariants.{UnknownSort}
use Rattle.larch_base.specs.declared.fault.Fault.{Fault}
use Rattle.larch_raw.specs.declared.declared.RawOpRef.{RawOpRef}
use Rattle.larch_raw.specs.declared.declared.RawWord.{RawWord}
use Rattle.larch_raw.specs.declared.equation.ClauseKind.{ClauseKind}
use Rattle.larch_raw.specs.declared.equation.ClauseKind.TheVariants.{Generated, Partitioned}
use Rattle.larch_raw.specs.declared.equation.RawEquation.{RawEquation}
use Rattle.larch_raw.specs.declared.equation.RawItem.{RawItem}
use Rattle.larch_raw.specs.declared.equation.RawItem.TheVariants.{Clause, Equations}
use Rattle.larch_raw.specs.declared.equation.RawVar.{RawVar}
use Rattle.larch_term.specs.Operator.{PlainOperator}
use Rattle.larch_term.specs.declared.statement.Statement.{Statement}
use Rattle.larch_term.specs.declared.statement.Statement.TheVariants as statement
use Rattle.larch_sorts.specs.SortsKnownSorts.{exists_sort}
use Rattle.larch_sorts.specs.SortsMeaningFaults.{fault}
use Rattle.larch_sorts.specs.SortsMeaningRead.{read_equation}
use Rattle.larch_traits_items.specs.References.{operators_named}
use Rattle.larch_base_meaning.specs.Steps.{after, each, each_several}
use Rattle.larch_traits_items.specs.Variables.{variables_declared}

-- the statement of a clause of this sort with these operators
abbrev pub clause_statement : ClauseKind → List ℕ → List PlainOperator → Statement
clause_statement Generated sort gs = statement.Generated sort gs
clause_statement Partitioned sort gs = statement.Partitioned sort gs

-- what a clause states over operators: its sort comes before its references
abbrev pub clause_states : List PlainOperator → ClauseKind → RawWord → List RawOpRef → Result Statement Fault
clause_states fs kind sort refs =
    if exists_sort fs sort.name
    then after (operators_named fs kind sort.name refs) (λ gs. Ok (clause_statement kind sort.name gs))
    else Err (fault UnknownSort sort.pos)

-- what equations state over operators, in order: their variables come before them
abbrev pub equations_state : List PlainOperator → List RawVar → List RawEquation → Result (List Statement) Fault
equations_state fs variables equations =
    after (variables_declared fs variables) (λ scope. each (read_equation fs scope) equations)

-- what an item states over operators
abbrev pub item_states : List PlainOperator → RawItem → Result (List Statement) Fault
item_states fs (Clause kind sort refs) = after (clause_states fs kind sort refs) (λ s. Ok (s ∷ []))
item_states fs (Equations variables equations) = equations_state fs variables equations

-- what items state over operators, in order
abbrev pub items_state : List PlainOperator → List RawItem → Result (List Statement) Fault
items_state fs items = each_several (item_states fs) items
