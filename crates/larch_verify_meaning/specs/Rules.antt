-- What lines say by rules that name no box, and by the one that names a hypothesis.
use Rattle.std.specs.Prelude.{ℕ, if◌then◌else◌, Bool, false, List, [], ◌∷◌, map, Option, Some, None, option_map}
use Rattle.std.specs.Prelude.{option_and_then}
use Rattle.std.specs.List.{slice_get}
use Rattle.std.specs.Option.{option_map_or}
use Rattle.larch_certificate.specs.BaseByNumber.{numbered}
use Rattle.larch_certificate.specs.TermBuiltIn.{bool_sort}
use Rattle.larch_certificate.specs.TermEquality.{same_tree, same_statement}
use Rattle.larch_certificate.specs.TermOperator.{PlainOperator}
use Rattle.larch_certificate.specs.TermPlace.{at, put}
use Rattle.larch_certificate.specs.TermSorts.{sort_of}
use Rattle.larch_certificate.specs.TermStatement.{statement_zero}
use Rattle.larch_certificate.specs.TermSubstitution.{instance_of}
use Rattle.larch_certificate.specs.TermTree.{Tree}
use Rattle.larch_certificate.specs.TermTruth.{truth}
use Rattle.larch_certificate.specs.TermStatementStatement.{Statement}
use Rattle.larch_certificate.specs.TermStatementStatement.TheVariants.{Equation, Generated, Partitioned}
use Rattle.larch_certificate.specs.TermStatementTheory.{Theory}
use Rattle.larch_certificate.specs.TermSubstitutionEntry.{Entry}
use Rattle.larch_certificate.specs.TermVariableVariable.{Variable}
use Rattle.larch_tables.specs.CalculusFormula.{equality}
use Rattle.larch_tables.specs.Tables.{built_in_rows}
use Rattle.larch_certificate.specs.Coded.{CodedTree}
use Rattle.larch_certificate.specs.declared.line.Binding.{Binding}
use Rattle.larch_certificate.specs.declared.symbol.Symbol.{Symbol}
use Rattle.larch_verify_meaning.specs.Context.{find_line, find_open}
use Rattle.larch_verify_meaning.specs.Decoding.{each, decode, decode_binding}
use Rattle.larch_verify_meaning.specs.Events.{Event}
use Rattle.larch_verify_meaning.specs.Matching.{all_different}

-- axiom: the statement of the theory with a number; number 0 is what every theory states of the truth values
abbrev pub axiom_says : Theory → ℕ → Option Statement
axiom_says t k = slice_get (statement_zero ∷ t.statements) k

-- hyp: the hypothesis with a number of an open box
abbrev pub hyp_says : List Event → ℕ → ℕ → Option Statement
hyp_says h b k = option_and_then (λ box. numbered box.hypotheses k) (find_open h b)

-- row: the equation of the row with a number, at a sort where it has one and without a sort where it has none
abbrev pub row_says : ℕ → Option (List ℕ) → Option Statement
row_says k None =
    option_and_then (λ row. if row.sorted then None else Some row.given) (numbered (built_in_rows bool_sort) k)
row_says k (Some s) =
    option_and_then (λ row. if row.sorted then Some row.given else None) (numbered (built_in_rows s) k)

-- refl: a term equals itself
abbrev pub refl_says : (Symbol → List (List ℕ) → Option PlainOperator) → CodedTree → Option Statement
refl_says find c = option_map (λ t. Equation t t) (decode find c)

-- the equation with its sides exchanged
abbrev pub exchange_sides : Statement → Option Statement
exchange_sides (Equation l r) = Some (Equation r l)
exchange_sides (Generated s fs) = None
exchange_sides (Partitioned s fs) = None

-- sym: the equation of a line with its sides exchanged
abbrev pub sym_says : List Event → ℕ → Option Statement
sym_says h m = option_and_then exchange_sides (find_line h m)

-- the equation with all variables replaced at once
abbrev pub instance_by : List Entry → Statement → Option Statement
instance_by es (Equation l r) = Some (Equation (instance_of es l) (instance_of es r))
instance_by es (Generated s fs) = None
instance_by es (Partitioned s fs) = None

-- the variable that a written replacement is of
abbrev pub replaced_variable : Binding → Variable
replaced_variable b = record { name = b.name; sort = b.sort }

-- inst: the equation of a line with different variables replaced at once by terms of their sorts
abbrev pub inst_says : (Symbol → List (List ℕ) → Option PlainOperator) → List Event → ℕ → List Binding
    → Option Statement
inst_says find h m bs =
    if all_different (map replaced_variable bs)
    then option_and_then (λ es. option_and_then (instance_by es) (find_line h m)) (each (decode_binding find) bs)
    else None

-- whether a term stands at a place of another one
abbrev pub stands_at : Tree → List ℕ → Tree → Bool
stands_at t p u = option_map_or (λ v. same_tree v u) (at t p) false

-- the first equation with the right side of the second one at a place of its own right side, where the left side stands
abbrev pub replace_right : List ℕ → Statement → Statement → Option Statement
replace_right p (Equation s t) (Equation u v) = if stands_at t p u then Some (Equation s (put t p v)) else None
replace_right p (Equation s t) (Generated r fs) = None
replace_right p (Equation s t) (Partitioned r fs) = None
replace_right p (Generated s fs) e = None
replace_right p (Partitioned s fs) e = None

-- repl: one side of an equation takes the place of the other in the right side of a further one
abbrev pub repl_says : List Event → ℕ → List ℕ → ℕ → Option Statement
repl_says h m p k = option_and_then (λ e. option_and_then (replace_right p e) (find_line h k)) (find_line h m)

-- the terms of which an equation says that their equality is true
abbrev pub equality_sides : Statement → Tree → Tree → Option Statement
equality_sides e s t =
    if same_statement e (Equation (equality (sort_of s) s t) truth) then Some (Equation s t) else None

-- the arguments of the left side, if the equation says that they are equal
abbrev pub stated_equal : Statement → Option Statement
stated_equal (Equation l r) =
    option_and_then (λ s. option_and_then (equality_sides (Equation l r) s) (at l (2 ∷ []))) (at l (1 ∷ []))
stated_equal (Generated s fs) = None
stated_equal (Partitioned s fs) = None

-- equal: terms whose equality is true are equal
abbrev pub equal_says : List Event → ℕ → Option Statement
equal_says h m = option_and_then stated_equal (find_line h m)
