-- What lines say by the results of closed boxes: variables for constants, cases and induction.
use Rattle.std.specs.Prelude.{ℕ, if◌then◌else◌, ◌&&◌, Bool, true, false, List, [], ◌∷◌, map, bytes_eq, Option, Some}
use Rattle.std.specs.Prelude.{None, option_and_then}
use Rattle.std.specs.Option.{option_map_or}
use Rattle.larch_certificate.specs.TermEquality.{same_statement}
use Rattle.larch_certificate.specs.TermOperator.{PlainOperator}
use Rattle.larch_certificate.specs.TermTree.{Tree, app}
use Rattle.larch_certificate.specs.TermTruth.{truth}
use Rattle.larch_certificate.specs.TermVariable.{occurrences}
use Rattle.larch_certificate.specs.TermStatementStatement.{Statement}
use Rattle.larch_certificate.specs.TermStatementStatement.TheVariants.{Equation, Generated, Partitioned}
use Rattle.larch_certificate.specs.TermVariableVariable.{Variable}
use Rattle.larch_tables.specs.CalculusFormula.{falsity}
use Rattle.larch_tables.specs.CalculusFreed.{free_constants}
use Rattle.larch_tables.specs.CalculusGeneration.{constant_terms, equation_at, induction_hypotheses}
use Rattle.larch_certificate.specs.declared.line.CodedEquation.{CodedEquation}
use Rattle.larch_certificate.specs.declared.line.CodedVar.{CodedVar}
use Rattle.larch_certificate.specs.declared.symbol.Symbol.{Symbol}
use Rattle.larch_verify_meaning.specs.Context.{find_line, find_closed}
use Rattle.larch_verify_meaning.specs.Decoding.{decode_equation}
use Rattle.larch_verify_meaning.specs.Events.{PlainBox, operators_of, Event}
use Rattle.larch_verify_meaning.specs.Matching.{is_empty, same_statements, has_constants, variable_of}

-- the equation with variables in the places of constants, in order
abbrev pub freed_equation : List PlainOperator → List Variable → Statement → Option Statement
freed_equation cs vs (Equation l r) = Some (Equation (free_constants cs vs l) (free_constants cs vs r))
freed_equation cs vs (Generated s fs) = None
freed_equation cs vs (Partitioned s fs) = None

-- the result of a box without hypotheses, with variables of their sorts in the places of its constants
abbrev pub freed_result : PlainBox → Statement → List Variable → Option Statement
freed_result b s vs =
    if is_empty b.hypotheses && has_constants b (map (λ v. v.sort) vs)
    then freed_equation (operators_of b) vs s
    else None

-- fresh: the result of a closed box with variables in the places of its constants
abbrev pub fresh_says : List Event → ℕ → List CodedVar → Option Statement
fresh_says h b vs = option_and_then (λ c. freed_result c.0 c.1 (map variable_of vs)) (find_closed h b)

-- the equation itself
abbrev pub equation_alone : Statement → Option Statement
equation_alone (Equation l r) = Some (Equation l r)
equation_alone (Generated s fs) = None
equation_alone (Partitioned s fs) = None

-- the left side of the only statement
abbrev pub only_left_side : List Statement → Option Tree
only_left_side [] = None
only_left_side (Equation l r ∷ []) = Some l
only_left_side (Generated s fs ∷ []) = None
only_left_side (Partitioned s fs ∷ []) = None
only_left_side (s ∷ r ∷ ss) = None

-- whether a box has no parts and the only hypothesis that a formula has a truth value
abbrev pub supposes : PlainBox → Tree → Tree → Bool
supposes b f v = is_empty b.parts && same_statements b.hypotheses (Equation f v ∷ [])

-- the common result of two boxes, for one of which a formula without variables is true and for the other false
abbrev pub common_result : PlainBox × Statement → PlainBox × Statement → Tree → Option Statement
common_result c d f =
    if supposes c.0 f truth && (supposes d.0 f falsity && (is_empty (occurrences f) && same_statement c.1 d.1))
    then equation_alone c.1
    else None

-- what two boxes show together
abbrev pub cases_of : PlainBox × Statement → PlainBox × Statement → Option Statement
cases_of c d = option_and_then (common_result c d) (only_left_side c.0.hypotheses)

-- cases: the common result of two closed boxes
abbrev pub cases_says : List Event → ℕ → ℕ → Option Statement
cases_says h b c = option_and_then (λ d. option_and_then (cases_of d) (find_closed h c)) (find_closed h b)

-- whether a closed box shows an equation of what a generator makes: it has a constant for each of the generator's
-- arguments, it supposes the equation of those of the variable's sort, and its result is the equation with what the
-- generator makes of them
abbrev pub shows_case : CodedVar → Tree → Tree → PlainOperator → PlainBox × Statement → Bool
shows_case x l r f c =
    has_constants c.0 f.domain
    && (same_statements c.0.hypotheses (induction_hypotheses x.name x.sort l r (operators_of c.0))
    && same_statement c.1 (equation_at x.name x.sort l r (app f (constant_terms (operators_of c.0)))))

-- whether there is such a box for each generator, in order, and no further one
abbrev pub shows_cases : List Event → CodedVar → Statement → List PlainOperator → List ℕ → Bool
shows_cases h x (Equation l r) [] [] = true
shows_cases h x (Equation l r) [] (b ∷ bs) = false
shows_cases h x (Equation l r) (f ∷ fs) [] = false
shows_cases h x (Equation l r) (f ∷ fs) (b ∷ bs) =
    option_map_or (shows_case x l r f) (find_closed h b) false && shows_cases h x (Equation l r) fs bs
shows_cases h x (Generated s gs) fs bs = false
shows_cases h x (Partitioned s gs) fs bs = false

-- the equation, if boxes show it of what each generator of the variable's sort makes
abbrev pub induct_over : List Event → CodedVar → List ℕ → Statement → Statement → Option Statement
induct_over h x bs e (Generated s fs) = if bytes_eq s x.sort && shows_cases h x e fs bs then Some e else None
induct_over h x bs e (Equation l r) = None
induct_over h x bs e (Partitioned s fs) = None

-- induct: an equation by induction on a variable
abbrev pub induct_says : (Symbol → List (List ℕ) → Option PlainOperator) → List Event → ℕ → CodedVar → CodedEquation
    → List ℕ → Option Statement
induct_says find h m x e bs =
    option_and_then (λ g. option_and_then (induct_over h x bs g) (find_line h m)) (decode_equation find e)
