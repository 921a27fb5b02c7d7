-- What lines say of clauses: an equation by what observers show, and clauses by the results of closed boxes.
use Rattle.std.specs.Prelude.{ℕ, if◌then◌else◌, ◌&&◌, Bool, true, false, List, [], ◌∷◌, bytes_eq, Option, Some, None}
use Rattle.std.specs.Prelude.{option_and_then}
use Rattle.std.specs.List.{list_all, list_any}
use Rattle.std.specs.Option.{option_map_or}
use Rattle.larch_certificate.specs.BaseByNumber.{numbered}
use Rattle.larch_certificate.specs.TermEquality.{same_statement}
use Rattle.larch_certificate.specs.TermOperator.{PlainOperator}
use Rattle.larch_certificate.specs.TermSorts.{sort_of}
use Rattle.larch_certificate.specs.TermTree.{Tree, var}
use Rattle.larch_certificate.specs.TermTruth.{truth}
use Rattle.larch_certificate.specs.TermStatementStatement.{Statement}
use Rattle.larch_certificate.specs.TermStatementStatement.TheVariants.{Equation, Generated, Partitioned}
use Rattle.larch_certificate.specs.TermStatementTheory.{Theory}
use Rattle.larch_tables.specs.CalculusFormula.{constant, apply_one}
use Rattle.larch_tables.specs.CalculusGeneration.{place_name, generation_hypotheses}
use Rattle.larch_tables.specs.CalculusObservation.{Observation, observations_of, observer_term}
use Rattle.larch_tables.specs.CalculusObservation.{other_variables, observations}
use Rattle.larch_certificate.specs.declared.line.CodedEquation.{CodedEquation}
use Rattle.larch_certificate.specs.declared.symbol.Symbol.{Symbol}
use Rattle.larch_verify_meaning.specs.Context.{find_line, find_closed}
use Rattle.larch_verify_meaning.specs.Decoding.{each, decode_equation}
use Rattle.larch_verify_meaning.specs.Events.{PlainBox, box_constant, box_predicate, Event}
use Rattle.larch_verify_meaning.specs.Matching.{same_statements, are_apart, argument_name, has_constants}
use Rattle.larch_verify_meaning.specs.Matching.{is_predicate_on}

-- whether an equation says that an observer shows the same of two terms: with different variables as other arguments,
-- named as its left side has them, of which none occurs in the terms
abbrev pub shows_same : Tree → Tree → Observation → Statement → Bool
shows_same l r w (Equation a b) =
    same_statement (Equation a b) (Equation (observer_term (argument_name a) w l) (observer_term (argument_name a) w r))
    && are_apart (other_variables (argument_name a) w) l r
shows_same l r w (Generated s fs) = false
shows_same l r w (Partitioned s fs) = false

-- whether lines say so of observations, in order, and there is no further one
abbrev pub show_same : List Event → Tree → Tree → List Observation → List ℕ → Bool
show_same h l r [] [] = true
show_same h l r [] (n ∷ ns) = false
show_same h l r (w ∷ ws) [] = false
show_same h l r (w ∷ ws) (n ∷ ns) =
    option_map_or (shows_same l r w) (find_line h n) false && show_same h l r ws ns

-- the equation, if its sides have the clause's sort and all observers show the same of them
abbrev pub observed_equal : List Event → List ℕ → Statement → Statement → Option Statement
observed_equal h ns (Equation l r) (Partitioned s os) =
    if bytes_eq (sort_of l) s && show_same h l r (observations_of s os) ns then Some (Equation l r) else None
observed_equal h ns (Equation l r) (Equation a b) = None
observed_equal h ns (Equation l r) (Generated s fs) = None
observed_equal h ns (Generated s fs) c = None
observed_equal h ns (Partitioned s fs) c = None

-- observe: terms of a partitioned sort are equal if all observers show the same of them
abbrev pub observe_says : (Symbol → List (List ℕ) → Option PlainOperator) → List Event → ℕ → CodedEquation → List ℕ
    → Option Statement
observe_says find h m e ns =
    option_and_then (λ g. option_and_then (observed_equal h ns g) (find_line h m)) (decode_equation find e)

-- the theory's operators with these numbers
abbrev pub own_operators : Theory → List ℕ → Option (List PlainOperator)
own_operators t ks = each (numbered t.operators) ks

-- whether the equation says that a predicate on a sort holds of a variable
abbrev pub holds_of_variable : PlainOperator → List ℕ → Statement → Bool
holds_of_variable p s (Equation l r) =
    same_statement (Equation l r) (Equation (apply_one p (var (argument_name l 1) s)) truth)
holds_of_variable p s (Generated z fs) = false
holds_of_variable p s (Partitioned z fs) = false

-- whether a box shows that operators generate a sort: it has a predicate on the sort, supposes that their values
-- inherit it, and its result is that it holds of a variable
abbrev pub shows_generated : List ℕ → List PlainOperator → PlainBox → Statement → Bool
shows_generated s fs b r =
    is_predicate_on s b.parts
    && (same_statements b.hypotheses (generation_hypotheses (box_predicate b.number 1 s) s fs)
    && holds_of_variable (box_predicate b.number 1 s) s r)

-- the clause, if the sort is the range of all operators and a box shows it
abbrev pub generated_by : List ℕ → PlainBox × Statement → List PlainOperator → Option Statement
generated_by s c fs =
    if list_all (λ f. bytes_eq f.range s) fs && shows_generated s fs c.0 c.1 then Some (Generated s fs) else None

-- generated: a sort is generated by operators if a closed box shows it
abbrev pub generated_says : Theory → List Event → ℕ → List ℕ → List ℕ → Option Statement
generated_says t h b s ks =
    option_and_then (λ c. option_and_then (generated_by s c) (own_operators t ks)) (find_closed h b)

-- whether a box shows that operators partition a sort: it has two constants of the sort, supposes that observers show
-- the same of them, and its result is that they are equal
abbrev pub shows_partitioned : List ℕ → List PlainOperator → PlainBox → Statement → Bool
shows_partitioned s os b r =
    has_constants b (s ∷ s ∷ [])
    && (same_statements b.hypotheses (observations place_name s os (constant (box_constant b.number 1 s))
    (constant (box_constant b.number 2 s)))
    && same_statement r (Equation (constant (box_constant b.number 1 s)) (constant (box_constant b.number 2 s))))

-- the clause, if the sort stands in the domains of all operators and a box shows it
abbrev pub partitioned_by : List ℕ → PlainBox × Statement → List PlainOperator → Option Statement
partitioned_by s c os =
    if list_all (λ o. list_any (bytes_eq s) o.domain) os && shows_partitioned s os c.0 c.1
    then Some (Partitioned s os)
    else None

-- partitioned: a sort is partitioned by operators if a closed box shows it
abbrev pub partitioned_says : Theory → List Event → ℕ → List ℕ → List ℕ → Option Statement
partitioned_says t h b s ks =
    option_and_then (λ c. option_and_then (partitioned_by s c) (own_operators t ks)) (find_closed h b)
