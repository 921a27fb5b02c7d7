-- What the examples of duties are written with.
use Rattle.std.specs.Prelude.{ℕ, false, codes, List, [], ◌∷◌, ◌++◌, map, replicate, None, Result, Ok, Err}
use Rattle.std.specs.Fmt.{digits}
use Rattle.larch_base.specs.declared.code.Code.{Code}
use Rattle.larch_base.specs.declared.label.Label.TheVariants.{Imply}
use Rattle.larch_raw.specs.RawTree.{RawTree}
use Rattle.larch_raw.specs.declared.declared.RawDecl.{RawDecl}
use Rattle.larch_raw.specs.declared.declared.RawOpRef.{RawOpRef}
use Rattle.larch_raw.specs.declared.equation.ClauseKind.TheVariants.{Generated}
use Rattle.larch_raw.specs.declared.equation.RawConversion.{RawConversion}
use Rattle.larch_raw.specs.declared.equation.RawEquation.{RawEquation}
use Rattle.larch_raw.specs.declared.equation.RawItem.{RawItem}
use Rattle.larch_raw.specs.declared.equation.RawItem.TheVariants.{Clause}
use Rattle.larch_raw.specs.declared.equation.RawTrait.{RawTrait}
use Rattle.larch_raw.specs.declared.reference.RawActual.{RawActual}
use Rattle.larch_raw.specs.declared.reference.RawRef.{RawRef}
use Rattle.larch_term.specs.BuiltIn.{is_built_in}
use Rattle.larch_term.specs.Equality.{same_tree, same_statement}
use Rattle.larch_term.specs.Operator.{PlainOperator}
use Rattle.larch_term.specs.OperatorKey.{same_operator}
use Rattle.larch_term.specs.Tree.{Tree, var}
use Rattle.larch_term.specs.declared.statement.Statement.{Statement}
use Rattle.larch_term.specs.declared.statement.Statement.TheVariants.{Equation}
use Rattle.larch_term.specs.declared.statement.Statement.TheVariants as statement
use Rattle.larch_term.specs.declared.statement.Theory.{Theory}
use Rattle.larch_flat_meaning.specs.SortsMeaningRead.{read_equation, read_term, unread_in}
use Rattle.larch_flat_meaning.specs.SortsMeaningReadingLists.{readings}
use Rattle.larch_flat_meaning.specs.SortsMeaningUnknown.{unknown_among}
use Rattle.larch_base_meaning.specs.Steps.{after}
use Rattle.larch_flat_meaning.specs.ShorthandOperators.{operator, constant, on}
use Rattle.larch_flat_meaning.specs.Examples.{a_trait, assumes, bare, base, call, declares, files_of, including_one}
use Rattle.larch_flat_meaning.specs.Examples.{base_a, base_f, base_theory, form_at, states, word_at}
use Rattle.larch_flat_meaning.specs.Files.{Files}
use Rattle.larch_flat_meaning.specs.Flat.{flat}
use Rattle.larch_flat_meaning.specs.Replacements.{replacements_of}
use Rattle.larch_flat_meaning.specs.Stops.{Stop, Refused}
use Rattle.larch_duties_meaning.specs.Duties.{Duties, Duty, all_duties, duties}

-- all words that an example unfolds
unfoldable pub computing : Unit {0}
unfolding duties replacements_of flat same_operator same_tree same_statement is_built_in read_equation read_term
    unread_in unknown_among readings digits
computing = tt

-- the duties of a file among others
abbrev pub duties_in : Files → List ℕ → Result (List Duty) Stop
duties_in files name = after (flat 256 files name) (λ own. after (duties 256 files own) (λ d. Ok (all_duties d)))

-- a code at a line and a column
abbrev pub wrong : Code → ℕ → ℕ → Result (List Duty) Stop
wrong code line column = Err (Refused (record { pos = record { line = line; column = column }; code = code }))

-- a reference to operators by a bare word at a line and a column
abbrev pub named_at : List ℕ → ℕ → ℕ → RawOpRef
named_at name line column = record { form = bare name line column; sig = None }

-- a term that stands alone, at a line and a column
abbrev pub alone_at : RawTree → ℕ → ℕ → RawEquation
alone_at term line column =
    record { left = term; right = None; first = record { line = line; column = column } }

-- a clause that converts operators, and exempts terms without variables
abbrev pub converts : List RawOpRef → List RawEquation → RawConversion
converts converted exempted = record { converted = converted; variables = []; exempted = exempted }

-- a trait with a claim: implied traits, implied items, or conversions
abbrev pub claiming : List RawRef → List RawItem → List RawConversion → RawTrait → RawTrait
claiming implied items conversions raw =
    record raw { implied = implied; implied_items = items; conversions = conversions }

-- f: S -> S and a: -> S, where f(a) is a
abbrev pub one_function : RawTrait
one_function =
    a_trait (codes "T") []
    (declares (codes "f") (codes "S" ∷ []) (codes "S") ∷ declares (codes "a") [] (codes "S") ∷ [])
    (states (call (codes "f") (call (codes "a") [] ∷ [])) (call (codes "a") []) ∷ [])

-- the duties of that trait with these clauses
abbrev pub with_conversions : List RawConversion → Result (List Duty) Stop
with_conversions conversions =
    duties_in (files_of ((codes "T", Ok (claiming [] [] conversions one_function)) ∷ [])) (codes "T")

-- the duties of that trait where it converts operators and exempts terms
abbrev pub converting : List RawOpRef → List RawEquation → Result (List Duty) Stop
converting converted exempted = with_conversions (converts converted exempted ∷ [])

-- its function, under this name
abbrev pub function : List ℕ → PlainOperator
function name = operator name (codes "S" ∷ []) (codes "S")

-- its constant
abbrev pub the_constant : Tree
the_constant = constant (operator (codes "a") [] (codes "S"))

-- its statement, of the function under this name
abbrev pub fixed_by : List ℕ → Statement
fixed_by name = Equation (on (function name) the_constant) the_constant

-- its theory, with f' for f beside it, and further statements
abbrev pub with_copy : List Statement → Theory
with_copy more =
    record {
      operators = function (codes "f") ∷ operator (codes "a") [] (codes "S") ∷ function (codes "f'") ∷ [];
      statements = fixed_by (codes "f") ∷ fixed_by (codes "f'") ∷ more;
    }

-- f and f' are the same
abbrev pub same_function : Statement
same_function =
    Equation (on (function (codes "f")) (var (codes "x1") (codes "S")))
    (on (function (codes "f'")) (var (codes "x1") (codes "S")))

-- f(a) and f'(a) are the same
abbrev pub same_at_constant : Statement
same_at_constant = Equation (on (function (codes "f")) the_constant) (on (function (codes "f'")) the_constant)

-- the constant under a name
abbrev pub constant_named : List ℕ → Tree
constant_named name = constant (operator name [] (codes "S"))

-- its theory with f' for f and a' for a beside them
abbrev pub with_both_copies : Theory
with_both_copies =
    record {
      operators = function (codes "f") ∷ operator (codes "a") [] (codes "S") ∷ function (codes "f'")
          ∷ operator (codes "a'") [] (codes "S") ∷ [];
      statements = fixed_by (codes "f")
          ∷ Equation (on (function (codes "f'")) (constant_named (codes "a'"))) (constant_named (codes "a'")) ∷ [];
    }

-- a and a' are the same
abbrev pub same_constant : Statement
same_constant = Equation (constant_named (codes "a")) (constant_named (codes "a'"))

-- f of the constant, as it is written
abbrev pub raw_fixed : RawTree
raw_fixed = call (codes "f") (call (codes "a") [] ∷ [])

-- the duties of T among Base, a trait that assumes Base, and T
abbrev pub among_traits : RawTrait → Result (List Duty) Stop
among_traits raw =
    duties_in
    (files_of
    ((codes "Base", Ok base) ∷ (codes "Weak", Ok (a_trait (codes "Weak") (assumes (codes "Base") 2 11 ∷ []) [] []))
    ∷ (codes "T", Ok raw) ∷ []))
    (codes "T")

-- a reference of an implied part, without actuals
abbrev pub implies_trait : List ℕ → RawRef
implies_trait name = record { name = word_at name 3 11; actuals = [] }

-- T includes the trait that assumes Base
abbrev pub on_weak : RawTrait
on_weak = including_one (codes "T") (codes "Weak")

-- a clause that the operators of these names generate a sort
abbrev pub generates : List ℕ → List (List ℕ) → RawItem
generates sort names = Clause Generated (word_at sort 4 5) (map (λ n. named_at n 4 20) names)

-- that trait with further operators and items
abbrev pub function_with : List RawDecl → List RawItem → RawTrait
function_with declarations items =
    record one_function {
      declarations = one_function.declarations ++ declarations;
      items = one_function.items ++ items;
    }

-- the duties of a trait that has these clauses `converts`
abbrev pub with_clauses_of : RawTrait → List RawConversion → Result (List Duty) Stop
with_clauses_of raw conversions =
    duties_in (files_of ((codes "T", Ok (claiming [] [] conversions raw)) ∷ [])) (codes "T")

-- the theory of that trait with these operators and statements behind its own
abbrev pub function_theory : List PlainOperator → List Statement → Theory
function_theory operators statements =
    record {
      operators = function (codes "f") ∷ (operator (codes "a") [] (codes "S") ∷ operators);
      statements = fixed_by (codes "f") ∷ statements;
    }

-- two operators of S are the same
abbrev pub same_functions : List ℕ → List ℕ → Statement
same_functions one other =
    Equation (on (function one) (var (codes "x1") (codes "S"))) (on (function other) (var (codes "x1") (codes "S")))

-- an item that says the same of that trait as it does itself
abbrev pub fixed_item : RawItem
fixed_item = states (call (codes "f") (call (codes "a") [] ∷ [])) (call (codes "a") [])

-- an item that says that its constant is itself
abbrev pub itself_item : RawItem
itself_item = states (call (codes "a") []) (call (codes "a") [])

-- the declaration of an operator before its argument
abbrev pub declares_minus : RawDecl
declares_minus =
    record {
      forms = form_at (codes "- __") false 1 3 5 ∷ [];
      sig = record { domain = word_at (codes "S") 3 9 ∷ []; range = word_at (codes "S") 3 14 };
    }

-- a reference to it
abbrev pub named_minus : RawOpRef
named_minus = record { form = form_at (codes "- __") false 1 6 12; sig = None }

-- T has the operators of Base, and states nothing itself
abbrev pub like_base : RawTrait
like_base = a_trait (codes "T") [] base.declarations []

-- an item of a trait with the operators of Base: what Base states
abbrev pub base_item : RawItem
base_item = states (call (codes "f") (call (codes "a") [] ∷ [])) (call (codes "b") [])

-- an item of a trait with the operators of Base: f(a) is f(a)
abbrev pub plain_item : RawItem
plain_item = states (call (codes "f") (call (codes "a") [] ∷ [])) (call (codes "f") (call (codes "a") [] ∷ []))

-- the same as it is stated
abbrev pub plain_statement : Statement
plain_statement =
    Equation (on (base_f (codes "A") (codes "B")) (constant (base_a (codes "A"))))
    (on (base_f (codes "A") (codes "B")) (constant (base_a (codes "A"))))

-- the theory of a trait with the operators of Base that states nothing
abbrev pub base_operators : Theory
base_operators = record { operators = (base_theory (codes "A") (codes "B")).operators; statements = [] }

-- a reference of an implied part with these actuals
abbrev pub implies_by : List RawActual → RawRef
implies_by actuals = record { name = word_at (codes "Base") 3 11; actuals = actuals }

-- the duties of T among Base, whose trait is named otherwise, and T, which implies it
abbrev pub implies_bad : Result (List Duty) Stop
implies_bad =
    duties_in
    (files_of
    ((codes "Base", Ok (a_trait (codes "Other") [] [] []))
    ∷ (codes "T", Ok (claiming (implies_trait (codes "Base") ∷ []) [] [] like_base)) ∷ []))
    (codes "T")

-- so many duties of an empty theory
abbrev pub so_many_duties : ℕ → Duties
so_many_duties n =
    record {
      own = replicate n (record {
        label = Imply 1;
        theory = record { operators = []; statements = [] };
        statement = plain_statement;
      });
      clauses = [];
    }

-- the duties of the trait of one function where it implies these items
abbrev pub with_items : List RawItem → Result (List Duty) Stop
with_items items = duties_in (files_of ((codes "T", Ok (claiming [] items [] one_function)) ∷ [])) (codes "T")

-- its constant is itself
abbrev pub same_itself : Statement
same_itself = Equation the_constant the_constant

-- its sort is generated by its constant and its function, under this name
abbrev pub generated_by : List ℕ → Statement
generated_by name = statement.Generated (codes "S") (operator (codes "a") [] (codes "S") ∷ function name ∷ [])

-- its theory with minus, and with copies of its function and of minus
abbrev pub with_second_copy : Theory
with_second_copy =
    function_theory (function (codes "- __") ∷ function (codes "f'") ∷ function (codes "conv2'") ∷ [])
    (fixed_by (codes "f'") ∷ [])
