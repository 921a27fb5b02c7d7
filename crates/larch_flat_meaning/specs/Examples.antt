-- What examples are written with, and the traits of the examples.
use Rattle.std.specs.Prelude.{ℕ, zero, suc, Bool, true, false, bytes_eq, codes, List, [], ◌∷◌, map, Some, None, Result}
use Rattle.std.specs.Prelude.{Ok, Err}
use Rattle.std.specs.Prelude.{replicate}
use Rattle.std.specs.Fmt.{digits}
use Rattle.std.specs.Map.{lookup}
use Rattle.larch_base.specs.declared.code.Code.{Code}
use Rattle.larch_base.specs.declared.fault.Fault.{Fault}
use Rattle.larch_raw.specs.RawTree.{RawTree, apply, raw_forest}
use Rattle.larch_raw.specs.declared.declared.RawDecl.{RawDecl}
use Rattle.larch_raw.specs.declared.declared.RawForm.{RawForm}
use Rattle.larch_raw.specs.declared.declared.RawWord.{RawWord}
use Rattle.larch_raw.specs.declared.equation.RawItem.{RawItem}
use Rattle.larch_raw.specs.declared.equation.RawItem.TheVariants.{Equations}
use Rattle.larch_raw.specs.declared.equation.RawTrait.{RawTrait}
use Rattle.larch_raw.specs.declared.reference.RawActual.{RawActual}
use Rattle.larch_raw.specs.declared.reference.RawActual.TheVariants.{Replace}
use Rattle.larch_raw.specs.declared.reference.RawReference.{RawReference}
use Rattle.larch_raw.specs.declared.shorthand.RawField.{RawField}
use Rattle.larch_raw.specs.declared.shorthand.RawShorthand.{RawShorthand}
use Rattle.larch_raw.specs.declared.shorthand.RawShorthand.TheVariants.{Enumeration, Union}
use Rattle.larch_term.specs.BuiltIn.{built_in, is_built_in}
use Rattle.larch_term.specs.Equality.{same_tree, same_statement}
use Rattle.larch_term.specs.OperatorKey.{same_operator}
use Rattle.larch_term.specs.Tree.{Tree, var}
use Rattle.larch_term.specs.Truth.{truth}
use Rattle.larch_term.specs.declared.built_in.BuiltIn.TheVariants.{Unequal}
use Rattle.larch_term.specs.Operator.{PlainOperator}
use Rattle.larch_term.specs.declared.statement.Statement.{Statement}
use Rattle.larch_term.specs.declared.statement.Statement.TheVariants.{Equation, Generated, Partitioned}
use Rattle.larch_term.specs.declared.statement.Theory.{Theory}
use Rattle.larch_shorthand.specs.SortsMeaningRead.{read_equation, read_term, unread_in}
use Rattle.larch_shorthand.specs.SortsMeaningReadingLists.{readings}
use Rattle.larch_shorthand.specs.SortsMeaningUnknown.{unknown_among}
use Rattle.larch_shorthand.specs.Operators.{operator, constant, on, on_two}
use Rattle.larch_flat_meaning.specs.Files.{Files}
use Rattle.larch_flat_meaning.specs.Flat.{FlatTrait, flat, theory_of}
use Rattle.larch_flat_meaning.specs.Gathered.{Gathered, Marked}
use Rattle.larch_flat_meaning.specs.Replacements.{replacements_of}
use Rattle.larch_flat_meaning.specs.Stops.{Stop, Refused}

-- all words that an example unfolds
unfoldable pub computing : Unit {0}
unfolding replacements_of flat same_operator same_tree same_statement is_built_in read_equation read_term unread_in
    unknown_among readings digits
computing = tt

-- files by their names
abbrev pub files_of : List (List ℕ × Result RawTrait Fault) → Files
files_of table name = lookup (bytes_eq name) table

-- what is shown of a flat trait: its theory, which of its statements are assumed, and what is to be discharged
abbrev pub shown : Result FlatTrait Stop → Result (Theory × List Bool × List Statement) Stop
shown (Ok t) = Ok (theory_of t, map (λ m. m.assumed) t.marked, t.discharge)
shown (Err stop) = Err stop

-- a code at a line and a column
abbrev pub wrong : Code → ℕ → ℕ → Result (Theory × List Bool × List Statement) Stop
wrong code line column = Err (Refused (record { pos = record { line = line; column = column }; code = code }))

-- a word at a line and a column
abbrev pub word_at : List ℕ → ℕ → ℕ → RawWord
word_at name line column = record { name = name; pos = record { line = line; column = column } }

-- a word whose position doesn't matter
abbrev pub word : List ℕ → RawWord
word name = word_at name 1 1

-- a form with its name, whether it is a bare word, how many markers it has, and its line and column
abbrev pub form_at : List ℕ → Bool → ℕ → ℕ → ℕ → RawForm
form_at name bare markers line column =
    record { name = name; word = bare; markers = markers; pos = record { line = line; column = column } }

-- a bare word as a form
abbrev pub bare : List ℕ → ℕ → ℕ → RawForm
bare name line column = form_at name true 0 line column

-- the declaration of an operator with a domain and a range
abbrev pub declares : List ℕ → List (List ℕ) → List ℕ → RawDecl
declares name domain range =
    record { forms = bare name 1 1 ∷ []; sig = record { domain = map word domain; range = word range } }

-- an operator of arguments
abbrev pub call : List ℕ → List RawTree → RawTree
call name arguments = apply name (raw_forest arguments) (record { line = 1; column = 1 })

-- an item of one equation between terms without variables
abbrev pub states : RawTree → RawTree → RawItem
states left right =
    Equations []
    (record {
      left = left;
      right = Some (record { term = right; pos = record { line = 1; column = 1 } });
      first = record { line = 1; column = 1 };
    } ∷ [])

-- a reference of `includes` at a line and a column, with its actuals
abbrev pub includes : List ℕ → ℕ → ℕ → List RawActual → RawReference
includes name line column actuals =
    record { assumed = false; target = record { name = word_at name line column; actuals = actuals } }

-- a reference of `assumes` without actuals
abbrev pub assumes : List ℕ → ℕ → ℕ → RawReference
assumes name line column =
    record { assumed = true; target = record { name = word_at name line column; actuals = [] } }

-- a new word for an old one, the second of which stands at a line and a column
abbrev pub for_old : List ℕ → List ℕ → ℕ → ℕ → RawActual
for_old new old line column = Replace (bare new 1 1) (bare old line column) None

-- a field
abbrev pub field : List ℕ → List ℕ → RawField
field name sort = record { name = word name; sort = word sort }

-- a trait without formals and shorthands
abbrev pub a_trait : List ℕ → List RawReference → List RawDecl → List RawItem → RawTrait
a_trait name references declarations items =
    record {
      name = word name;
      formals = [];
      shorthands = [];
      references = references;
      declarations = declarations;
      items = items;
      implies = false;
      implied = [];
      implied_items = [];
      conversions = [];
    }

-- a trait of shorthands alone
abbrev pub of_shorthands : List ℕ → List RawShorthand → RawTrait
of_shorthands name shorthands =
    record {
      name = word name;
      formals = [];
      shorthands = shorthands;
      references = [];
      declarations = [];
      items = [];
      implies = false;
      implied = [];
      implied_items = [];
      conversions = [];
    }

-- a: -> A, b: -> B and f: A -> B, where f(a) is b
abbrev pub base : RawTrait
base =
    a_trait (codes "Base") []
    (declares (codes "a") [] (codes "A") ∷ declares (codes "b") [] (codes "B")
    ∷ declares (codes "f") (codes "A" ∷ []) (codes "B") ∷ [])
    (states (call (codes "f") (call (codes "a") [] ∷ [])) (call (codes "b") []) ∷ [])

-- a trait that includes Base with these actuals
abbrev pub of_base : List RawActual → RawTrait
of_base actuals = a_trait (codes "T") (includes (codes "Base") 2 12 actuals ∷ []) [] []

-- a trait that includes these, at columns 12 and 16
abbrev pub including : List ℕ → List ℕ → List ℕ → RawTrait
including name first second = a_trait name (includes first 2 12 [] ∷ includes second 2 16 [] ∷ []) [] []

-- a trait that includes another one
abbrev pub including_one : List ℕ → List ℕ → RawTrait
including_one name other = a_trait name (includes other 2 12 [] ∷ []) [] []

-- a trait that assumes another one
abbrev pub assuming : List ℕ → List ℕ → RawTrait
assuming name other = a_trait name (assumes other 2 11 ∷ []) [] []

-- the flat trait of T among Base and a trait T
abbrev pub beside_base : RawTrait → Result (Theory × List Bool × List Statement) Stop
beside_base raw = shown (flat 256 (files_of ((codes "Base", Ok base) ∷ (codes "T", Ok raw) ∷ [])) (codes "T"))

-- the flat trait of T alone
abbrev pub alone : RawTrait → Result (Theory × List Bool × List Statement) Stop
alone raw = shown (flat 256 (files_of ((codes "T", Ok raw) ∷ [])) (codes "T"))

-- the constant a of Base, at a sort
abbrev pub base_a : List ℕ → PlainOperator
base_a s = operator (codes "a") [] s

-- its constant b
abbrev pub base_b : List ℕ → PlainOperator
base_b s = operator (codes "b") [] s

-- its operator f, from a sort to another
abbrev pub base_f : List ℕ → List ℕ → PlainOperator
base_f s r = operator (codes "f") (s ∷ []) r

-- what it states, with these sorts in the places of A and B
abbrev pub base_statement : List ℕ → List ℕ → Statement
base_statement s r = Equation (on (base_f s r) (constant (base_a s))) (constant (base_b r))

-- its theory, with these sorts in the places of A and B
abbrev pub base_theory : List ℕ → List ℕ → Theory
base_theory s r =
    record { operators = base_a s ∷ base_b r ∷ base_f s r ∷ []; statements = base_statement s r ∷ [] }

-- a theory with nothing in it
abbrev pub no_theory : Theory
no_theory = record { operators = []; statements = [] }

-- the files of Base, of two traits that include it, and of one that includes these two
abbrev pub diamond : Files
diamond =
    files_of
    ((codes "Base", Ok base) ∷ (codes "Le", Ok (including_one (codes "Le") (codes "Base")))
    ∷ (codes "Ri", Ok (including_one (codes "Ri") (codes "Base")))
    ∷ (codes "Dia", Ok (including (codes "Dia") (codes "Le") (codes "Ri"))) ∷ [])

-- the files of two traits that include each other
abbrev pub circle : Files
circle =
    files_of
    ((codes "P", Ok (including_one (codes "P") (codes "Q")))
    ∷ (codes "Q", Ok (including_one (codes "Q") (codes "P"))) ∷ [])

-- the same where the second one includes nothing
abbrev pub no_circle : Files
no_circle =
    files_of
    ((codes "P", Ok (including_one (codes "P") (codes "Q"))) ∷ (codes "Q", Ok (a_trait (codes "Q") [] [] [])) ∷ [])

-- a trait that assumes Base, and then includes it
abbrev pub both : RawTrait
both = a_trait (codes "Both") (assumes (codes "Base") 2 11 ∷ includes (codes "Base") 3 12 [] ∷ []) [] []

-- the files of Base, of Low, which assumes it, of High, which assumes Low, of Use, which includes Low, of Own, which
-- includes Low and Base, and of Both, which assumes Base and then includes it
abbrev pub assumptions : Files
assumptions =
    files_of
    ((codes "Base", Ok base) ∷ (codes "Low", Ok (assuming (codes "Low") (codes "Base")))
    ∷ (codes "High", Ok (assuming (codes "High") (codes "Low")))
    ∷ (codes "Use", Ok (including_one (codes "Use") (codes "Low")))
    ∷ (codes "Own", Ok (including (codes "Own") (codes "Low") (codes "Base")))
    ∷ (codes "Both", Ok both) ∷ [])

-- a sort of one element, and a union of a value of N or a truth value
abbrev pub sorts_made : RawTrait
sorts_made =
    of_shorthands (codes "T")
    (Enumeration (word (codes "One")) (word (codes "only") ∷ [])
    ∷ Union (word (codes "U")) (field (codes "num") (codes "N") ∷ field (codes "flag") (codes "Bool") ∷ []) ∷ [])

-- their operators
abbrev pub only : PlainOperator
only = operator (codes "only") [] (codes "One")

abbrev pub num_tag : PlainOperator
num_tag = operator (codes "num") [] (codes "U_tag")

abbrev pub flag_tag : PlainOperator
flag_tag = operator (codes "flag") [] (codes "U_tag")

abbrev pub next_tag : PlainOperator
next_tag = operator (codes "succ") (codes "U_tag" ∷ []) (codes "U_tag")

abbrev pub of_num : PlainOperator
of_num = operator (codes "num") (codes "N" ∷ []) (codes "U")

abbrev pub of_flag : PlainOperator
of_flag = operator (codes "flag") (codes "Bool" ∷ []) (codes "U")

abbrev pub num_field : PlainOperator
num_field = operator (codes "__.num") (codes "U" ∷ []) (codes "N")

abbrev pub flag_field : PlainOperator
flag_field = operator (codes "__.flag") (codes "U" ∷ []) (codes "Bool")

abbrev pub tag_field : PlainOperator
tag_field = operator (codes "tag") (codes "U" ∷ []) (codes "U_tag")

-- the theory of both
abbrev pub made_theory : Theory
made_theory =
    record {
      operators =
          only ∷ operator (codes "succ") (codes "One" ∷ []) (codes "One") ∷ num_tag ∷ flag_tag ∷ next_tag
          ∷ of_num ∷ of_flag
          ∷ num_field ∷ flag_field ∷ tag_field ∷ [];
      statements =
          Generated (codes "One") (only ∷ [])
          ∷ Generated (codes "U_tag") (num_tag ∷ flag_tag ∷ [])
          ∷ Equation (on_two (built_in Unequal (codes "U_tag")) (constant num_tag) (constant flag_tag)) truth
          ∷ Equation (on next_tag (constant num_tag)) (constant flag_tag)
          ∷ Generated (codes "U") (of_num ∷ of_flag ∷ [])
          ∷ Partitioned (codes "U") (num_field ∷ flag_field ∷ tag_field ∷ [])
          ∷ Equation (on num_field (on of_num (var (codes "x") (codes "N")))) (var (codes "x") (codes "N"))
          ∷ Equation (on flag_field (on of_flag (var (codes "x") (codes "Bool")))) (var (codes "x") (codes "Bool"))
          ∷ Equation (on tag_field (on of_num (var (codes "x") (codes "N")))) (constant num_tag)
          ∷ Equation (on tag_field (on of_flag (var (codes "x") (codes "Bool")))) (constant flag_tag)
          ∷ [];
    }

-- an enumeration of E in which the third name is the first one again
abbrev pub twice_named : RawTrait
twice_named =
    of_shorthands (codes "T")
    (Enumeration (word (codes "E"))
    (word_at (codes "p") 2 20 ∷ word_at (codes "q") 2 23 ∷ word_at (codes "p") 2 26 ∷ []) ∷ [])

-- an operator of one place with a domain of two sorts
abbrev pub unfit : RawTrait
unfit =
    a_trait (codes "T") []
    (record {
      forms = form_at (codes "- __") false 1 3 5 ∷ [];
      sig = record { domain = word (codes "A") ∷ word (codes "A") ∷ []; range = word (codes "A") };
    } ∷ []) []

-- the constant true of Bool declared
abbrev pub declares_truth : RawTrait
declares_truth =
    a_trait (codes "T") []
    (record {
      forms = bare (codes "true") 3 5 ∷ [];
      sig = record { domain = []; range = word (codes "Bool") };
    } ∷ []) []

-- a constant stated that isn't there
abbrev pub states_nothing : RawTrait
states_nothing =
    a_trait (codes "T") [] []
    (states (apply (codes "c") (raw_forest []) (record { line = 4; column = 5 })) (call (codes "c") []) ∷ [])

-- what is gathered where there are so many times one operator
abbrev pub so_many : ℕ → Gathered
so_many n = record { operators = replicate n (base_a (codes "A")); marked = []; discharge = [] }

-- a trait with a formal A, of which there is a constant a
abbrev pub with_formal : RawTrait
with_formal =
    record {
      name = word (codes "For");
      formals = bare (codes "A") 1 6 ∷ [];
      shorthands = [];
      references = [];
      declarations = declares (codes "a") [] (codes "A") ∷ [];
      items = [];
      implies = false;
      implied = [];
      implied_items = [];
      conversions = [];
    }

-- the flat trait of a trait that includes it with these forms in the places of its formals
abbrev pub of_formal : List RawActual → Result (Theory × List Bool × List Statement) Stop
of_formal actuals =
    shown
    (flat 256
    (files_of
    ((codes "For", Ok with_formal)
    ∷ (codes "T", Ok (a_trait (codes "T") (includes (codes "For") 2 12 actuals ∷ []) [] [])) ∷ []))
    (codes "T"))

-- a trait with a constant of one name at two sorts
abbrev pub overload_trait : RawTrait
overload_trait =
    a_trait (codes "Two") [] (declares (codes "e") [] (codes "A") ∷ declares (codes "e") [] (codes "B") ∷ []) []

-- the flat trait of a trait that includes it with these actuals
abbrev pub of_overloaded : List RawActual → Result (Theory × List Bool × List Statement) Stop
of_overloaded actuals =
    shown
    (flat 256
    (files_of
    ((codes "Two", Ok overload_trait)
    ∷ (codes "T", Ok (a_trait (codes "T") (includes (codes "Two") 2 12 actuals ∷ []) [] [])) ∷ []))
    (codes "T"))

-- a theory of constants alone, with their sorts
abbrev pub constants : List (List ℕ × List ℕ) → Theory
constants cs = record { operators = map (λ c. operator c.0 [] c.1) cs; statements = [] }

-- n for the constant e of sort B
abbrev pub for_one : RawActual
for_one =
    Replace (bare (codes "n") 1 1) (bare (codes "e") 2 24) (Some (record { domain = []; range = word (codes "B") }))

-- the files of T, whose trait is named otherwise, and of a trait U that includes it
abbrev pub bad_files : Files
bad_files =
    files_of
    ((codes "T", Ok (a_trait (codes "Other") [] [] [])) ∷ (codes "U", Ok (including_one (codes "U") (codes "T"))) ∷ [])

-- an old name that stands at column 24, by a form with two markers
abbrev pub form_for : List ℕ → RawActual
form_for old = Replace (form_at (codes "__ + __") false 2 1 1) (bare old 2 24) None

-- n for the constant of this name, at this sort
abbrev pub for_constant : List ℕ → List ℕ → RawActual
for_constant old sort =
    Replace (bare (codes "n") 1 1) (bare old 2 24) (Some (record { domain = []; range = word sort }))

-- the flat trait of a trait that includes one with a constant true of a sort A, with these actuals
abbrev pub of_own_truth : List RawActual → Result (Theory × List Bool × List Statement) Stop
of_own_truth actuals =
    shown
    (flat 256
    (files_of
    ((codes "Own", Ok (a_trait (codes "Own") [] (declares (codes "true") [] (codes "A") ∷ []) []))
    ∷ (codes "T", Ok (a_trait (codes "T") (includes (codes "Own") 2 12 actuals ∷ []) [] [])) ∷ []))
    (codes "T"))

-- a term of so many nodes and one more
abbrev pub tall : ℕ → Tree
tall zero = constant (base_a (codes "A"))
tall (suc n) = on (base_f (codes "A") (codes "A")) (tall n)

-- so many times one statement, of so many nodes and two more
abbrev pub so_stated : ℕ → ℕ → List Marked
so_stated n size =
    replicate n (record { statement = Equation (tall size) (constant (base_a (codes "A"))); assumed = false })

-- only statements are gathered
abbrev pub stating : List Marked → Gathered
stating ms = record { operators = []; marked = ms; discharge = [] }

-- a flat trait with nothing in it
abbrev pub nothing_flat : FlatTrait
nothing_flat = record { raw = a_trait (codes "Base") [] [] []; operators = []; marked = []; discharge = [] }

-- a code at a line and a column, of an answer of another kind
abbrev pub faulty : Code → ℕ → ℕ → Fault
faulty code line column = record { pos = record { line = line; column = column }; code = code }
