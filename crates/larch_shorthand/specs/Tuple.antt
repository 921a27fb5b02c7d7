-- What a tuple stands for.
use Rattle.std.specs.Prelude.{ℕ, suc, List, [], ◌∷◌, ◌++◌, map, codes, decimal}
use Rattle.std.specs.List.{join_by}
use Rattle.larch_traits_items.specs.RawShorthandRawField.{RawField}
use Rattle.larch_term.specs.Operator.{PlainOperator}
use Rattle.larch_term.specs.Tree.{Tree, var, app, forest_of}
use Rattle.larch_term.specs.declared.statement.Statement.{Statement}
use Rattle.larch_term.specs.declared.statement.Statement.TheVariants.{Equation, Generated, Partitioned}
use Rattle.larch_shorthand.specs.Operators.{operator, on, on_two}
use Rattle.larch_shorthand.specs.declared.expansion.Expansion.{Expansion}
use Rattle.larch_shorthand.specs.declared.tuple.Component.{Component}

-- the operator that makes a tuple
abbrev pub maker : List ℕ → List RawField → PlainOperator
maker sort fields =
    operator (codes "[" ++ (join_by (λ f. codes "__") (codes ", ") fields ++ codes "]"))
    (map (λ f. f.sort.name) fields) sort

-- the operator that gives a field's value
abbrev pub getter : List ℕ → RawField → PlainOperator
getter sort f = operator (codes "__." ++ f.name.name) (sort ∷ []) f.sort.name

-- the operator that gives a tuple with another value of a field
abbrev pub setter : List ℕ → RawField → PlainOperator
setter sort f = operator (codes "set_" ++ f.name.name) (sort ∷ f.sort.name ∷ []) sort

-- what belongs to a field of this number: its operators, the variable for its value and that for another one
abbrev pub component_of : List ℕ → ℕ → RawField → Component
component_of sort k f =
    record {
      getter = getter sort f;
      setter = setter sort f;
      value = var (codes "x" ++ decimal k) f.sort.name;
      other = var (codes "z") f.sort.name;
    }

-- what belongs to fields, numbered from here on
abbrev pub components_of : List ℕ → ℕ → List RawField → List Component
components_of sort k [] = []
components_of sort k (f ∷ fs) = component_of sort k f ∷ components_of sort (suc k) fs

-- the operators of a tuple
abbrev pub tuple_operators : List ℕ → List RawField → List PlainOperator
tuple_operators sort fields = maker sort fields ∷ (map (getter sort) fields ++ map (setter sort) fields)

-- the getter of a tuple of all values gives the field's value
abbrev pub is_got : Tree → Component → Statement
is_got whole c = Equation (on c.getter whole) c.value

-- the setter of a tuple of all values gives the tuple of the values before, the other value and the values behind
abbrev pub is_set : PlainOperator → Tree → List Tree → Component → List Tree → Statement
is_set make whole before c behind =
    Equation (on_two c.setter whole c.other) (app make (forest_of (before ++ c.other ∷ behind)))

-- the same for each field, where these values stand before
abbrev pub all_set : PlainOperator → Tree → List Tree → List Component → List Statement
all_set make whole before [] = []
all_set make whole before (c ∷ cs) =
    is_set make whole before c (map (λ d. d.value) cs) ∷ all_set make whole (before ++ c.value ∷ []) cs

-- a tuple of all values
abbrev pub tuple_of : PlainOperator → List Component → Tree
tuple_of make cs = app make (forest_of (map (λ c. c.value) cs))

-- what is stated of a tuple: it is generated and partitioned, and what is got and set
abbrev pub tuple_statements : List ℕ → PlainOperator → List Component → List Statement
tuple_statements sort make cs =
    Generated sort (make ∷ []) ∷ Partitioned sort (map (λ c. c.getter) cs)
    ∷ (map (is_got (tuple_of make cs)) cs ++ all_set make (tuple_of make cs) [] cs)

-- a tuple of a sort with these fields
abbrev pub tuple : List ℕ → List RawField → Expansion
tuple sort fields =
    record {
      operators = tuple_operators sort fields;
      statements = tuple_statements sort (maker sort fields) (components_of sort 1 fields);
    }
