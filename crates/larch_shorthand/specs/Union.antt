-- What a union stands for.
use Rattle.std.specs.Prelude.{ℕ, List, [], ◌∷◌, ◌++◌, map, codes}
use Rattle.larch_traits_items.specs.RawShorthandRawField.{RawField}
use Rattle.larch_term.specs.Operator.{PlainOperator}
use Rattle.larch_term.specs.Tree.{var}
use Rattle.larch_term.specs.declared.statement.Statement.{Statement}
use Rattle.larch_term.specs.declared.statement.Statement.TheVariants.{Equation, Generated, Partitioned}
use Rattle.larch_shorthand.specs.Enumeration.{enumeration}
use Rattle.larch_shorthand.specs.Expansion.{followed_by}
use Rattle.larch_shorthand.specs.Operators.{operator, constant, on}
use Rattle.larch_shorthand.specs.Tuple.{getter}
use Rattle.larch_shorthand.specs.declared.expansion.Expansion.{Expansion}
use Rattle.larch_shorthand.specs.declared.union_.Case.{Case}

-- the sort of a union's tags
abbrev pub tag_sort : List ℕ → List ℕ
tag_sort sort = sort ++ codes "_tag"

-- the operator that gives the tag of a value
abbrev pub tag : List ℕ → PlainOperator
tag sort = operator (codes "tag") (sort ∷ []) (tag_sort sort)

-- the operator that makes a value of the union from a field's value
abbrev pub injection : List ℕ → RawField → PlainOperator
injection sort f = operator f.name.name (f.sort.name ∷ []) sort

-- the tag of a field
abbrev pub tag_of : List ℕ → RawField → PlainOperator
tag_of sort f = operator f.name.name [] (tag_sort sort)

-- what belongs to a field: its operators, its tag, and the variable for its value
abbrev pub case_of : List ℕ → RawField → Case
case_of sort f =
    record {
      injection = injection sort f;
      getter = getter sort f;
      tag = tag_of sort f;
      value = var (codes "x") f.sort.name;
    }

-- the operators of a union beside those of its tags
abbrev pub union_operators : List ℕ → List RawField → List PlainOperator
union_operators sort fields =
    map (injection sort) fields ++ (map (getter sort) fields ++ tag sort ∷ [])

-- a field's value is got back
abbrev pub is_back : Case → Statement
is_back c = Equation (on c.getter (on c.injection c.value)) c.value

-- a field's value made a value of the union has the field's tag
abbrev pub is_tagged : PlainOperator → Case → Statement
is_tagged tag c = Equation (on tag (on c.injection c.value)) (constant c.tag)

-- what is stated of a union: it is generated and partitioned, what is got back, and what is tagged
abbrev pub union_statements : List ℕ → List Case → List Statement
union_statements sort cs =
    Generated sort (map (λ c. c.injection) cs) ∷ Partitioned sort (map (λ c. c.getter) cs ++ tag sort ∷ [])
    ∷ (map is_back cs ++ map (is_tagged (tag sort)) cs)

-- the names of fields
abbrev pub names_of : List RawField → List (List ℕ)
names_of fields = map (λ f. f.name.name) fields

-- a union of a sort with these fields: the enumeration of its tags comes first
abbrev pub union_ : List ℕ → List RawField → Expansion
union_ sort fields =
    followed_by (enumeration (tag_sort sort) (names_of fields))
    (record {
      operators = union_operators sort fields;
      statements = union_statements sort (map (case_of sort) fields);
    })
