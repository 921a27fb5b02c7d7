-- What the examples of shorthands are written with.
use Rattle.std.specs.Prelude.{ℕ, codes, List, [], ◌∷◌}
use Rattle.std.specs.Fmt.{digits}
use Rattle.larch_traits_items.specs.RawRawWord.{RawWord}
use Rattle.larch_traits_items.specs.RawShorthandRawField.{RawField}
use Rattle.larch_traits_items.specs.RawShorthandRawShorthand.{RawShorthand}
use Rattle.larch_traits_items.specs.RawShorthandRawShorthand.TheVariants.{Tuple}
use Rattle.larch_term.specs.Operator.{PlainOperator}
use Rattle.larch_term.specs.Tree.{Tree, app, forest_of, var}
use Rattle.larch_term.specs.declared.statement.Statement.TheVariants.{Equation, Generated, Partitioned}
use Rattle.larch_shorthand.specs.Operators.{operator, on, on_two}
use Rattle.larch_shorthand.specs.declared.expansion.Expansion.{Expansion}

-- all words that an example unfolds
unfoldable pub computing : Unit {0}
unfolding digits
computing = tt

-- a word at a column of the first line
abbrev pub word_at : List ℕ → ℕ → RawWord
word_at name column = record { name = name; pos = record { line = 1; column = column } }

-- a field whose name stands at a column
abbrev pub field_at : List ℕ → List ℕ → ℕ → RawField
field_at name sort column = record { name = word_at name column; sort = word_at sort 1 }

-- a tuple P of these fields
abbrev pub tuple_of : List RawField → RawShorthand
tuple_of fields = Tuple (word_at (codes "P") 1) fields

-- the operators of a tuple P of a value a of A and a value b of B
abbrev pub pair : PlainOperator
pair = operator (codes "[__, __]") (codes "A" ∷ codes "B" ∷ []) (codes "P")

abbrev pub get_a : PlainOperator
get_a = operator (codes "__.a") (codes "P" ∷ []) (codes "A")

abbrev pub get_b : PlainOperator
get_b = operator (codes "__.b") (codes "P" ∷ []) (codes "B")

abbrev pub set_a : PlainOperator
set_a = operator (codes "set_a") (codes "P" ∷ codes "A" ∷ []) (codes "P")

abbrev pub set_b : PlainOperator
set_b = operator (codes "set_b") (codes "P" ∷ codes "B" ∷ []) (codes "P")

-- the tuple of two terms
abbrev pub pair_term : Tree → Tree → Tree
pair_term a b = app pair (forest_of (a ∷ b ∷ []))

-- variables of both sorts
abbrev pub of_a : List ℕ → Tree
of_a name = var name (codes "A")

abbrev pub of_b : List ℕ → Tree
of_b name = var name (codes "B")

-- what such a tuple stands for
abbrev pub made_pair : Expansion
made_pair =
    let whole : Tree = pair_term (of_a (codes "x1")) (of_b (codes "x2")) in
    record {
      operators = pair ∷ get_a ∷ get_b ∷ set_a ∷ set_b ∷ [];
      statements =
          Generated (codes "P") (pair ∷ [])
          ∷ Partitioned (codes "P") (get_a ∷ get_b ∷ [])
          ∷ Equation (on get_a whole) (of_a (codes "x1"))
          ∷ Equation (on get_b whole) (of_b (codes "x2"))
          ∷ Equation (on_two set_a whole (of_a (codes "z"))) (pair_term (of_a (codes "z")) (of_b (codes "x2")))
          ∷ Equation (on_two set_b whole (of_b (codes "z"))) (pair_term (of_a (codes "x1")) (of_b (codes "z")))
          ∷ [];
    }

-- the operators of a tuple P of one value a of A
abbrev pub single : PlainOperator
single = operator (codes "[__]") (codes "A" ∷ []) (codes "P")

-- what such a tuple stands for
abbrev pub made_single : Expansion
made_single =
    let whole : Tree = on single (of_a (codes "x1")) in
    record {
      operators = single ∷ get_a ∷ set_a ∷ [];
      statements =
          Generated (codes "P") (single ∷ [])
          ∷ Partitioned (codes "P") (get_a ∷ [])
          ∷ Equation (on get_a whole) (of_a (codes "x1"))
          ∷ Equation (on_two set_a whole (of_a (codes "z"))) (on single (of_a (codes "z")))
          ∷ [];
    }
