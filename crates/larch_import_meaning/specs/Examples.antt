-- Numbers by other names, in a theory that has more.
use Rattle.std.specs.Prelude.{ℕ, List, [], ◌∷◌, codes}
use Rattle.larch_term.specs.BuiltIn.{bool_sort}
use Rattle.larch_term.specs.Operator.{PlainOperator, plain}
use Rattle.larch_term.specs.Tree.{Tree, var}
use Rattle.larch_term.specs.declared.statement.Statement.{Statement}
use Rattle.larch_term.specs.declared.statement.Statement.TheVariants.{Equation, Generated}
use Rattle.larch_term.specs.declared.statement.Theory.{Theory}
use Rattle.larch_certificate.specs.Coded.{coded_var}
use Rattle.larch_certificate.specs.declared.line.Line.{Line}
use Rattle.larch_certificate.specs.declared.line.Line.TheVariants.{Refl}
use Rattle.larch_calculus.specs.Example.{number_sort, nought, successor, plus}
use Rattle.larch_verify_meaning.specs.CalculusFormula.{constant, apply_one, apply_two}
use Rattle.larch_import_names.specs.declared.pairs.Renaming.{Renaming}

-- the other sort
abbrev pub count_sort : List ℕ
count_sort = codes "M"

abbrev pub none_counted : PlainOperator
none_counted = record { name = plain (codes "0"); domain = []; range = count_sort }

abbrev pub one_more : PlainOperator
one_more = record { name = plain (codes "s"); domain = count_sort ∷ []; range = count_sort }

-- a sum by another name
abbrev pub both_counted : PlainOperator
both_counted = record { name = plain (codes "__ # __"); domain = count_sort ∷ count_sort ∷ []; range = count_sort }

-- M for N, __ # __ for __ + __
abbrev pub as_counts : Renaming
as_counts =
    record {
      sorts =
          record { old = bool_sort; new = bool_sort }
          ∷ record { old = number_sort; new = count_sort }
          ∷ [];
      operators =
          record { old = nought; new = none_counted }
          ∷ record { old = successor; new = one_more }
          ∷ record { old = plus; new = both_counted }
          ∷ [];
    }

-- the variable x or y
abbrev pub x_count : Tree
x_count = var (codes "x") count_sort

abbrev pub y_count : Tree
y_count = var (codes "y") count_sort

-- 0 # x == x
abbrev pub count_from_none : Statement
count_from_none = Equation (apply_two both_counted (constant none_counted) x_count) x_count

-- a theory with a statement before those of the numbers, and the operators in another order
abbrev pub counts : Theory
counts =
    record {
      operators = both_counted ∷ one_more ∷ none_counted ∷ [];
      statements =
          Equation (apply_one one_more x_count) (apply_one one_more x_count)
          ∷ Generated count_sort (none_counted ∷ one_more ∷ [])
          ∷ Equation (apply_two both_counted x_count (constant none_counted)) x_count
          ∷ Equation (apply_two both_counted x_count (apply_one one_more y_count))
          (apply_one one_more (apply_two both_counted x_count y_count))
          ∷ [];
    }

-- where it has the statements of the numbers
abbrev pub count_places : List ℕ
count_places = 2 ∷ 3 ∷ 4 ∷ []

-- a line with a variable of a sort that the numbers don't have, of the name that theirs gets
abbrev pub of_no_sort : List Line
of_no_sort = Refl (coded_var (codes "x") count_sort) ∷ []

-- the line by new names: that sort gets as many letters as Bool has, which is the longest here
abbrev pub of_fresh_sort : List Line
of_fresh_sort = Refl (coded_var (codes "x") (codes "ssssM")) ∷ []
