-- Open boxes: which operators stand for their constants, and how those are named in lines.
use Rattle.std.specs.Prelude.{ℕ, suc, if◌then◌else◌, List, [], ◌∷◌, Option, Some, None, option_map}
use Rattle.std.specs.Option.{option_or}
use Rattle.larch_term.specs.Operator.{OperatorName, PlainOperator, plain, boxed}
use Rattle.larch_term.specs.OperatorKey.{same_operator}
use Rattle.larch_verify_meaning.specs.RenamingRenaming.{Renaming}
use Rattle.larch_derive.specs.declared.open_box.OpenBox.{OpenBox}

-- the place of an operator in a list, the first place having a number
abbrev pub place_from : ℕ → List PlainOperator → PlainOperator → Option ℕ
place_from k [] f = None
place_from k (g ∷ gs) f = if same_operator g f then Some k else place_from (suc k) gs f

-- the numbers of the box and of its constant that an operator stands for, if it does for one of an open box
abbrev pub constant_of : List OpenBox → PlainOperator → Option (ℕ × ℕ)
constant_of [] f = None
constant_of (b ∷ bs) f = option_or (option_map (λ k. (b.number, k)) (place_from 1 b.constants f)) (constant_of bs f)

-- the name in lines: that of a constant has the two numbers, and other names are bytes; there is no box with number 0
abbrev pub name_in_lines : Option (ℕ × ℕ) → OperatorName → OperatorName
name_in_lines None (plain n) = plain n
name_in_lines None (boxed b k) = boxed 0 0
name_in_lines (Some p) n = boxed p.0 p.1

-- what an operator is in lines
abbrev pub in_lines : List OpenBox → PlainOperator → PlainOperator
in_lines bs f = record { name = name_in_lines (constant_of bs f) f.name; domain = f.domain; range = f.range }

-- the renaming of the operators that stand for constants of open boxes to those constants
abbrev pub naming : List OpenBox → Renaming
naming bs = record { sort = λ s. s; operator = in_lines bs }
