-- Certificates over a theory by the names that another theory has for what it names.
use Rattle.std.specs.Prelude.{◌≡◌, ℕ, suc, List, All, Contains, map, Some, position, unwrap_or}
use Rattle.std.specs.Option.{option_map_or}
use Rattle.larch_base.specs.ByNumber.{numbered}
use Rattle.larch_term.specs.Equality.{same_operator}
use Rattle.larch_term.specs.Operator.{PlainOperator}
use Rattle.larch_term.specs.declared.statement.Statement.{Statement}
use Rattle.larch_term.specs.declared.statement.Theory.{Theory}
use Rattle.larch_certificate.specs.declared.line.Line.{Line}
use Rattle.larch_verify_meaning.specs.RenamingRenaming.{renamed_statement}
use Rattle.larch_verify_law.specs.Moves.{Move, moved_line}
use Rattle.larch_import_names.specs.Names.{IsNamed, renaming_or, renaming}
use Rattle.larch_import_names.specs.Sorted.{OfTheory}
use Rattle.larch_import_names.specs.declared.pairs.Renaming.{Renaming}
use Rattle.larch_import_meaning.specs.Fresh.{KeepsSorts, fresh_sort}
use Rattle.larch_import_meaning.specs.Lengths.{longest}

-- the number of an operator among others, counted from 1; nothing has the number 0
abbrev pub number_among : List PlainOperator → PlainOperator → ℕ
number_among fs f = option_map_or suc (position (λ g. same_operator g f) fs) 0

-- the number that a list has in place of a number; behind its end a number stays
abbrev pub number_in_place : List ℕ → ℕ → ℕ
number_in_place ns k = unwrap_or (numbered ns k) k

-- the numbers among a theory's operators of those of another theory, by their new names
abbrev pub new_numbers : Renaming → Theory → Theory → List ℕ
new_numbers by t u = map (λ f. number_among u.operators ((renaming by).operator f)) t.operators

-- what takes the place of what lines name: operators and statements have other numbers, and sorts that aren't named
-- get so many letters; lines and boxes keep their numbers
abbrev pub move_by : ℕ → Renaming → List ℕ → List ℕ → Move
move_by letters by operators places =
    record {
      line = λ n. n;
      box = λ n. n;
      operator = number_in_place operators;
      statement = number_in_place places;
      renaming = renaming_or (fresh_sort letters) by;
    }

-- what takes the place of what lines over the first theory name, over the second one, in which the places are those of
-- the first one's statements
abbrev pub import_move : Renaming → Theory → Theory → List ℕ → Move
import_move by t u places = move_by (longest by u) by (new_numbers by t u) places

-- the lines over the second theory
abbrev pub import_lines : Renaming → Theory → Theory → List ℕ → List Line → List Line
import_lines by t u places lines = map (moved_line (import_move by t u places)) lines

-- the second theory has the first one by new names: sorts stay apart, those of the first one are named, its operators
-- are among the second one's, and its statements stand at the places there
pub record HasRenamed (by : Renaming) (t u : Theory) (places : List ℕ) : Type 0 where
  pub sorts : KeepsSorts by
  pub named : OfTheory (IsNamed by) t
  pub operators : All (λ f. Contains u.operators ((renaming by).operator f)) t.operators
  pub statements : (k : ℕ) (s : Statement) → numbered t.statements k ≡ Some s
      → (j : ℕ) × (numbered places k ≡ Some j) × (numbered u.statements j ≡ Some (renamed_statement (renaming by) s))
