-- What is written of a flat trait and its duties: operators, statements with numbers, then duties, and before those of
-- a clause `converts` what it adds.
use Rattle.std.specs.Prelude.{ℕ, suc, ◌+◌, if◌then◌else◌, List, [], ◌∷◌, ◌++◌, flat_map, length}
use Rattle.std.specs.Prelude.{codes, decimal}
use Rattle.larch_base.specs.Label.{label_text}
use Rattle.larch_print.specs.Print.{operator_line, printed_statement}
use Rattle.larch_term.specs.Operator.{PlainOperator}
use Rattle.larch_term.specs.declared.statement.Statement.{Statement}
use Rattle.larch_flat_meaning.specs.Flat.{FlatTrait}
use Rattle.larch_flat_meaning.specs.Gathered.{Marked}
use Rattle.larch_duties_meaning.specs.Conversions.{copy_of}
use Rattle.larch_duties_meaning.specs.Duties.{ClauseDuties, Duties, Duty}

-- a line for an operator
abbrev pub listed_operator : PlainOperator → List ℕ
listed_operator f = operator_line f ++ codes "\n"

-- a line for the statement of this number, and what it is
abbrev pub listed_statement : ℕ → List ℕ → Statement → List ℕ
listed_statement n kind s =
    codes "A" ++ (decimal n ++ (codes " " ++ (kind ++ (codes " " ++ (printed_statement s ++ codes "\n")))))

-- lines for statements of one kind, with numbers from here on
abbrev pub listed_statements : ℕ → List ℕ → List Statement → List ℕ
listed_statements n kind [] = []
listed_statements n kind (s ∷ ss) = listed_statement n kind s ++ listed_statements (suc n) kind ss

-- what a marked statement is
abbrev pub mark_text : Marked → List ℕ
mark_text m = if m.assumed then codes "assumed" else codes "asserted"

-- lines for marked statements, with numbers from here on
abbrev pub listed_marked : ℕ → List Marked → List ℕ
listed_marked n [] = []
listed_marked n (m ∷ ms) = listed_statement n (mark_text m) m.statement ++ listed_marked (suc n) ms

-- a line for a duty
abbrev pub listed_duty : Duty → List ℕ
listed_duty d = label_text d.label ++ (codes " " ++ (printed_statement d.statement ++ codes "\n"))

-- lines for what a clause adds to a trait with so many statements, whose numbers go on, and for its duties
abbrev pub listed_clause : ℕ → ClauseDuties → List ℕ
listed_clause n c =
    flat_map (λ d. listed_operator (copy_of d)) c.clause.copies
    ++ (listed_statements (suc n) (codes "copied") c.clause.copied
    ++ (listed_statements (suc (n + length c.clause.copied)) (codes "exempt") c.clause.exempt
    ++ flat_map listed_duty c.duties))

-- the lines of a flat trait and its duties, behind the line of its name
abbrev pub trait_listing : FlatTrait → Duties → List ℕ
trait_listing flat d =
    flat_map listed_operator flat.operators
    ++ (listed_marked 1 flat.marked
    ++ (flat_map listed_duty d.own ++ flat_map (listed_clause (length flat.marked)) d.clauses))
