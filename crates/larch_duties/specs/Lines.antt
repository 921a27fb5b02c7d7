-- The lines that are written of a trait and its duties, by what is kept of these.
use Rattle.std.specs.Prelude.{ℕ, suc, ◌+◌, List, [], ◌∷◌, ◌++◌, map, flat_map, length, codes, decimal}
use Rattle.larch_print.specs.Print.{printed_statement}
use Rattle.larch_term.specs.declared.statement.Statement.{Statement}
use Rattle.larch_term.specs.declared.statement.Theory.{Theory}
use Rattle.larch_flat_meaning.specs.Gathered.{Gathered}
use Rattle.larch_duties_meaning.specs.Conversions.{Clause, Conversion, Copied, clause_over, copy_of}
use Rattle.larch_duties_meaning.specs.Duties.{is_its_copy}
use Rattle.larch_duties_meaning.specs.Listing.{listed_marked, listed_operator}

-- a line for a statement, with a number between these words
abbrev pub numbered_line : List ℕ → ℕ → List ℕ → Statement → List ℕ
numbered_line before n behind s = before ++ (decimal n ++ (behind ++ (printed_statement s ++ codes "\n")))

-- such lines, with numbers from here on
abbrev pub numbered_lines : List ℕ → ℕ → List ℕ → List Statement → List ℕ
numbered_lines before n behind [] = []
numbered_lines before n behind (s ∷ ss) = numbered_line before n behind s ++ numbered_lines before (suc n) behind ss

-- the lines of operators and marked statements
abbrev pub flat_lines : Gathered → List ℕ
flat_lines g = flat_map listed_operator g.operators ++ listed_marked 1 g.marked

-- the lines of the duties of a trait's own theory: of statements to be discharged and of implied ones
abbrev pub own_lines : List Statement → List Statement → List ℕ
own_lines discharge implied =
    numbered_lines (codes "assume.") 1 (codes " ") discharge ++ numbered_lines (codes "imply.") 1 (codes " ") implied

-- the lines of operators that are copies
abbrev pub copy_lines : List Copied → List ℕ
copy_lines cs = flat_map (λ c. listed_operator (copy_of c)) cs

-- the lines of duties that operators are their copies, with numbers from here on
abbrev pub converted_lines : ℕ → List Copied → List ℕ
converted_lines n cs = numbered_lines (codes "convert.") n (codes " ") (map is_its_copy cs)

-- the lines of the statements that a clause adds to so many
abbrev pub added_lines : ℕ → Clause → List ℕ
added_lines count c =
    numbered_lines (codes "A") (suc count) (codes " copied ") c.copied
    ++ numbered_lines (codes "A") (suc (count + length c.copied)) (codes " exempt ") c.exempt

-- the lines of a clause of a trait with so many statements, whose duties have numbers from here on
abbrev pub clause_lines : ℕ → ℕ → Clause → List ℕ
clause_lines count n c = copy_lines c.copies ++ (added_lines count c ++ converted_lines n c.copies)

-- the lines of all clauses, whose duties have numbers from here on
abbrev pub clauses_lines : ℕ → Theory → ℕ → List Conversion → List ℕ
clauses_lines count theory n [] = []
clauses_lines count theory n (c ∷ cs) =
    clause_lines count n (clause_over theory c)
    ++ clauses_lines count theory (n + length (clause_over theory c).copies) cs
