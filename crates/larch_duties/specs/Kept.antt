-- What is kept of the duties of a trait, and the duties that it tells.
use Rattle.std.specs.Prelude.{◌≡◌, List, ◌++◌, map}
use Rattle.larch_base.specs.declared.label.Label.TheVariants.{Assume, Imply}
use Rattle.larch_term.specs.Operator.{PlainOperator}
use Rattle.larch_term.specs.declared.statement.Statement.{Statement}
use Rattle.larch_term.specs.declared.statement.Theory.{Theory}
use Rattle.larch_flat_meaning.specs.Gathered.{Gathered, statements_in}
use Rattle.larch_duties_meaning.specs.Conversions.{Conversion, clause_over}
use Rattle.larch_duties_meaning.specs.Duties.{Duties, clause_duties, label_all}
use Rattle.larch_duties_meaning.specs.Implied.{is_among}

-- the theory of what a flat trait gathers
abbrev pub theory_in : Gathered → Theory
theory_in g = record { operators = g.operators; statements = statements_in g.marked }

-- the duties of a flat trait that implies these statements, each once, and has these clauses `converts`
abbrev pub duties_in : Gathered → List Statement → List Conversion → Duties
duties_in g implied conversions =
    record {
      own = label_all Assume 1 (theory_in g) g.discharge ++ label_all Imply 1 (theory_in g) implied;
      clauses = clause_duties 1 (theory_in g) (map (clause_over (theory_in g)) conversions);
    }

-- operators are found among these exactly where they stand among those
abbrev pub Finds : List PlainOperator → List PlainOperator → Type 0
Finds index operators = (f : PlainOperator) → is_among index f ≡ is_among operators f
