-- The duties of a trait: each a label, and a statement that is to be derived from a theory.
use Rattle.std.specs.Prelude.{ℕ, suc, ◌+◌, nat_lt, List, [], ◌∷◌, ◌++◌, map, flat_map, length, codes, decimal, Result}
use Rattle.std.specs.Prelude.{Ok}
use Rattle.larch_base.specs.declared.code.Code.TheVariants.{Size}
use Rattle.larch_base.specs.declared.fault.Fault.{Fault}
use Rattle.larch_base.specs.declared.label.Label.{Label}
use Rattle.larch_base.specs.declared.label.Label.TheVariants.{Assume, Imply, Convert}
use Rattle.larch_base.specs.declared.limits.TheConstants.{MAX_DUTIES}
use Rattle.larch_base.specs.declared.position.Pos.{Pos}
use Rattle.larch_term.specs.Operator.{PlainOperator}
use Rattle.larch_term.specs.Tree.{Tree, var, app, forest_of}
use Rattle.larch_term.specs.declared.statement.Statement.{Statement}
use Rattle.larch_term.specs.declared.statement.Statement.TheVariants.{Equation}
use Rattle.larch_term.specs.declared.statement.Theory.{Theory}
use Rattle.larch_base_meaning.specs.Steps.{after, each}
use Rattle.larch_flat_meaning.specs.Files.{Files}
use Rattle.larch_flat_meaning.specs.Flat.{FlatTrait, flat, theory_of}
use Rattle.larch_flat_meaning.specs.Gathered.{new_among}
use Rattle.larch_flat_meaning.specs.Stops.{Stop, refused_if, surely}
use Rattle.larch_duties_meaning.specs.Conversions.{Clause, Copied, clause_over, clause_theory, conversion_of, copy_of}
use Rattle.larch_duties_meaning.specs.Implied.{implied_statements}

-- a duty
pub record Duty : Type 0 where
  pub label : Label
  pub theory : Theory
  pub statement : Statement

-- duties of one kind over one theory, with numbers from here on
abbrev pub label_all : (ℕ → Label) → ℕ → Theory → List Statement → List Duty
label_all kind n theory [] = []
label_all kind n theory (s ∷ ss) =
    record { label = kind n; theory = theory; statement = s } ∷ label_all kind (suc n) theory ss

-- variables of these sorts, x1, x2, .., with numbers from here on
abbrev pub arguments : ℕ → List (List ℕ) → List Tree
arguments n [] = []
arguments n (s ∷ ss) = var (codes "x" ++ decimal n) s ∷ arguments (suc n) ss

-- an operator, or its copy, of the variables x1, x2, ..
abbrev pub of_variables : PlainOperator → Tree
of_variables f = app f (forest_of (arguments 1 f.domain))

-- an operator is its copy, whatever its arguments are
abbrev pub is_its_copy : Copied → Statement
is_its_copy c = Equation (of_variables c.operator) (of_variables (copy_of c))

-- what a clause adds, with its duties
pub record ClauseDuties : Type 0 where
  pub clause : Clause
  pub duties : List Duty

-- what clauses add to a trait's theory, with their duties, whose numbers go on from here over all clauses
abbrev pub clause_duties : ℕ → Theory → List Clause → List ClauseDuties
clause_duties n theory [] = []
clause_duties n theory (c ∷ cs) =
    record { clause = c; duties = label_all Convert n (clause_theory theory c) (map is_its_copy c.copies) }
    ∷ clause_duties (n + length c.copies) theory cs

-- the duties of a trait: those of its own theory, and those of each clause `converts`
pub record Duties : Type 0 where
  pub own : List Duty
  pub clauses : List ClauseDuties

-- all duties, in order
abbrev pub all_duties : Duties → List Duty
all_duties d = d.own ++ flat_map (λ c. c.duties) d.clauses

-- the duties of a trait that implies these statements, where its clauses add this: first what is to be discharged, then
-- what is implied and isn't to be discharged, each statement once, then the converted operators
abbrev pub duties_of : FlatTrait → List Statement → List Clause → Duties
duties_of flat ss cs =
    record {
      own = label_all Assume 1 (theory_of flat) flat.discharge
          ++ label_all Imply 1 (theory_of flat) (new_among flat.discharge ss);
      clauses = clause_duties 1 (theory_of flat) cs;
    }

-- duties, unless they are too many
abbrev pub not_too_many : Pos → Duties → Result Duties Fault
not_too_many pos d = refused_if Size pos (nat_lt MAX_DUTIES (length (all_duties d))) (Ok d)

-- the duties of a trait that implies these statements, or what is wrong with its clauses `converts` first
abbrev pub with_clauses : FlatTrait → List Statement → Result Duties Fault
with_clauses own ss =
    after (each (conversion_of own.operators) own.raw.conversions) (λ cs.
    not_too_many own.raw.name.pos (duties_of own ss (map (clause_over (theory_of own)) cs)))

-- the duties of a flat trait among at most so many files, or what is wrong with its claims first
unfoldable pub duties : ℕ → Files → FlatTrait → Result Duties Stop
duties limit files own = after (implied_statements limit files own) (λ ss. surely (with_clauses own ss))

-- the duties of the trait of a name among at most so many files, or what is wrong first: its flat trait comes before
-- its claims
abbrev pub duties_named : ℕ → Files → List ℕ → Result Duties Stop
duties_named limit files name = after (flat limit files name) (duties limit files)
