-- What reading equations and lone terms answers.
use Rattle.std.proofs.Common.{◌≡◌, ℕ, List, Option, Some, None, Result, Ok, Err, IfOk, IfErr, IfSome}
use Rattle.larch_base.specs.Answering.{Answers}
use Rattle.larch_base.specs.declared.code.Code.TheVariants.{UnknownSort, NoReading}
use Rattle.larch_base.specs.declared.fault.Fault.{Fault}
use Rattle.larch_base.specs.declared.position.Pos.{Pos}
use Rattle.larch_raw.specs.declared.equation.RawEquation.{RawEquation}
use Rattle.larch_term.specs.Operator.{PlainOperator}
use Rattle.larch_term.specs.Sorts.{WellSorted, IsOver}
use Rattle.larch_term.specs.Statement.{IsStatementOver}
use Rattle.larch_term.specs.Tree.{Tree}
use Rattle.larch_term.specs.declared.statement.Statement.{Statement}
use Rattle.larch_term.specs.Equality.{same_tree, same_statement}
use Rattle.larch_term.proofs.Decided.{tree_Decides, statement_Decides}
use Rattle.larch_sorts_meaning.specs.Faults.{fault, fault_at}
use Rattle.larch_sorts_meaning.specs.Refusal.{cause, Unread}
use Rattle.larch_sorts_meaning.proofs.Refusals.{told_weaker}
use Rattle.larch_sorts_meaning.specs.Read.{first_unread, read_equation, read_term}
use Rattle.larch_sorts_meaning.specs.Scope.{HasVariablesOf, IsInScope, Variables}
use Rattle.larch_sorts_meaning.specs.Unknown.{unknown_sort}
use Rattle.larch_sorts_meaning.specs.Stands.{Stands}
use Rattle.larch_sorts_meaning.specs.Readings.{ReadsEquation, ReadsLone, IsOnly}
use Rattle.larch_sorts_meaning.specs.ReadingLists.{equation_readings, lone_readings}
use Rattle.larch_sorts_meaning.specs.Found.{Tells}
use Rattle.larch_sorts_meaning.specs.declared.found.Found.{Found}
use Rattle.larch_sorts_meaning.specs.declared.refusal.ReadRefusal.{ReadRefusal}
use Rattle.larch_sorts_meaning.proofs.Answers.{decided, answer_unknown, answer_unread, answer_found, answer_ok}
use Rattle.larch_sorts_meaning.proofs.Answers.{answer_err}
use Rattle.larch_sorts_meaning.proofs.Listed.{equation_listed, equation_reads, lone_listed, lone_reads}
use Rattle.larch_sorts_meaning.proofs.Sorted.{well_sorted, in_scope, statement_over, statement_in_scope}

module _ (fs : List PlainOperator) (vs : Variables) (raw : RawEquation) where
  pub equation_unknown : (pos : Pos) → unknown_sort fs raw ≡ Some pos
      → read_equation fs vs raw ≡ Err (fault UnknownSort pos)
  unfolding read_equation
  equation_unknown pos e =
      answer_unknown same_statement statement_Decides (ReadsEquation fs vs raw) fs vs raw
      (equation_readings fs vs raw) (equation_reads fs vs raw) (equation_listed fs vs raw) pos e

  pub equation_unread : (f : Fault) → unknown_sort fs raw ≡ None → fault_at NoReading (first_unread fs vs raw) ≡ Some f
      → read_equation fs vs raw ≡ Err f
  unfolding read_equation
  equation_unread f e u =
      answer_unread same_statement statement_Decides (ReadsEquation fs vs raw) fs vs raw
      (equation_readings fs vs raw) (equation_reads fs vs raw) (equation_listed fs vs raw) f e u

  -- what a refusal tells of the parts is what is wrong with the whole
  pub equation_unread_told : (refusal : ReadRefusal) → unknown_sort fs raw ≡ None
      → Unread refusal (first_unread fs vs raw)
      → IfSome (cause refusal) (λ f. read_equation fs vs raw ≡ Err f)
  equation_unread_told refusal e u =
      told_weaker refusal (λ f. fault_at NoReading (first_unread fs vs raw) ≡ Some f)
      (λ f. read_equation fs vs raw ≡ Err f)
      (λ f h. equation_unread f e h) u

  pub equation_ok : (s : Statement) → read_equation fs vs raw ≡ Ok s
      → (unknown_sort fs raw ≡ None) × IsOnly (ReadsEquation fs vs raw) s
  unfolding read_equation
  equation_ok s e =
      answer_ok same_statement statement_Decides (ReadsEquation fs vs raw) fs vs raw
      (equation_readings fs vs raw) (equation_reads fs vs raw) (equation_listed fs vs raw) s e

  pub equation_err : (f : Fault) → read_equation fs vs raw ≡ Err f → Stands fs vs raw (ReadsEquation fs vs raw) f
  unfolding read_equation
  equation_err f e =
      answer_err same_statement statement_Decides (ReadsEquation fs vs raw) fs vs raw
      (equation_readings fs vs raw) (equation_reads fs vs raw) (equation_listed fs vs raw) f e

  -- the clauses of a result
  pub result_known : (r : Result Statement ReadRefusal) → Answers cause r (read_equation fs vs raw)
      → IfOk r (λ _. unknown_sort fs raw ≡ None)
  result_known (Ok s) h = (equation_ok s h).0
  result_known (Err e) h = tt

  pub result_only : (r : Result Statement ReadRefusal) → Answers cause r (read_equation fs vs raw)
      → IfOk r (IsOnly (ReadsEquation fs vs raw))
  result_only (Ok s) h = (equation_ok s h).1
  result_only (Err e) h = tt

  pub result_stands : (r : Result Statement ReadRefusal) → Answers cause r (read_equation fs vs raw)
      → IfErr r (λ refusal. IfSome (cause refusal) (Stands fs vs raw (ReadsEquation fs vs raw)))
  result_stands (Ok s) h = tt
  result_stands (Err e) h =
      told_weaker e (λ f. read_equation fs vs raw ≡ Err f) (Stands fs vs raw (ReadsEquation fs vs raw)) equation_err h

  pub result_over : (r : Result Statement ReadRefusal) → Answers cause r (read_equation fs vs raw)
      → IfOk r (IsStatementOver fs)
  result_over (Ok s) h = statement_over fs vs raw s (equation_ok s h).1.0
  result_over (Err e) h = tt

  pub result_in_scope : (r : Result Statement ReadRefusal) → Answers cause r (read_equation fs vs raw)
      → IfOk r (IsInScope vs)
  result_in_scope (Ok s) h = statement_in_scope fs vs raw s (equation_ok s h).1.0
  result_in_scope (Err e) h = tt

module _ (fs : List PlainOperator) (vs : Variables) (wanted : Option (List ℕ)) (raw : RawEquation) where
  pub term_unknown : (pos : Pos) → unknown_sort fs raw ≡ Some pos
      → read_term fs vs wanted raw ≡ Err (fault UnknownSort pos)
  unfolding read_term
  term_unknown pos e =
      answer_unknown same_tree tree_Decides (ReadsLone fs vs wanted raw) fs vs raw
      (lone_readings fs vs wanted raw) (lone_reads fs vs wanted raw) (lone_listed fs vs wanted raw) pos e

  pub term_unread : (f : Fault) → unknown_sort fs raw ≡ None → fault_at NoReading (first_unread fs vs raw) ≡ Some f
      → read_term fs vs wanted raw ≡ Err f
  unfolding read_term
  term_unread f e u =
      answer_unread same_tree tree_Decides (ReadsLone fs vs wanted raw) fs vs raw
      (lone_readings fs vs wanted raw) (lone_reads fs vs wanted raw) (lone_listed fs vs wanted raw) f e u

  -- what a refusal tells of the parts is what is wrong with the whole
  pub term_unread_told : (refusal : ReadRefusal) → unknown_sort fs raw ≡ None → Unread refusal (first_unread fs vs raw)
      → IfSome (cause refusal) (λ f. read_term fs vs wanted raw ≡ Err f)
  term_unread_told refusal e u =
      told_weaker refusal (λ f. fault_at NoReading (first_unread fs vs raw) ≡ Some f)
      (λ f. read_term fs vs wanted raw ≡ Err f)
      (λ f h. term_unread f e h) u

  pub term_found : (found : Option (Found Tree)) → unknown_sort fs raw ≡ None → first_unread fs vs raw ≡ None
      → Tells found (ReadsLone fs vs wanted raw) → read_term fs vs wanted raw ≡ decided raw found
  unfolding read_term
  term_found found e u h =
      answer_found same_tree tree_Decides (ReadsLone fs vs wanted raw) fs vs raw
      (lone_readings fs vs wanted raw) (lone_reads fs vs wanted raw) (lone_listed fs vs wanted raw) found e u h

  pub term_ok : (s : Tree) → read_term fs vs wanted raw ≡ Ok s
      → (unknown_sort fs raw ≡ None) × IsOnly (ReadsLone fs vs wanted raw) s
  unfolding read_term
  term_ok s e =
      answer_ok same_tree tree_Decides (ReadsLone fs vs wanted raw) fs vs raw
      (lone_readings fs vs wanted raw) (lone_reads fs vs wanted raw) (lone_listed fs vs wanted raw) s e

  pub term_err : (f : Fault) → read_term fs vs wanted raw ≡ Err f → Stands fs vs raw (ReadsLone fs vs wanted raw) f
  unfolding read_term
  term_err f e =
      answer_err same_tree tree_Decides (ReadsLone fs vs wanted raw) fs vs raw
      (lone_readings fs vs wanted raw) (lone_reads fs vs wanted raw) (lone_listed fs vs wanted raw) f e

  -- the clauses of a result
  pub lone_known : (r : Result Tree ReadRefusal) → Answers cause r (read_term fs vs wanted raw)
      → IfOk r (λ _. unknown_sort fs raw ≡ None)
  lone_known (Ok s) h = (term_ok s h).0
  lone_known (Err e) h = tt

  pub lone_only : (r : Result Tree ReadRefusal) → Answers cause r (read_term fs vs wanted raw)
      → IfOk r (IsOnly (ReadsLone fs vs wanted raw))
  lone_only (Ok s) h = (term_ok s h).1
  lone_only (Err e) h = tt

  pub lone_stands : (r : Result Tree ReadRefusal) → Answers cause r (read_term fs vs wanted raw)
      → IfErr r (λ refusal. IfSome (cause refusal) (Stands fs vs raw (ReadsLone fs vs wanted raw)))
  lone_stands (Ok s) h = tt
  lone_stands (Err e) h =
      told_weaker e (λ f. read_term fs vs wanted raw ≡ Err f) (Stands fs vs raw (ReadsLone fs vs wanted raw)) term_err h

  pub lone_over : (r : Result Tree ReadRefusal) → Answers cause r (read_term fs vs wanted raw)
      → IfOk r (λ t. WellSorted t × IsOver fs t)
  lone_over (Ok s) h = well_sorted fs vs raw.left s (term_ok s h).1.0.0
  lone_over (Err e) h = tt

  pub lone_in_scope : (r : Result Tree ReadRefusal) → Answers cause r (read_term fs vs wanted raw)
      → IfOk r (HasVariablesOf vs)
  lone_in_scope (Ok s) h = in_scope fs vs raw.left s (term_ok s h).1.0.0
  lone_in_scope (Err e) h = tt
