-- What readings say is what is answered.
use Rattle.std.proofs.Common.{◌≡◌, ℕ, inl, inr, List, Option, Some, None, Ok, Err, sym, ◌∙◌, ap}
use Rattle.larch_base.specs.declared.code.Code.TheVariants.{NoReading, Ambiguous}
use Rattle.larch_base.specs.declared.fault.Fault.{Fault}
use Rattle.larch_raw.specs.declared.equation.RawEquation.{RawEquation}
use Rattle.larch_sorts_meaning.specs.Faults.{fault, fault_at}
use Rattle.larch_term.specs.Operator.{PlainOperator}
use Rattle.larch_term.specs.Tree.{Tree}
use Rattle.larch_term.specs.declared.statement.Statement.{Statement}
use Rattle.larch_sorts_meaning.specs.Read.{first_unread, read_equation, read_term}
use Rattle.larch_sorts_meaning.specs.Unknown.{unknown_sort}
use Rattle.larch_sorts_meaning.specs.Parts.{parts, sides, in_sides}
use Rattle.larch_sorts_meaning.specs.Stands.{Stands, unknown_stands, unread_stands, several_stand}
use Rattle.larch_sorts_meaning.specs.Scope.{Variables}
use Rattle.larch_sorts_meaning.specs.Readings.{ReadsEquation, ReadsLone, IsOnly}
use Rattle.larch_sorts_meaning.specs.ReadingLists.{equation_readings}
use Rattle.larch_sorts_meaning.specs.Found.{Tells}
use Rattle.larch_sorts_meaning.specs.declared.found.Found.{Found}
use Rattle.larch_sorts_meaning.specs.declared.found.Found.TheVariants.{One, Several}
use Rattle.larch_sorts_meaning.proofs.Parts.{equation_parts, lone_parts, all_parts_have, first_part}
use Rattle.larch_term.specs.Equality.{same_statement}
use Rattle.larch_term.proofs.Decided.{statement_Decides}
use Rattle.larch_sorts_meaning.proofs.Answers.{decided, answer_found}
use Rattle.larch_sorts_meaning.proofs.Listed.{equation_listed, equation_reads}
use Rattle.larch_sorts_meaning.proofs.ReadAnswers.{equation_unknown, equation_unread, term_unknown, term_unread}
use Rattle.larch_sorts_meaning.proofs.ReadAnswers.{term_found}

-- the answer by what was found of an equation
pub equation_decided : (fs : List PlainOperator) (vs : Variables) (raw : RawEquation) (found : Option (Found Statement))
    → unknown_sort fs raw ≡ None → first_unread fs vs raw ≡ None → Tells found (ReadsEquation fs vs raw)
    → read_equation fs vs raw ≡ decided raw found
unfolding read_equation
equation_decided fs vs raw found e u h =
    answer_found same_statement statement_Decides (ReadsEquation fs vs raw) fs vs raw (equation_readings fs vs raw)
    (equation_reads fs vs raw) (equation_listed fs vs raw) found e u h

-- the only reading of an equation is answered
pub equation_answered : (fs : List PlainOperator) (vs : Variables) (raw : RawEquation) (s : Statement)
    → unknown_sort fs raw ≡ None → IsOnly (ReadsEquation fs vs raw) s → read_equation fs vs raw ≡ Ok s
equation_answered fs vs raw s u h =
    equation_decided fs vs raw (Some (One s)) u
    (all_parts_have fs vs (in_sides parts (sides raw)) (equation_parts fs vs raw s h.0)) h

-- a fault of an equation that stands is answered
pub equation_refused : (fs : List PlainOperator) (vs : Variables) (raw : RawEquation) (f : Fault)
    → Stands fs vs raw (ReadsEquation fs vs raw) f → read_equation fs vs raw ≡ Err f
equation_refused fs vs raw f (unknown_stands {pos} e) = equation_unknown fs vs raw pos e
equation_refused fs vs raw f (unread_stands {pos} u (inl first)) =
    equation_unread fs vs raw (fault NoReading pos) u
    (ap (fault_at NoReading) (first_part fs vs (in_sides parts (sides raw)) pos first))
equation_refused fs vs raw f (unread_stands {pos} u (inr (all, none_reads, p))) =
    equation_decided fs vs raw None u (all_parts_have fs vs (in_sides parts (sides raw)) all) none_reads
    ∙ ap (λ q. Err (fault NoReading q)) (sym p)
equation_refused fs vs raw f (several_stand {pos} u several p) =
    equation_decided fs vs raw (Some Several) u
    (all_parts_have fs vs (in_sides parts (sides raw)) (equation_parts fs vs raw several.0 several.2)) several
    ∙ ap (λ q. Err (fault Ambiguous q)) (sym p)

-- the only reading of a lone term is answered
pub term_answered : (fs : List PlainOperator) (vs : Variables) (wanted : Option (List ℕ)) (raw : RawEquation) (t : Tree)
    → raw.right ≡ None → unknown_sort fs raw ≡ None → IsOnly (ReadsLone fs vs wanted raw) t
    → read_term fs vs wanted raw ≡ Ok t
term_answered fs vs wanted raw t e u h =
    term_found fs vs wanted raw (Some (One t)) u
    (all_parts_have fs vs (in_sides parts (sides raw)) (lone_parts fs vs wanted raw t e h.0)) h

-- a fault of a lone term that stands is answered
pub term_refused : (fs : List PlainOperator) (vs : Variables) (wanted : Option (List ℕ)) (raw : RawEquation) (f : Fault)
    → raw.right ≡ None
    → Stands fs vs raw (ReadsLone fs vs wanted raw) f → read_term fs vs wanted raw ≡ Err f
term_refused fs vs wanted raw f e (unknown_stands {pos} h) = term_unknown fs vs wanted raw pos h
term_refused fs vs wanted raw f e (unread_stands {pos} u (inl first)) =
    term_unread fs vs wanted raw (fault NoReading pos) u
    (ap (fault_at NoReading) (first_part fs vs (in_sides parts (sides raw)) pos first))
term_refused fs vs wanted raw f e (unread_stands {pos} u (inr (all, none_reads, p))) =
    term_found fs vs wanted raw None u (all_parts_have fs vs (in_sides parts (sides raw)) all) none_reads
    ∙ ap (λ q. Err (fault NoReading q)) (sym p)
term_refused fs vs wanted raw f e (several_stand {pos} u several p) =
    term_found fs vs wanted raw (Some Several) u
    (all_parts_have fs vs (in_sides parts (sides raw)) (lone_parts fs vs wanted raw several.0 e several.2)) several
    ∙ ap (λ q. Err (fault Ambiguous q)) (sym p)
