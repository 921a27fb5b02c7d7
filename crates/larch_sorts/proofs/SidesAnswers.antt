-- What reading an equation answers, by its sides.
use Rattle.std.proofs.Common.{◌≡◌, List, Option, Some, None, ap}
use Rattle.larch_raw.specs.declared.equation.RawEquation.{RawEquation}
use Rattle.larch_term.specs.Operator.{PlainOperator}
use Rattle.larch_term.specs.declared.statement.Statement.{Statement}
use Rattle.larch_term.specs.declared.statement.Statement.TheVariants.{Equation, Generated, Partitioned}
use Rattle.larch_sorts_signature.specs.SortsMeaningRead.{first_unread, read_equation}
use Rattle.larch_sorts_signature.specs.SortsMeaningUnknown.{unknown_sort}
use Rattle.larch_sorts_signature.specs.SortsMeaningScope.{Variables}
use Rattle.larch_sorts_signature.specs.SortsMeaningReadings.{ReadsEquation, IsNone}
use Rattle.larch_sorts_signature.specs.SortsMeaningFound.{Tells}
use Rattle.larch_sorts.specs.Sides.{ReadsSides}
use Rattle.larch_sorts_signature.specs.SortsMeaningFoundFound.{Found}
use Rattle.larch_sorts_signature.specs.SortsMeaningFoundFound.TheVariants.{One, Several}
use Rattle.larch_sorts.specs.declared.found.Sides.{Sides}
use Rattle.larch_sorts_signature.proofs.SortsMeaningAnswers.{decided}
use Rattle.larch_sorts_signature.proofs.SortsMeaningConverse.{equation_decided}

-- sides as an equation
abbrev pub as_statement : Option (Found Sides) → Option (Found Statement)
as_statement None = None
as_statement (Some (One p)) = Some (One (Equation p.left p.right))
as_statement (Some Several) = Some Several

other_equation : (fs : List PlainOperator) (vs : Variables) (raw : RawEquation) (p : Sides)
    → ((q : Sides) → ReadsSides fs vs raw q → q ≡ p) → (s : Statement) → ReadsEquation fs vs raw s
    → s ≡ Equation p.left p.right
other_equation fs vs raw p h (Equation l r) q = ap (λ x. Equation x.left x.right) (h (record { left = l; right = r }) q)
other_equation fs vs raw p h (Generated z gs) q = absurd q
other_equation fs vs raw p h (Partitioned z gs) q = absurd q

no_equation : (fs : List PlainOperator) (vs : Variables) (raw : RawEquation) → IsNone (ReadsSides fs vs raw)
    → (s : Statement) → ReadsEquation fs vs raw s → ⊥
no_equation fs vs raw h (Equation l r) q = h (record { left = l; right = r }) q
no_equation fs vs raw h (Generated z gs) q = q
no_equation fs vs raw h (Partitioned z gs) q = q

equal_parts : (p q : Sides) → Equation p.left p.right ≡ Equation q.left q.right → p ≡ q
equal_parts p q e =
    let l : p.left ≡ q.left = cc in
    let r : p.right ≡ q.right = cc in
    λ i. record { left = l i; right = r i }

equations_tell : (fs : List PlainOperator) (vs : Variables) (raw : RawEquation) (found : Option (Found Sides))
    → Tells found (ReadsSides fs vs raw) → Tells (as_statement found) (ReadsEquation fs vs raw)
equations_tell fs vs raw None h = no_equation fs vs raw h
equations_tell fs vs raw (Some (One p)) h = (h.0, other_equation fs vs raw p h.1)
equations_tell fs vs raw (Some Several) h =
    (Equation h.0.left h.0.right, Equation h.1.left h.1.right, h.2, h.3, λ e. h.4 (equal_parts h.0 h.1 e))

-- what was found of the sides is what is answered
pub equation_found : (fs : List PlainOperator) (vs : Variables) (raw : RawEquation) (found : Option (Found Sides))
    → unknown_sort fs raw ≡ None → first_unread fs vs raw ≡ None → Tells found (ReadsSides fs vs raw)
    → read_equation fs vs raw ≡ decided raw (as_statement found)
equation_found fs vs raw found e u h =
    equation_decided fs vs raw (as_statement found) e u (equations_tell fs vs raw found h)
