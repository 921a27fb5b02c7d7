-- Duties with labels of one kind, one behind the other.
use Rattle.std.specs.Prelude.{ℕ, List, [], ◌∷◌, Option}
use Rattle.larch_base.specs.declared.label.Label.{Label}
use Rattle.larch_term.specs.declared.statement.Statement.{Statement}
use Rattle.larch_term.specs.declared.statement.Theory.{Theory}
use Rattle.larch_duties_meaning.specs.Claims.{Claim}
use Rattle.larch_duties.specs.Finding.{label_behind}

-- duties over one theory, of a clause or of none, with labels of one kind from this one on
abbrev pub claims_from : Label → Option ℕ → Theory → List Statement → List Claim
claims_from label clause theory [] = []
claims_from label clause theory (s ∷ ss) =
    record { label = label; clause = clause; theory = theory; statement = s }
    ∷ claims_from (label_behind label) clause theory ss
