-- When a certificate is accepted for a statement.
use Rattle.std.specs.Prelude.{◌≡◌, ℕ, suc, if◌then◌else◌, ◌&&◌, Bool, true, false, List, [], ◌∷◌, Option, Some, None}
use Rattle.std.specs.Option.{option_map_or}
use Rattle.larch_certificate.specs.TermEquality.{same_statement}
use Rattle.larch_certificate.specs.TermStatementStatement.{Statement}
use Rattle.larch_certificate.specs.TermStatementTheory.{Theory}
use Rattle.larch_certificate.specs.declared.line.Line.{Line}
use Rattle.larch_verify_meaning.specs.Context.{innermost}
use Rattle.larch_verify_meaning.specs.Events.{Event, Said, Opened, Closed, State, start}
use Rattle.larch_verify_meaning.specs.Run.{step, run}

-- what the last line says
abbrev pub last_statement : List Event → Option Statement
last_statement [] = None
last_statement (Said n s ∷ h) = Some s
last_statement (Opened b ∷ h) = None
last_statement (Closed b s ∷ h) = None

-- a certificate is accepted for a statement over a theory: no line is bad, no box is open at the end, and the last line
-- says the statement
pub record Accepts (t : Theory) (s : Statement) (lines : List Line) : Type 0 where
  pub state : State
  pub none_bad : run t start lines ≡ Some state
  pub closed : innermost state.history ≡ None
  pub last : last_statement state.history ≡ Some s

-- whether no box is open
abbrev pub no_box_open : List Event → Bool
no_box_open h = option_map_or (λ p. false) (innermost h) true

-- whether no box is open and the last line says the statement
abbrev pub ends_with : Statement → List Event → Bool
ends_with s h = no_box_open h && option_map_or (same_statement s) (last_statement h) false

-- the verdict on lines behind a state
abbrev pub verdict_from : Theory → Statement → State → List Line → Option ℕ
verdict_from t s st [] = if ends_with s st.history then None else Some (suc st.count)
verdict_from t s st (line ∷ lines) =
    option_map_or (λ next. verdict_from t s next lines) (step t st line) (Some (suc st.count))

-- the verdict on a certificate: nothing where it is accepted; else the number of the first bad line, or where no line
-- is bad the number behind that of the last
abbrev pub verdict : Theory → Statement → List Line → Option ℕ
verdict t s lines = verdict_from t s start lines
