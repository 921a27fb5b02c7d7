-- What the number of the first bad line means.
use Rattle.std.specs.Prelude.{◌≡◌, ℕ, suc, ◌+◌, List, ◌∷◌, ◌++◌, length, Some, None}
use Rattle.larch_term.specs.declared.statement.Theory.{Theory}
use Rattle.larch_certificate.specs.declared.line.Line.{Line}
use Rattle.larch_verify_meaning.specs.Events.{State}
use Rattle.larch_verify_meaning.specs.Run.{step, run}

-- behind a state, the line with a number is bad, and none before it is
pub record IsFirstBad (t : Theory) (st : State) (lines : List Line) (n : ℕ) : Type 0 where
  pub front : List Line
  pub line : Line
  pub rest : List Line
  pub before : State
  pub parts : lines ≡ front ++ line ∷ rest
  pub good : run t st front ≡ Some before
  pub bad : step t before line ≡ None
  pub number : n ≡ suc (st.count + length front)
