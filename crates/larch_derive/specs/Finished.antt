-- What is promised of a certificate that is handed over.
use Rattle.std.specs.Prelude.{List}
use Rattle.larch_term.specs.declared.statement.Statement.{Statement}
use Rattle.larch_term.specs.declared.statement.Theory.{Theory}
use Rattle.larch_certificate_text.specs.CertificateLineLine.{Line}
use Rattle.larch_certificate_text.specs.CertificateText.{Writable}
use Rattle.larch_verify_meaning.specs.Acceptance.{Accepts}
use Rattle.larch_verify_meaning.specs.LastLine.{EndsWithoutStatedClause}

-- the lines are a certificate that is accepted for the statement over the theory, that can be written, and whose last
-- line isn't an axiom line of a clause
pub record IsFinished (t : Theory) (s : Statement) (lines : List Line) : Type 0 where
  pub accepted : Accepts t s lines
  pub writable : Writable lines
  pub ends : EndsWithoutStatedClause t lines
