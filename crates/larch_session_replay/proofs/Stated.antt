-- A state of a proof that is done has lines that are its certificate.
use Rattle.std.proofs.Common.{◌≡◌, refl, true, List, Ok}
use Rattle.larch_certificate.specs.declared.line.Line.{Line}
use Rattle.larch_prove.specs.DeriveBuilder.{lines_in}
use Rattle.larch_prove.specs.DeriveFinished.{IsFinished}
use Rattle.larch_prove.proofs.Stages.{lines_finished}
use Rattle.larch_prove.specs.State.{IsNow, IsStateOf}
use Rattle.larch_prove.specs.declared.state.ProofState.{ProofState}
use Rattle.larch_prove.specs.declared.state.Stage.{Stage}
use Rattle.larch_prove.specs.declared.state.Stage.TheVariants as stage
use Rattle.larch_prove.specs.ProveInvariantHolding.{theory_for}
use Rattle.larch_prove_meaning.specs.Levels.{Proof}
use Rattle.larch_term.specs.declared.statement.Statement.{Statement}

stage_lines : (s : Statement) (p : Proof) (st : Stage) → IsNow s st (Ok p) → p.is_proved ≡ true
    → (lines : List Line) × IsFinished (theory_for p) s lines
stage_lines s p (stage.Going going) h e =
    let lines : List Line = lines_in going.work.draft.builder in
    (lines, lines_finished s p (stage.Going going) going lines refl refl h e)
stage_lines s p (stage.Refused at code) h e = absurd h

pub state_lines : (s : Statement) (p : Proof) (state : ProofState) → IsStateOf s state (Ok p) → p.is_proved ≡ true
    → (lines : List Line) × IsFinished (theory_for p) s lines
state_lines s p state h e = stage_lines s p state.stage h e
