-- Duties that are proved, their certificates, and what is derivable.
use Rattle.std.specs.Prelude.{◌≡◌, List, [], ◌∷◌, ◌++◌, map}
use Rattle.larch_calculus.specs.Derivable.{Derivable}
use Rattle.larch_calculus.specs.Theories.{with_statements}
use Rattle.larch_certificate.specs.declared.line.Line.{Line}
use Rattle.larch_derive.specs.Finished.{IsFinished}
use Rattle.larch_prove_meaning.specs.Levels.{EarlierDuty}
use Rattle.larch_prove_meaning.specs.Replays.{Proved}
use Rattle.larch_prove_meaning.specs.Reports.{Answered, lemmas_for}
use Rattle.larch_term.specs.declared.statement.Theory.{Theory}

-- a theory with what lemmas state behind its own statements
abbrev pub with_lemmas : Theory → List EarlierDuty → Theory
with_lemmas t ls = with_statements t (map (λ l. l.statement) ls)

-- if a duty is proved, some lines are a certificate of it: over its theory with its lemmas, which earlier duties are
abbrev pub IsCertified : List Answered → Answered → Type 0
IsCertified earlier a = a.outcome ≡ Proved
    → (lines : List Line) × IsFinished (with_lemmas a.duty.theory (lemmas_for a.duty earlier)) a.duty.statement lines

-- so it is of each duty, behind earlier ones
abbrev pub AreCertified : List Answered → List Answered → Type 0
AreCertified earlier [] = Unit {0}
AreCertified earlier (a ∷ answers) = IsCertified earlier a × AreCertified (earlier ++ a ∷ []) answers

-- if a duty is proved, it is derivable from its own theory
abbrev pub IsJustified : Answered → Type 0
IsJustified a = a.outcome ≡ Proved → Derivable a.duty.theory a.duty.statement
