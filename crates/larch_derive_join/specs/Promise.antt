-- What joined certificates are to be.
use Rattle.std.specs.Prelude.{◌≡◌, List, [], ◌∷◌, ◌++◌, length}
use Rattle.larch_term.specs.declared.statement.Statement.{Statement}
use Rattle.larch_term.specs.declared.statement.Theory.{Theory}
use Rattle.larch_term.specs.Statement.{IsWellSortedTheory}
use Rattle.larch_calculus.specs.Renaming.{HasPlainNames}
use Rattle.larch_calculus.specs.Theories.{IsPrefix, with_statements}
use Rattle.larch_certificate_text.specs.CertificateText.{Writable}
use Rattle.larch_verify_meaning.specs.Acceptance.{Accepts}
use Rattle.larch_verify_meaning.specs.LastLine.{EndsWithoutStatedClause}
use Rattle.larch_derive_join.specs.declared.part.Part.{Part}

-- some theory that begins the whole one has as many statements as the part says, and over it, with the statements of
-- earlier parts behind its own, the part's certificate is accepted for the statement; its last line is no axiom line of
-- a clause
pub record IsProved (whole : Theory) (earlier : List Statement) (p : Part) (s : Statement) : Type 0 where
  pub theory : Theory
  pub prefix : IsPrefix theory whole
  pub statements : length theory.statements ≡ p.statements
  pub accepted : Accepts (with_statements theory earlier) s p.certificate
  pub ends : EndsWithoutStatedClause (with_statements theory earlier) p.certificate

-- so is each part for its statement, and there are as many parts as statements
abbrev pub AreProved : Theory → List Statement → List Part → List Statement → Type 0
AreProved whole earlier [] [] = Unit {0}
AreProved whole earlier [] (s ∷ ss) = ⊥
AreProved whole earlier (p ∷ ps) [] = ⊥
AreProved whole earlier (p ∷ ps) (s ∷ ss) = IsProved whole earlier p s × AreProved whole (earlier ++ s ∷ []) ps ss

-- the parts prove the statement over the whole theory, whose statements are well sorted and whose operators have plain
-- names: each part is proved, the last one for this statement
pub record Prove (whole : Theory) (parts : List Part) (last : Statement) : Type 0 where
  pub sorted : IsWellSortedTheory whole
  pub plain : HasPlainNames whole
  pub earlier : List Statement
  pub proved : AreProved whole [] parts (earlier ++ last ∷ [])

-- each certificate can be written
abbrev pub AreWritable : List Part → Type 0
AreWritable [] = Unit {0}
AreWritable (p ∷ ps) = Writable p.certificate × AreWritable ps
