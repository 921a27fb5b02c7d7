-- Rules with certificates.
use Rattle.std.specs.Prelude.{List}
use Rattle.larch_certificate.specs.declared.line.Line.{Line}
use Rattle.larch_complete_pairs.specs.Said.{IsSaidRule, rule_in}
use Rattle.larch_complete_pairs.specs.declared.said.SaidRule.{SaidRule}
use Rattle.larch_complete_rounds.specs.declared.certified.CertifiedRule.{CertifiedRule}
use Rattle.larch_derive.specs.Builder.{lines_in, theory_in}
use Rattle.larch_derive.specs.Finished.{IsFinished}
use Rattle.larch_derive.specs.declared.builder.Builder.{Builder}
use Rattle.larch_pairs_critical.specs.Overlap.{IsApplication}
use Rattle.larch_rewrite_meaning.specs.Sides.{AreSidesOver, Sides}
use Rattle.larch_term.specs.declared.statement.Statement.TheVariants.{Equation}
use Rattle.larch_term.specs.declared.statement.Theory.{Theory}

-- the sides of a rule
abbrev pub sides_behind : CertifiedRule → Sides
sides_behind r = rule_in r.said

-- the lines of its certificate
abbrev pub lines_behind : CertifiedRule → List Line
lines_behind r = lines_in r.proof

-- the certificate is accepted for the rule's equation over a theory
abbrev pub IsCertified : Theory → CertifiedRule → Type 0
IsCertified theory r = IsFinished theory (Equation r.said.rule.left r.said.rule.right) (lines_behind r)

-- a line says the rule, its sides are over the theory's operators, and the left one is no variable
pub record IsRuleIn (b : Builder) (r : SaidRule) : Type 0 where
  pub said : IsSaidRule b r
  pub over : AreSidesOver (theory_in b).operators (rule_in r)
  pub applies : IsApplication r.rule.left
