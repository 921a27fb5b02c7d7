use Rattle.std.proofs.Common.{Some, None, ◌∙◌, ap}
use Rattle.larch_term.specs.Statement.{statement_zero}
use Rattle.larch_verify_history.specs.Past.{stated_in}
use Rattle.larch_verify_decoding.proofs.Owned.{numbered_from}
use Rattle.larch_verify_rules.proofs.Axioms.{behind_first}
use Rattle.larch_verify_rules.proofs.axiom.judge_axiom.Goals as goal

pub returns-then-number-eq0-clause-within : goal.returns-then-number-eq0-clause-within
returns-then-number-eq0-clause-within c p h = c.in_ok-stated.ensures.within p

pub returns-in_default-clause-says : goal.returns-in_default-clause-says
returns-in_default-clause-says c p =
    behind_first (stated_in p) statement_zero c.args.axioms.now c.args.number None c.if-number-eq0.false
    (c.in_default.ensures ∙ numbered_from c.args.axioms.now c.args.number c.if-number-eq0.false)

pub returns-clause-says : goal.returns-clause-says
returns-clause-says c p =
    ap (λ s. Some (stated_in p s)) c.in_ok-stated-2.ensures
    ∙ behind_first (stated_in p) statement_zero c.args.axioms.now c.args.number
    (Some c.in-Some.stated.now) c.if-number-eq0.false
    (c.in-Some.ensures ∙ numbered_from c.args.axioms.now c.args.number c.if-number-eq0.false)
