use Rattle.std.proofs.Common.{rules, subst}
use Rattle.larch_rewrite_step.specs.RewriteMatchSearch.{IsFirst}
use Rattle.larch_store.specs.Numbered.{term_of}
use Rattle.larch_rewrite.proofs.Found.{row_first, rules_decide}
use Rattle.larch_rewrite.proofs.searching.first_redex.Goals as goal

pub returns-in-Some-clause-found : goal.returns-in-Some-clause-found
returns-in-Some-clause-found c =
    row_first c.args.rows.now c.args.rules.now (term_of c.args.term.now) c.in-Some.found c.requires.rows
    (subst (IsFirst c.args.rows.now (term_of c.args.term.now)) c.in-Some.is c.in_ok-found.ensures.first)

pub returns-clause-found : goal.returns-clause-found
returns-clause-found c =
    rules_decide c.args.rows.now c.args.rules.now (term_of c.args.term.now) c.first.result c.requires.rows
    (search rules) c.first.ensures.first
