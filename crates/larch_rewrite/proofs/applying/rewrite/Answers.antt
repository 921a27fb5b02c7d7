use Rattle.std.specs.Prelude.{Some, refl}
use Rattle.std.proofs.Common.{sym, subst}
use Rattle.std.proofs.lemmas.List.Elements.{All-nil}
use Rattle.larch_rewrite_step.specs.Holding.{RuleHolds}
use Rattle.larch_derive.specs.Predicates.{Known}
use Rattle.larch_derive.proofs.Growth.{stays_known}
use Rattle.larch_rewrite_step.specs.RewriteMatchBound.{entries_of}
use Rattle.larch_rewrite_step.specs.RewriteMatchRule.{right_of}
use Rattle.larch_rewrite_step.specs.RewriteMatchSearch.{IsBy}
use Rattle.larch_store.specs.Numbered.{term_of}
use Rattle.larch_store.specs.Stored.{Belongs}
use Rattle.larch_term.specs.Substitution.{instance_of}
use Rattle.larch_store.proofs.Growth.{belongs_stays}
use Rattle.larch_rewrite_step.proofs.DeriveLinesWays.{leads_known}
use Rattle.larch_rewrite.specs.RuleSet.{sides_in}
use Rattle.larch_rewrite.specs.Search.{IsRedex}
use Rattle.larch_rewrite.proofs.Roots.{found_holds, root_is_made}
use Rattle.larch_rewrite.proofs.applying.rewrite.Goals as goal

pub returns-clause-turn : goal.returns-clause-turn
returns-clause-turn c = (
  subst (Belongs _) (sym c.in_ok-level.ensures.level.0)
      (belongs_stays _ _ _ c.in_ok-level.ensures.grows c.requires.turn.0),
  c.in_ok-level.ensures.belongs,
  All-nil _,
)

pub returns-clause-work : goal.returns-clause-work
returns-clause-work c =
    let m : IsRedex c.in_ok-rows.rows.now c.args.rules.now (term_of c.args.level.term) (Some c.in-Some.found) =
    subst (IsRedex c.in_ok-rows.rows.now c.args.rules.now (term_of c.args.level.term)) c.in-Some.is
    c.in_ok-found.ensures.found in
    root_is_made (sides_in c.args.rules.now) c.args.level.term (term_of c.args.level.term)
    (instance_of (entries_of c.in-Some.found.by) (right_of c.in-Some.found.rule.now))
    (term_of c.in_ok-level.level.term) c.args.means.now.left c.apply.new.means.left
    (c.sizes_are_told.ensures.small c.args.level.term c.requires.turn.1) refl m.2 c.in_ok-level.ensures.term
    c.in_ok-level.ensures.spent

pub returns-clause-says : goal.returns-clause-says
returns-clause-says c x r w d =
    let m : IsRedex c.in_ok-rows.rows.now c.args.rules.now (term_of c.args.level.term) (Some c.in-Some.found) =
    subst (IsRedex c.in_ok-rows.rows.now c.args.rules.now (term_of c.args.level.term)) c.in-Some.is
    c.in_ok-found.ensures.found in
    let k : Known c.args.builder.now (term_of c.args.level.term) =
    leads_known c.args.builder.now c.args.level.way x (term_of c.args.level.term) w.0 w.1 in
    let h : RuleHolds c.args.builder.now c.in-Some.found.rule.now =
    found_holds c.args.builder.now c.in_ok-rows.rows.now c.args.rules.now c.in-Some.found.rule.now m.0
    c.in_ok-rows.ensures.reasons r in
    let b : IsBy c.in-Some.found.rule.now c.in-Some.found.exchanged (term_of c.args.level.term)
    (entries_of c.in-Some.found.by) = m.1 in
    (stays_known _ _ _ (c.in_ok-level.ensures.extends _ _ k h b d w.1) w.0, c.in_ok-level.ensures.says _ _ k h b d w.1)

pub returns-clause-extends : goal.returns-clause-extends
returns-clause-extends c x r w d =
    let m : IsRedex c.in_ok-rows.rows.now c.args.rules.now (term_of c.args.level.term) (Some c.in-Some.found) =
    subst (IsRedex c.in_ok-rows.rows.now c.args.rules.now (term_of c.args.level.term)) c.in-Some.is
    c.in_ok-found.ensures.found in
    let k : Known c.args.builder.now (term_of c.args.level.term) =
    leads_known c.args.builder.now c.args.level.way x (term_of c.args.level.term) w.0 w.1 in
    let h : RuleHolds c.args.builder.now c.in-Some.found.rule.now =
    found_holds c.args.builder.now c.in_ok-rows.rows.now c.args.rules.now c.in-Some.found.rule.now m.0
    c.in_ok-rows.ensures.reasons r in
    let b : IsBy c.in-Some.found.rule.now c.in-Some.found.exchanged (term_of c.args.level.term)
    (entries_of c.in-Some.found.by) = m.1 in
    c.in_ok-level.ensures.extends _ _ k h b d w.1

pub returns-in_err-level-clause-extends : goal.returns-in_err-level-clause-extends
returns-in_err-level-clause-extends c x r w d =
    let m : IsRedex c.in_ok-rows.rows.now c.args.rules.now (term_of c.args.level.term) (Some c.in-Some.found) =
    subst (IsRedex c.in_ok-rows.rows.now c.args.rules.now (term_of c.args.level.term)) c.in-Some.is
    c.in_ok-found.ensures.found in
    let k : Known c.args.builder.now (term_of c.args.level.term) =
    leads_known c.args.builder.now c.args.level.way x (term_of c.args.level.term) w.0 w.1 in
    let h : RuleHolds c.args.builder.now c.in-Some.found.rule.now =
    found_holds c.args.builder.now c.in_ok-rows.rows.now c.args.rules.now c.in-Some.found.rule.now m.0
    c.in_ok-rows.ensures.reasons r in
    let b : IsBy c.in-Some.found.rule.now c.in-Some.found.exchanged (term_of c.args.level.term)
    (entries_of c.in-Some.found.by) = m.1 in
    c.in_err-level.ensures.extends _ _ k h b d w.1
