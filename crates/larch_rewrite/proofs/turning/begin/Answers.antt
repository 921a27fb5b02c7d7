use Rattle.std.proofs.Common.{sym, subst}
use Rattle.std.proofs.lemmas.List.Elements.{All-contains}
use Rattle.larch_derive.proofs.Growth.{stays_known}
use Rattle.larch_rewrite_step.specs.DeriveLinesWay.{Leads}
use Rattle.larch_rewrite.specs.Kept.{IsLed}
use Rattle.larch_rewrite.proofs.Levels.{done_none}
use Rattle.larch_rewrite.proofs.Roots.{kept_is_made, leads_as}
use Rattle.larch_rewrite.proofs.turning.begin.Goals as goal

pub returns-in_default-clause-says : goal.returns-in_default-clause-says
returns-in_default-clause-says c x led w =
    (w.0, subst (λ t. Leads c.args.builder.now c.args.level.way x t) (done_none c.args.level.term _ c.new.ensures) w.1)

pub returns-clause-work : goal.returns-clause-work
returns-clause-work c rs h =
    kept_is_made rs _ _ _ _ _ _ h c.in-Some.ensures.0 c.in-Some.ensures.1 c.in_ok-level.ensures.level.2
    c.in_ok-level.ensures.spent

pub returns-clause-says : goal.returns-clause-says
returns-clause-says c x led w =
    let f = All-contains (IsLed c.args.builder.now) _ _ led c.in-Some.ensures.0 in
    let v = subst (λ t. Leads c.args.builder.now c.args.level.way x t) (sym c.in-Some.ensures.1) w.1 in (
      stays_known _ _ _ (c.in_ok-level.ensures.extends x f v) w.0,
      leads_as c.charge.new.builder c.in_ok-level.level.way x c.in_ok-level.level.term c.in-Some.form.now.form
          c.in_ok-level.ensures.level.2 (c.in_ok-level.ensures.says x f v),
    )
