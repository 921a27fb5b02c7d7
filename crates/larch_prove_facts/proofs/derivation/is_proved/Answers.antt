-- A line says so, or none does.
use Rattle.std.proofs.Common.{sym, ◌∙◌}
use Rattle.larch_prove_work.proofs.ProveDraftStanding.{settled_so, stands_on}
use Rattle.larch_prove_facts.proofs.Turns.{settled_told}
use Rattle.larch_prove_facts.proofs.derivation.is_proved.Goals as goal
use Rattle.larch_store.proofs.Growth.{grows_refl}

pub returns-clause-told : goal.returns-clause-told
returns-clause-told c t s p k ks w =
    settled_so c.args.draft.now.current k p.current w.current.0 w.level_is
    ∙ settled_told c.in_ok-shown.shown _ c.in_ok-shown.ensures.proved c.in_ok-shown.ensures.open
    ∙ sym c.is_some.ensures

pub returns-clause-stands : goal.returns-clause-stands
returns-clause-stands c t s p k ks w =
    stands_on t s c.args.store.now c.args.store.now c.args.draft.now c.line_of_goal.new.builder p k ks
    (grows_refl c.args.store.now) c.in_ok-shown.ensures.extends w
