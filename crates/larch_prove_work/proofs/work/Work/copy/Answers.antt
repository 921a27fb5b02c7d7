-- The settings, the terms and the draft are the same.
use Rattle.larch_prove_work.proofs.Still.{copied_work}
use Rattle.larch_prove_work.proofs.work.Work.copy.Goals as goal

pub returns : goal.returns
returns c t s p w =
    copied_work t s c.args.self.now
    (record { settings = c.in_ok-settings.settings; store = c.in_ok-store.store; draft = c.in_ok-draft.draft }) p
    c.in_ok-settings.ensures c.in_ok-store.ensures c.in_ok-draft.ensures w
