-- A draft is done as its proof is, and has its goal.
use Rattle.larch_prove.proofs.Waiting.{proved_outcome, suspended_outcome}
use Rattle.larch_prove.proofs.going.Going.outcome.Goals as goal

pub returns-then-draft : goal.returns-then-draft
returns-then-draft c = λ s p g.
    proved_outcome _ _ c.args.self.now.work.store c.args.self.now.work.draft p c.if-draft.true g.works.work.draft

pub returns : goal.returns
returns c = λ s p g.
    suspended_outcome _ _ c.args.self.now.work.store c.args.self.now.work.draft p c.open_goals-goals.result
    c.in_ok-goal.goal c.if-draft.false c.open_goals-goals.ensures c.in_ok-goal.ensures g.works.work.draft
