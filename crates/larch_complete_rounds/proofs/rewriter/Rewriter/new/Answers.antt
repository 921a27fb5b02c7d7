use Rattle.larch_complete_rounds.proofs.rewriter.Rewriter.new.Goals as goal

pub returns-clause-ready : goal.returns-clause-ready
returns-clause-ready c = c.in_ok-rules.ensures.serves _ _
