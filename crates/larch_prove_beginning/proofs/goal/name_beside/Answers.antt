use Rattle.std.proofs.Common.{ap, ◌∙◌}
use Rattle.larch_prove_beginning.proofs.goal.name_beside.Goals as goal
use Rattle.larch_prove_meaning.specs.NewNames.{free_name}
use Rattle.larch_prove_settling.proofs.Leaving.{if_answered}

pub returns : goal.returns
returns c =
    if_answered _ _ c.free_name.result (λ n e.
    e ∙ ap (λ ns. free_name ns c.args.word.now) (c.as_slice.ensures.value ∙ c.in_ok-names.ensures)) c.free_name.ensures
