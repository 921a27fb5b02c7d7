-- The lines are a certificate, as the end of a duty says.
use Rattle.std.specs.Prelude.{option_map}
use Rattle.std.proofs.Common.{ap, refl, sym, ◌∙◌}
use Rattle.larch_prove_draft.proofs.ProveBoxesEnds.{has_entrance}
use Rattle.larch_prove_draft.specs.ProveBoxesBoxLists.{box_list}
use Rattle.larch_prove_settling.proofs.Leaving.{finish_leads, lowest_entered, lowest_leaving}
use Rattle.larch_prove_settling.proofs.rising.finish.Goals as goal

pub end_duty-requires-clause-entrance : goal.end_duty-requires-clause-entrance
end_duty-requires-clause-entrance c =
    let w = c.requires.shown.1.1.1 in
    has_entrance c.args.proving.now.statement.now w.top
    (option_map (λ x. x.now) c.as_ref-entrance.result)
    (lowest_entered _ _ _ _ _ _ _ w) (w.current.entrance ∙ ap box_list (sym c.as_ref-entrance.ensures.value))

pub returns : goal.returns
returns c = record {
  leads = λ store p level w.
      finish_leads c.args.proving.now.theory.now c.args.proving.now.statement.now store c.args.draft.now
      c.end_duty.new.builder p level c.args.line w
      (c.in_ok-end_duty.ensures c.args.proving.now.theory.now c.args.proving.now.statement.now w.top refl refl
      c.requires.provable.statement (lowest_entered _ _ _ _ _ _ _ w)
      (w.current.entrance ∙ ap box_list (sym c.as_ref-entrance.ensures.value)) (lowest_leaving _ _ _ _ _ _ _ w) w.says);
}
