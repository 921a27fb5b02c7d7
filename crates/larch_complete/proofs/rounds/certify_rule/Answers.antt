use Rattle.std.specs.Prelude.{IfOk, refl}
use Rattle.std.proofs.Common.{ap, subst, sym, ◌∙◌}
use Rattle.larch_complete.proofs.Holding.{on_ok}
use Rattle.larch_complete.proofs.rounds.certify_rule.Goals as goal
use Rattle.larch_complete_pairs.specs.Said.{IsSaid}
use Rattle.larch_complete_rounds.specs.Certified.{IsCertified}
use Rattle.larch_complete_rounds.proofs.Reducing.{ready_still}
use Rattle.larch_derive.specs.Builder.{boxes_in, theory_in}
use Rattle.larch_derive.specs.Predicates.{Extends}
use Rattle.larch_derive.specs.declared.builder.Builder.{Builder}

pub certify-requires-clause-said : goal.certify-requires-clause-said
certify-requires-clause-said c =
    subst (λ (b : Builder). IsSaid b c.args.rule) (sym c.in_ok-add.ensures.builder) c.requires.said

pub certify-requires-clause-boxes : goal.certify-requires-clause-boxes
certify-requires-clause-boxes c = ap boxes_in c.in_ok-add.ensures.builder ∙ c.requires.boxes

pub returns-clause-certified : goal.returns-clause-certified
returns-clause-certified c =
    subst (λ (b : Builder). IfOk c.certify.result (IsCertified (theory_in b))) c.in_ok-add.ensures.builder
    c.certify.ensures.certified

pub returns-clause-extends : goal.returns-clause-extends
returns-clause-extends c =
    subst (λ (b : Builder). Extends b c.certify.new.builder) c.in_ok-add.ensures.builder c.certify.ensures.extends

pub returns-clause-rules : goal.returns-clause-rules
returns-clause-rules c = on_ok c.certify.result _ c.in_ok-add.ensures.rules

pub returns-clause-ready : goal.returns-clause-ready
returns-clause-ready c =
    on_ok c.certify.result _
    (ready_still c.add.new.self (record c.add.new.self { builder = c.certify.new.builder }) c.certify.ensures.extends
    refl refl c.in_ok-add.ensures.ready)
