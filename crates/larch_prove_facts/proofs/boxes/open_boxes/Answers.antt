-- Entry by entry.
use Rattle.std.proofs.Common.{All, ap, arith, subst, sym, ◌+◌, ◌∙◌, take}
use Rattle.std.proofs.lemmas.List.{take_all}
use Rattle.std.proofs.lemmas.List.Elements.{All-nil}
use Rattle.larch_derive.specs.Predicates.{Known}
use Rattle.larch_prove_facts.proofs.Opened.{entry_opened}
use Rattle.larch_prove_facts.proofs.boxes.open_boxes.Goals as goal
use Rattle.larch_term.specs.declared.substitution.Entry.{Entry}

pub loop-entry-init : goal.loop-entry-init
loop-entry-init c t s store p k ks w e m = ((k, w), All-nil (λ (x : Entry). Known c.args.draft.now.builder x.term))

pub loop-entry-preserved : goal.loop-entry-preserved
loop-entry-preserved c t s store p k ks w e m =
    let z = c.loop-entry.invariant t s store p k ks w e m in
    entry_opened t s store c.loop-entry.draft c.open_boxes_for.new.draft p z.0.0 ks c.args.block.now c.args.entries.now
    c.loop-entry.entry-index c.entry-item.result c.loop-entry-test.true c.entry-item.is e m z.0.1 z.1
    (c.in_ok-open_boxes_for.ensures.opened t s store p z.0.0 ks z.0.1)

pub returns : goal.returns
returns c t s store p k ks w e m =
    let z = c.loop-entry.invariant t s store p k ks w e m in (
      z.0,
      subst (All (λ (x : Entry). Known c.loop-entry.draft.builder x.term))
          (take_all c.loop-entry.entry-index c.args.entries.now (omega (arith, c.loop-entry-test.false))) z.1,
    )
