-- The left side is formed, and gets its normal form by the facts that have another name.
use Rattle.std.proofs.Common.{subst, sym}
use Rattle.std.proofs.lemmas.Result.{err_from_is_err_and}
use Rattle.larch_derive.proofs.Growth.{extends_trans, stays_known}
use Rattle.larch_derive.specs.Predicates.{HasEquation, Known}
use Rattle.larch_prove_work.proofs.ProveAddingStaying.{said_stays}
use Rattle.larch_prove_work.proofs.ProveAddingViews.{start_tells}
use Rattle.larch_prove_work.specs.ProveAddingBeside.{facts_without}
use Rattle.larch_prove_work.specs.ProveAddingKeptFacts.{facts_of}
use Rattle.larch_prove_facts.proofs.Formed.{tells_as_same}
use Rattle.larch_prove_facts.proofs.instance.normalise_left.Goals as goal
use Rattle.larch_prove_work.proofs.Upon.{normal_as}
use Rattle.larch_store.proofs.Growth.{grows_trans}
use Rattle.larch_store.specs.Numbered.{term_of}

pub returns-in_err-term-clause-refused : goal.returns-in_err-term-clause-refused
returns-in_err-term-clause-refused c =
    let q = err_from_is_err_and c.from_residual-in_err-term.result c.from_residual-in_err-term.ensures.1 in
    rw (q.1, q.2) (start_tells _ _ _ _ c.in_err-term.ensures.refused)

pub normal_goal-requires-clause-known : goal.normal_goal-requires-clause-known
normal_goal-requires-clause-known c =
    subst (Known c.push_refl.new.builder) (sym c.in_ok-term.ensures.term)
    (stays_known _ _ _ (c.in_ok-way.ensures.extends c.requires.known) c.requires.known)

pub normal_goal-requires-clause-said : goal.normal_goal-requires-clause-said
normal_goal-requires-clause-said c =
    said_stays _ _ c.in_ok-others.others (c.in_ok-way.ensures.extends c.requires.known)
    (c.in_ok-others.ensures.said c.args.builder.now c.requires.said)

pub returns-in_err-normal_goal-clause-refused : goal.returns-in_err-normal_goal-clause-refused
returns-in_err-normal_goal-clause-refused c =
    let q = err_from_is_err_and c.from_residual-in_err-normal_goal.result
    c.from_residual-in_err-normal_goal.ensures.1 in
    rw (q.1, q.2)
    (tells_as_same (facts_without c.args.side.now.fact (facts_of c.args.facts.now)) (facts_of c.in_ok-others.others)
    c.args.manner.now.budget c.args.side.now.left (term_of c.in_ok-term.term) c.in_err-normal_goal.field-0.0
    c.in_ok-others.ensures.facts c.in_ok-term.ensures.term c.in_err-normal_goal.ensures.refused)

pub returns-in_err-normal_goal-clause-grows : goal.returns-in_err-normal_goal-clause-grows
returns-in_err-normal_goal-clause-grows c =
    grows_trans _ _ _ c.in_ok-term.ensures.grows c.in_err-normal_goal.ensures.grows

pub returns-in_err-normal_goal-clause-extends : goal.returns-in_err-normal_goal-clause-extends
returns-in_err-normal_goal-clause-extends c =
    extends_trans _ _ _ (c.in_ok-way.ensures.extends c.requires.known)
    (c.in_err-normal_goal.ensures.extends c.args.side.now.left
    (subst (HasEquation c.push_refl.new.builder c.in_ok-way.way c.args.side.now.left) (sym
    c.in_ok-term.ensures.term) (c.in_ok-way.ensures.says c.requires.known)))

pub returns-clause-normal : goal.returns-clause-normal
returns-clause-normal c = (
  term_of c.in_ok-normal_goal.field-0.term,
  normal_as (facts_without c.args.side.now.fact (facts_of c.args.facts.now)) (facts_of c.in_ok-others.others)
      c.args.manner.now.budget c.args.side.now.left (term_of c.in_ok-term.term) _ c.in_ok-others.ensures.facts
      c.in_ok-term.ensures.term c.in_ok-normal_goal.ensures.made,
)

pub returns-clause-grows : goal.returns-clause-grows
returns-clause-grows c = grows_trans _ _ _ c.in_ok-term.ensures.grows c.in_ok-normal_goal.ensures.grows

pub returns-clause-extends : goal.returns-clause-extends
returns-clause-extends c =
    extends_trans _ _ _ (c.in_ok-way.ensures.extends c.requires.known)
    (c.in_ok-normal_goal.ensures.extends c.args.side.now.left
    (subst (HasEquation c.push_refl.new.builder c.in_ok-way.way c.args.side.now.left) (sym
    c.in_ok-term.ensures.term) (c.in_ok-way.ensures.says c.requires.known)))
