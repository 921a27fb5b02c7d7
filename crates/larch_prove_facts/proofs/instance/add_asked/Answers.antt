-- The instance is formed, and added; or its left side gets its normal form.
use Rattle.std.proofs.Common.{subst}
use Rattle.std.proofs.lemmas.Result.{err_from_is_err_and}
use Rattle.larch_derive.proofs.Growth.{extends_trans}
use Rattle.larch_prove_work.proofs.ProveAddingStaying.{said_stays}
use Rattle.larch_prove_work.specs.ProveAddingKeptFacts.{facts_of}
use Rattle.larch_prove_facts.proofs.Beside.{alone_large, alone_refused, unformed_told}
use Rattle.larch_prove_facts.proofs.instance.add_asked.Goals as goal
use Rattle.larch_prove_facts.specs.Instance.{IsFormed, instance_in}

pub returns-in_err-formed-clause-refused : goal.returns-in_err-formed-clause-refused
returns-in_err-formed-clause-refused c =
    let q = err_from_is_err_and c.from_residual.result c.from_residual.ensures.1 in
    rw (q.1, q.2)
    (unformed_told c.args.builder.now (instance_in c.args.asked.now) c.args.asked.now.fact
    c.args.manner.now.precedence.now c.args.manner.now.name (facts_of c.args.facts.now) c.args.manner.now.budget
    c.requires.small c.in_err-formed.field-0.0 c.in_err-formed.ensures.refused)

pub add_beside-requires-clause-said : goal.add_beside-requires-clause-said
add_beside-requires-clause-said c =
    said_stays _ _ c.args.facts.now c.in_ok-formed.ensures.extends c.requires.said

pub normalise_left-requires-clause-said : goal.normalise_left-requires-clause-said
normalise_left-requires-clause-said c =
    said_stays _ _ c.args.facts.now c.in_ok-formed.ensures.extends c.requires.said

pub returns-in_err-normalise_left-in-LeftAlone-clause-refused :
    goal.returns-in_err-normalise_left-in-LeftAlone-clause-refused
returns-in_err-normalise_left-in-LeftAlone-clause-refused c =
    let b = c.form_instance.new.builder in let e = instance_in c.args.asked.now in let n = c.args.asked.now.fact in
    let q = err_from_is_err_and c.from_residual-in_err-normalise_left-in-LeftAlone.result
    c.from_residual-in_err-normalise_left-in-LeftAlone.ensures.1 in
    rw (q.1, q.2)
    (alone_refused b e n c.args.manner.now.precedence.now c.args.manner.now.name (facts_of c.args.facts.now)
    c.args.manner.now.budget c.requires.small c.in-LeftAlone.side
    (subst (IsFormed b e n) c.in-LeftAlone.is c.in_ok-formed.ensures.formed)
    c.in_err-normalise_left-in-LeftAlone.field-0.0
    c.in_err-normalise_left-in-LeftAlone.ensures.refused)

pub returns-in_err-normalise_left-in-LeftAlone-clause-extends :
    goal.returns-in_err-normalise_left-in-LeftAlone-clause-extends
returns-in_err-normalise_left-in-LeftAlone-clause-extends c =
    extends_trans _ _ _ c.in_ok-formed.ensures.extends c.in_err-normalise_left-in-LeftAlone.ensures.extends

pub returns-in-Whole-clause-extends : goal.returns-in-Whole-clause-extends
returns-in-Whole-clause-extends c =
    extends_trans _ _ _ c.in_ok-formed.ensures.extends c.add_beside.ensures.extends

pub returns-in_ok-normalise_left-in-LeftAlone-clause-refused :
    goal.returns-in_ok-normalise_left-in-LeftAlone-clause-refused
returns-in_ok-normalise_left-in-LeftAlone-clause-refused c =
    let b = c.form_instance.new.builder in let e = instance_in c.args.asked.now in let n = c.args.asked.now.fact in
    alone_large b e n c.args.manner.now.precedence.now c.args.manner.now.name (facts_of c.args.facts.now)
    c.args.manner.now.budget c.requires.small c.in-LeftAlone.side
    (subst (IsFormed b e n) c.in-LeftAlone.is c.in_ok-formed.ensures.formed)
    c.in_ok-normalise_left-in-LeftAlone.ensures.normal.0
    c.in_ok-normalise_left-in-LeftAlone.ensures.normal.1

pub returns-in_ok-normalise_left-in-LeftAlone-clause-extends :
    goal.returns-in_ok-normalise_left-in-LeftAlone-clause-extends
returns-in_ok-normalise_left-in-LeftAlone-clause-extends c =
    extends_trans _ _ _ c.in_ok-formed.ensures.extends c.in_ok-normalise_left-in-LeftAlone.ensures.extends
