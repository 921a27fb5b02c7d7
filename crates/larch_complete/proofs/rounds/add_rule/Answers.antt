use Rattle.std.specs.Prelude.{All, refl}
use Rattle.std.proofs.Common.{subst, sym}
use Rattle.std.proofs.lemmas.Result.{err_from_is_err_and}
use Rattle.larch_complete.proofs.Holding.{certified_added, new_rule_in, rule_ends, rule_goes, sound_added}
use Rattle.larch_complete.proofs.rounds.add_rule.Goals as goal
use Rattle.larch_complete_pairs.specs.Said.{sides_in}
use Rattle.larch_complete_rounds.specs.Certified.{IsCertified, IsRuleIn}
use Rattle.larch_complete_rounds.proofs.Certifying.{equations_stay, one_theory, rules_stay}
use Rattle.larch_complete_rounds.proofs.Reducing.{ready_still}
use Rattle.larch_derive.specs.Builder.{theory_in}
use Rattle.larch_derive.proofs.Growth.{extends_trans, stays_said}

pub returns-in_err-certified-clause-certified : goal.returns-in_err-certified-clause-certified
returns-in_err-certified-clause-certified c = c.requires.sound.certified

pub push_new_pairs-pushed-requires-clause-rules : goal.push_new_pairs-pushed-requires-clause-rules
push_new_pairs-pushed-requires-clause-rules c =
    subst (All (λ r. IsRuleIn c.certify_rule.new.rewriter.builder r.said)) (sym c.as_slice.ensures)
    (rules_stay _ _ c.args.work.now.rules c.in_ok-certified.ensures.extends c.requires.sound.rules)

pub push_new_pairs-pushed-requires-clause-new : goal.push_new_pairs-pushed-requires-clause-new
push_new_pairs-pushed-requires-clause-new c =
    new_rule_in (theory_in c.args.work.now.rewriter.builder) c.certify_rule.new.rewriter.builder
    (sides_in c.args.rule) c.in_ok-certified.certified.said (one_theory _ _ c.in_ok-certified.ensures.extends)
    c.requires.derivable c.in_ok-certified.ensures.rule c.in_ok-certified.ensures.says

pub push_new_pairs-pushed-requires-clause-waiting : goal.push_new_pairs-pushed-requires-clause-waiting
push_new_pairs-pushed-requires-clause-waiting c =
    equations_stay _ _ c.args.work.now.waiting.items c.in_ok-certified.ensures.extends c.requires.sound.waiting

pub returns-in_err-push-clause-certified : goal.returns-in_err-push-clause-certified
returns-in_err-push-clause-certified c =
    subst (All (IsCertified (theory_in c.args.work.now.rewriter.builder))) (sym c.in_err-push.ensures.err)
    c.requires.sound.certified

pub returns-in_err-pushed-clause-ends : goal.returns-in_err-pushed-clause-ends
returns-in_err-pushed-clause-ends c =
    let p = err_from_is_err_and c.from_residual-in_err-pushed.result c.from_residual-in_err-pushed.ensures.1 in
    rw (p.1, p.2)
    (λ next. rule_ends c.args.work.now c.push.new.self c.args.rule c.in_ok-certified.certified c.as_slice.result.now _
    next c.in_ok-certified.ensures.rule c.in_ok-push.ensures.ok c.as_slice.ensures c.in_err-pushed.ensures.refused)

pub returns-in_err-pushed-clause-certified : goal.returns-in_err-pushed-clause-certified
returns-in_err-pushed-clause-certified c =
    certified_added _ c.args.work.now c.push.new.self c.in_ok-certified.certified c.requires.sound
    c.in_ok-certified.ensures.certified c.in_ok-push.ensures.ok

pub returns-clause-goes : goal.returns-clause-goes
returns-clause-goes c next =
    rule_goes c.args.work.now
    (record {
      rewriter = record c.certify_rule.new.rewriter { builder = c.push_new_pairs-pushed.new.builder };
      rules = c.push.new.self;
      waiting = c.push_new_pairs-pushed.new.waiting;
    }) c.args.rule c.in_ok-certified.certified c.as_slice.result.now next c.in_ok-certified.ensures.rule
    c.in_ok-push.ensures.ok c.as_slice.ensures c.in_ok-pushed.ensures.wait

pub returns-clause-sound : goal.returns-clause-sound
returns-clause-sound c =
    sound_added _ c.args.work.now
    (record {
      rewriter = record c.certify_rule.new.rewriter { builder = c.push_new_pairs-pushed.new.builder };
      rules = c.push.new.self;
      waiting = c.push_new_pairs-pushed.new.waiting;
    }) c.args.rule c.in_ok-certified.certified c.as_slice.result.now c.requires.sound
    (extends_trans _ _ _ c.in_ok-certified.ensures.extends c.push_new_pairs-pushed.ensures.extends)
    (ready_still c.certify_rule.new.rewriter
    (record c.certify_rule.new.rewriter { builder = c.push_new_pairs-pushed.new.builder })
    c.push_new_pairs-pushed.ensures.extends refl refl c.in_ok-certified.ensures.ready)
    c.in_ok-certified.ensures.rules c.requires.derivable c.in_ok-certified.ensures.rule
    (stays_said _ _ _ _ c.push_new_pairs-pushed.ensures.extends c.in_ok-certified.ensures.says)
    c.in_ok-certified.ensures.certified c.in_ok-push.ensures.ok c.as_slice.ensures c.in_ok-pushed.ensures.wait
    c.in_ok-pushed.ensures.said

pub returns-clause-extends : goal.returns-clause-extends
returns-clause-extends c =
    extends_trans _ _ _ c.in_ok-certified.ensures.extends c.push_new_pairs-pushed.ensures.extends

pub returns-clause-certified : goal.returns-clause-certified
returns-clause-certified c =
    certified_added _ c.args.work.now c.push.new.self c.in_ok-certified.certified c.requires.sound
    c.in_ok-certified.ensures.certified c.in_ok-push.ensures.ok
