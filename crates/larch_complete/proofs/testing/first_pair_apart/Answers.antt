use Rattle.std.specs.Prelude.{map, option_map, refl}
use Rattle.std.proofs.lemmas.Result.{IfErr-weaker, IfOk-weaker, err_from_is_err_and}
use Rattle.larch_complete.proofs.Found.{group_found, group_halts, group_refused}
use Rattle.larch_complete.proofs.testing.first_pair_apart.Goals as goal
use Rattle.larch_complete_meaning.specs.Pairs.{pairs_in}
use Rattle.larch_complete_pairs.specs.Said.{rule_in, sides_in}
use Rattle.larch_complete_rounds.specs.Ready.{rules_in}
use Rattle.larch_complete_rounds.specs.Task.{task_in}
use Rattle.larch_complete_rounds.proofs.Reducing.{ready_still}
use Rattle.larch_derive.proofs.Growth.{extends_trans}

pub returns-in_err-pairs-clause-halts : goal.returns-in_err-pairs-clause-halts
returns-in_err-pairs-clause-halts c =
    let p = err_from_is_err_and c.from_residual.result c.from_residual.ensures.1 in
    rw (p.1, p.2)
    (group_refused (task_in c.args.task.now) (rules_in c.args.rewriter.now)
    (pairs_in (rule_in c.args.first.now) (rule_in c.args.second.now) c.args.one) _ c.in_err-pairs.ensures.refused)

pub first_apart-requires-clause-ready : goal.first_apart-requires-clause-ready
first_apart-requires-clause-ready c =
    ready_still c.args.rewriter.now (record c.args.rewriter.now { builder = c.pairs_between.new.builder })
    c.in_ok-pairs.ensures.extends refl refl c.requires.ready

pub returns-clause-found : goal.returns-clause-found
returns-clause-found c =
    IfOk-weaker c.first_apart.result _ _
    (λ found h. group_found (task_in c.args.task.now) (rules_in c.args.rewriter.now)
    (pairs_in (rule_in c.args.first.now) (rule_in c.args.second.now) c.args.one)
    (map sides_in c.in_ok-pairs.pairs.items) (option_map sides_in found) c.in_ok-pairs.ensures.formed h)
    c.first_apart.ensures.found

pub returns-clause-halts : goal.returns-clause-halts
returns-clause-halts c =
    IfErr-weaker c.first_apart.result _ _
    (λ x h. group_halts (task_in c.args.task.now) (rules_in c.args.rewriter.now)
    (pairs_in (rule_in c.args.first.now) (rule_in c.args.second.now) c.args.one)
    (map sides_in c.in_ok-pairs.pairs.items) x c.in_ok-pairs.ensures.formed h) c.first_apart.ensures.halts

pub returns-clause-extends : goal.returns-clause-extends
returns-clause-extends c = extends_trans _ _ _ c.in_ok-pairs.ensures.extends c.first_apart.ensures.extends
