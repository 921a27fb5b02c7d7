use Rattle.std.specs.Prelude.{All, map}
use Rattle.std.proofs.Common.{subst, sym, ◌∙◌}
use Rattle.std.proofs.lemmas.Result.{IfErr-weaker, IfOk-weaker, err_from_is_err_and}
use Rattle.larch_complete.proofs.Found.{test_finds, test_found, test_halts, test_stops}
use Rattle.larch_complete.proofs.testing.last_test.Goals as goal
use Rattle.larch_complete_pairs.specs.Said.{IsSaid}
use Rattle.larch_complete_rounds.specs.Certified.{sides_behind}
use Rattle.larch_complete_rounds.specs.Ready.{rules_in}
use Rattle.larch_complete_rounds.proofs.Certifying.{rules_stay}
use Rattle.larch_derive.proofs.Growth.{extends_refl, extends_trans}

pub returns-in_err-equations-clause-extends : goal.returns-in_err-equations-clause-extends
returns-in_err-equations-clause-extends c = extends_refl _

pub first_apart-requires-clause-equations : goal.first_apart-requires-clause-equations
first_apart-requires-clause-equations c =
    subst (All (IsSaid c.args.rewriter.now.builder)) (sym (c.in_ok-equations.ensures ∙ c.as_slice.ensures))
    c.requires.equations

pub returns-in_err-undecided-clause-halts : goal.returns-in_err-undecided-clause-halts
returns-in_err-undecided-clause-halts c =
    let p = err_from_is_err_and c.from_residual-in_err-undecided.result c.from_residual-in_err-undecided.ensures.1 in
    rw (p.1, p.2)
    (test_halts c.args.task.now (rules_in c.args.rewriter.now) c.in_ok-equations.equations.items _
    (c.in_ok-equations.ensures ∙ c.as_slice.ensures) c.in_err-undecided.ensures.halts)

pub returns-in-Some-clause-found : goal.returns-in-Some-clause-found
returns-in-Some-clause-found c =
    test_found c.args.task.now (rules_in c.args.rewriter.now) c.in_ok-equations.equations.items
    c.in_ok-undecided.undecided c.in-Some.equation (c.in_ok-equations.ensures ∙ c.as_slice.ensures) c.in-Some.is
    c.in_ok-undecided.ensures.found

pub first_apart_in_rules-requires-clause-rules : goal.first_apart_in_rules-requires-clause-rules
first_apart_in_rules-requires-clause-rules c =
    rules_stay _ _ c.args.rules.now c.in_ok-undecided.ensures.extends c.requires.rules

pub returns-clause-found : goal.returns-clause-found
returns-clause-found c =
    IfOk-weaker c.first_apart_in_rules.result _ _
    (λ found h. test_finds c.args.task.now (rules_in c.args.rewriter.now) (rules_in c.first_apart.new.rewriter)
    (map sides_behind c.args.rules.now) c.in_ok-equations.equations.items c.in_ok-undecided.undecided found
    (c.in_ok-equations.ensures ∙ c.as_slice.ensures) c.in_default.is c.in_ok-undecided.ensures.found
    c.in_ok-undecided.ensures.rules c.requires.same h) c.first_apart_in_rules.ensures.found

pub returns-clause-halts : goal.returns-clause-halts
returns-clause-halts c =
    IfErr-weaker c.first_apart_in_rules.result _ _
    (λ x h. test_stops c.args.task.now (rules_in c.args.rewriter.now) (rules_in c.first_apart.new.rewriter)
    (map sides_behind c.args.rules.now) c.in_ok-equations.equations.items c.in_ok-undecided.undecided x
    (c.in_ok-equations.ensures ∙ c.as_slice.ensures) c.in_default.is c.in_ok-undecided.ensures.found
    c.in_ok-undecided.ensures.rules c.requires.same h) c.first_apart_in_rules.ensures.halts

pub returns-clause-extends : goal.returns-clause-extends
returns-clause-extends c =
    extends_trans _ _ _ c.in_ok-undecided.ensures.extends c.first_apart_in_rules.ensures.extends
