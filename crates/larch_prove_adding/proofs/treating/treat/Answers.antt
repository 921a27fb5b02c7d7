use Rattle.std.specs.Prelude.{◌≡◌, true, IfErr, OnOk, refl}
use Rattle.std.proofs.Common.{sym, subst, ◌∙◌}
use Rattle.larch_derive.proofs.Growth.{extends_trans}
use Rattle.larch_prove_adding.specs.Equation.{sides_in}
use Rattle.larch_prove_adding.specs.KeptFacts.{facts_of}
use Rattle.larch_prove_adding.specs.Turns.{IsOpposite, Leads, MayRefuse, course_of}
use Rattle.larch_prove_adding.proofs.Staying.{equations_stay, said_stays}
use Rattle.larch_prove_adding.proofs.Values.{opposite, others_treated, same_dropped, true_false, value_contradicts}
use Rattle.larch_prove_adding.proofs.Views.{contradicted}
use Rattle.larch_prove_adding.proofs.treating.treat.Goals as goal
use Rattle.larch_prove_invariant.specs.ProveMeaningFacts.{is_value}
use Rattle.larch_rewrite_meaning.specs.Sides.{Sides}

pub returns-then-same_term-clause-treated : goal.returns-then-same_term-clause-treated
returns-then-same_term-clause-treated c =
    subst
    (λ t. Leads t c.args.manner.now.name
    (course_of c.args.adding.now.made c.args.adding.now.waiting.items c.args.facts.now)
    (course_of c.args.adding.now.made c.args.adding.now.waiting.items c.args.facts.now))
    (sym (same_dropped c.args.manner.now.precedence.now (sides_in c.args.equation)
    (c.same_term.ensures.0 c.if-same_term.true))) (refl, refl, refl)

pub contradict-requires-clause-opposite : goal.contradict-requires-clause-opposite
contradict-requires-clause-opposite c =
    let e = sides_in c.args.equation in
    let v : is_value c.in_ok-equation.equation.left ≡ true = sym c.in_ok-contradicts.ensures ∙ c.if-contradicts.true in
    subst IsOpposite (sym c.in_ok-equation.ensures.sides)
    (opposite e (λ p. true_false (sym (c.same_term.ensures.1 p) ∙ c.if-same_term.false))
    (subst (λ (d : Sides). is_value d.left ≡ true) c.in_ok-equation.ensures.sides v))

pub contradict-requires-clause-said : goal.contradict-requires-clause-said
contradict-requires-clause-said c = said_stays _ _ c.args.facts.now c.in_ok-equation.ensures.extends c.requires.said

pub returns-in_err-contradict-clause-extends : goal.returns-in_err-contradict-clause-extends
returns-in_err-contradict-clause-extends c =
    extends_trans _ _ _ c.in_ok-equation.ensures.extends c.in_err-contradict.ensures.extends

pub returns-then-contradicts-clause-treated : goal.returns-then-contradicts-clause-treated
returns-then-contradicts-clause-treated c =
    subst
    (λ t. Leads t c.args.manner.now.name
    (course_of c.args.adding.now.made c.args.adding.now.waiting.items c.args.facts.now)
    (course_of c.args.adding.now.made c.args.adding.now.waiting.items c.contradict.new.facts))
    (sym (value_contradicts c.args.manner.now.precedence.now (sides_in c.args.equation)
    (sides_in c.in_ok-equation.equation)
    (λ p. true_false (sym (c.same_term.ensures.1 p) ∙ c.if-same_term.false)) c.in_ok-equation.ensures.sides
    (sym c.in_ok-contradicts.ensures ∙ c.if-contradicts.true))) (
      refl,
      refl,
      contradicted c.args.facts.now c.contradict.new.facts c.in_ok-contradict.ensures.rules
          c.in_ok-contradict.ensures.contradictory,
    )

pub returns-then-contradicts-clause-waiting : goal.returns-then-contradicts-clause-waiting
returns-then-contradicts-clause-waiting c =
    equations_stay _ _ c.args.adding.now.waiting.items
    (extends_trans _ _ _ c.in_ok-equation.ensures.extends c.in_ok-contradict.ensures.extends) c.requires.waiting

pub returns-then-contradicts-clause-extends : goal.returns-then-contradicts-clause-extends
returns-then-contradicts-clause-extends c =
    extends_trans _ _ _ c.in_ok-equation.ensures.extends c.in_ok-contradict.ensures.extends

pub replace_or_keep-requires-clause-said : goal.replace_or_keep-requires-clause-said
replace_or_keep-requires-clause-said c =
    said_stays _ _ c.args.facts.now c.in_ok-equation.ensures.extends c.requires.said

pub replace_or_keep-requires-clause-waiting : goal.replace_or_keep-requires-clause-waiting
replace_or_keep-requires-clause-waiting c =
    equations_stay _ _ c.args.adding.now.waiting.items c.in_ok-equation.ensures.extends c.requires.waiting

pub returns-clause-treated : goal.returns-clause-treated
returns-clause-treated c =
    subst
    (λ t. OnOk c.replace_or_keep.result (Leads t c.args.manner.now.name
    (course_of c.args.adding.now.made c.args.adding.now.waiting.items c.args.facts.now)
    (course_of c.replace_or_keep.new.adding.made c.replace_or_keep.new.adding.waiting.items
    c.replace_or_keep.new.facts)))
    (sym (others_treated c.args.manner.now.precedence.now (sides_in c.args.equation)
    (sides_in c.in_ok-equation.equation)
    (λ p. true_false (sym (c.same_term.ensures.1 p) ∙ c.if-same_term.false)) c.in_ok-equation.ensures.sides
    (sym c.in_ok-contradicts.ensures ∙ c.if-contradicts.false)))
    c.replace_or_keep.ensures.treated

pub returns-clause-refused : goal.returns-clause-refused
returns-clause-refused c =
    subst (λ t. IfErr c.replace_or_keep.result (MayRefuse t (facts_of c.args.facts.now)))
    (sym (others_treated c.args.manner.now.precedence.now (sides_in c.args.equation)
    (sides_in c.in_ok-equation.equation)
    (λ p. true_false (sym (c.same_term.ensures.1 p) ∙ c.if-same_term.false)) c.in_ok-equation.ensures.sides
    (sym c.in_ok-contradicts.ensures ∙ c.if-contradicts.false)))
    c.replace_or_keep.ensures.refused

pub returns-clause-extends : goal.returns-clause-extends
returns-clause-extends c = extends_trans _ _ _ c.in_ok-equation.ensures.extends c.replace_or_keep.ensures.extends
