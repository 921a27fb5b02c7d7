-- Equation by equation.
use Rattle.std.proofs.Common.{All, List, ap, arith, map, rules, subst, ◌∙◌, ◌≡◌, []}
use Rattle.std.proofs.lemmas.Grind.{common_steps}
use Rattle.std.proofs.lemmas.List.Elements.{All-head, All-tail}
use Rattle.std.proofs.lemmas.Result.{err_from_is_err_and}
use Rattle.larch_derive.proofs.Growth.{extends_trans}
use Rattle.larch_prove_work.proofs.ProveAddingStaying.{equations_stay}
use Rattle.larch_prove_work.specs.ProveAddingEquation.{IsSaid, sides_in}
use Rattle.larch_prove_work.specs.ProveAddingEquationSaidEquation.{SaidEquation}
use Rattle.larch_prove_work.proofs.ProveDraftAlike.{alike_same, over_alike}
use Rattle.larch_prove_facts.proofs.Turns.{continued, continued_none, continues_later, continues_there}
use Rattle.larch_prove_facts.proofs.Turns.{refused_there}
use Rattle.larch_prove_facts.proofs.derivation.derive_all.Goals as goal
use Rattle.larch_prove_work.proofs.ProveLevelsTelling.{tells_same}
use Rattle.larch_prove_meaning.specs.Steps.{all_derived}

pub loop-equation-init : goal.loop-equation-init
loop-equation-init c =
    let same : c.args.equations.items ≡ c.into_iter-equation-iterator.result.rest.items = search rules in record {
      leads = λ p k ks over w.
          (p, (ap (λ (es : List SaidEquation). all_derived (map sides_in es) p) same, (alike_same p, (ks, (k, w)))));
      said = subst (All (IsSaid c.args.draft.now.builder)) same c.requires.said;
    }

pub derive_one-requires-clause-stands : goal.derive_one-requires-clause-stands
derive_one-requires-clause-stands c =
    let q = c.requires.stands in
    let z = c.loop-equation.invariant.leads q.0 q.1.0 q.1.1.0 q.1.1.1.0 q.1.1.1.1 in
    (z.0, (z.1.1.1.1.0, (z.1.1.1.0, (over_alike _ _ _ q.0 z.0 z.1.1.0 q.1.1.1.0, z.1.1.1.1.1))))

pub derive_one-requires-clause-said : goal.derive_one-requires-clause-said
derive_one-requires-clause-said c =
    All-head (IsSaid c.loop-equation.draft.builder) c.in-Some.equation c.next.new.self.rest.items
    (subst (All (IsSaid c.loop-equation.draft.builder)) c.in-Some.ensures.steps.0 c.loop-equation.invariant.said)

pub is_proved-requires-clause-ready : goal.is_proved-requires-clause-ready
is_proved-requires-clause-ready c =
    let q = c.requires.stands in
    let z = continued _ _ _ _ q.0 _ _ c.in-Some.equation c.next.new.self.rest.items c.in-Some.ensures.steps.0
    (c.loop-equation.invariant.leads q.0 q.1.0 q.1.1.0 q.1.1.1.0 q.1.1.1.1) in
    (c.in_ok-derive_one.ensures.derived z.0 z.1.1.1.1.0 z.1.1.1.0 (over_alike _ _ _ q.0 z.0 z.1.1.0 q.1.1.1.0)
    z.1.1.1.1.1).1.1.1.1.1.ready

pub is_proved-requires-clause-stored : goal.is_proved-requires-clause-stored
is_proved-requires-clause-stored c =
    let q = c.requires.stands in
    let z = continued _ _ _ _ q.0 _ _ c.in-Some.equation c.next.new.self.rest.items c.in-Some.ensures.steps.0
    (c.loop-equation.invariant.leads q.0 q.1.0 q.1.1.0 q.1.1.1.0 q.1.1.1.1) in
    (c.in_ok-derive_one.ensures.derived z.0 z.1.1.1.1.0 z.1.1.1.0 (over_alike _ _ _ q.0 z.0 z.1.1.0 q.1.1.1.0)
    z.1.1.1.1.1).1.1.1.1.1.stored

pub loop-equation-preserved : goal.loop-equation-preserved
loop-equation-preserved c =
    let t = c.args.proving.now.theory.now in let s = c.args.proving.now.statement.now in
    let e = c.in-Some.equation in let more = c.next.new.self.rest.items in record {
      leads = λ p k ks over w.
          let z = continued _ _ _ _ p _ _ e more c.in-Some.ensures.steps.0
          (c.loop-equation.invariant.leads p k ks over w) in
          let r = c.in_ok-derive_one.ensures.derived z.0 z.1.1.1.1.0 z.1.1.1.0 (over_alike t _ _ p z.0 z.1.1.0 over)
          z.1.1.1.1.1 in
          continues_later t s _ _ _ _ _ p _ (sides_in e) (map sides_in more) z r
          (c.in_ok-proved.ensures.stands t s r.0 r.1.1.1.1.0 r.1.1.1.0 r.1.1.1.1.1)
          (c.in_ok-proved.ensures.told t s r.0 r.1.1.1.1.0 r.1.1.1.0 r.1.1.1.1.1 ∙ c.if-proved.false);
      said = equations_stay c.loop-equation.draft.builder c.is_proved.new.draft.builder more
          (extends_trans _ _ _ c.in_ok-derive_one.ensures.extends c.in_ok-proved.ensures.extends)
          (All-tail (IsSaid c.loop-equation.draft.builder) e more
          (subst (All (IsSaid c.loop-equation.draft.builder)) c.in-Some.ensures.steps.0
          c.loop-equation.invariant.said));
    }

pub returns-then-proved-clause-derived : goal.returns-then-proved-clause-derived
returns-then-proved-clause-derived c = λ p k ks over w.
    let t = c.args.proving.now.theory.now in let s = c.args.proving.now.statement.now in
    let e = c.in-Some.equation in let more = c.next.new.self.rest.items in
    let z = continued _ _ _ _ p _ _ e more c.in-Some.ensures.steps.0
    (c.loop-equation.invariant.leads p k ks over w) in
    let r = c.in_ok-derive_one.ensures.derived z.0 z.1.1.1.1.0 z.1.1.1.0 (over_alike t _ _ p z.0 z.1.1.0 over)
    z.1.1.1.1.1 in
    continues_there t s _ _ _ _ _ p _ (sides_in e) (map sides_in more) z r
    (c.in_ok-proved.ensures.stands t s r.0 r.1.1.1.1.0 r.1.1.1.0 r.1.1.1.1.1)
    (c.in_ok-proved.ensures.told t s r.0 r.1.1.1.1.0 r.1.1.1.0 r.1.1.1.1.1 ∙ c.if-proved.true)

pub returns-clause-derived : goal.returns-clause-derived
returns-clause-derived c = λ p k ks over w.
    let none : c.loop-equation.equation-iterator.rest.items ≡ [] = grind (arith, common_steps) in
    continued_none _ _ _ _ p _ _ none (c.loop-equation.invariant.leads p k ks over w)

pub returns-in_err-derive_one-clause-refused : goal.returns-in_err-derive_one-clause-refused
returns-in_err-derive_one-clause-refused c =
    let t = c.args.proving.now.theory.now in let s = c.args.proving.now.statement.now in
    let q = err_from_is_err_and c.from_residual.result c.from_residual.ensures.1 in
    rw (q.1, q.2) (λ p k ks over w.
    let e = c.in-Some.equation in let more = c.next.new.self.rest.items in
    let all = all_derived (map sides_in c.args.equations.items) p in
    let z = continued t s _ _ p all _ e more c.in-Some.ensures.steps.0
    (c.loop-equation.invariant.leads p k ks over w) in
    tells_same all _ c.in_err-derive_one.field-0.0 z.1.0
    (refused_there (sides_in e) (map sides_in more) z.0 c.in_err-derive_one.field-0.0
    (c.in_err-derive_one.ensures.refused z.0 z.1.1.1.1.0 z.1.1.1.0 (over_alike t _ _ p z.0 z.1.1.0 over)
    z.1.1.1.1.1)))
