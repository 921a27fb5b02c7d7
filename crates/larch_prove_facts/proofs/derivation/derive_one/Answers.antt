-- The level is derived to, and so is the proof.
use Rattle.std.proofs.Common.{refl}
use Rattle.std.proofs.lemmas.Result.{err_from_is_err_and}
use Rattle.larch_prove_work.specs.ProveAddingEquation.{sides_in}
use Rattle.larch_prove_facts.proofs.Worked.{derived_reaches, derived_refused}
use Rattle.larch_prove_facts.proofs.derivation.derive_one.Goals as goal

pub derive-requires-clause-ready : goal.derive-requires-clause-ready
derive-requires-clause-ready c = c.requires.stands.1.1.1.1.ready

pub returns-clause-derived : goal.returns-clause-derived
returns-clause-derived c = λ p k ks over w.
    let d = c.args.draft.now in
    derived_reaches c.args.proving.now.theory.now c.args.proving.now.statement.now c.args.store.now d p k ks w
    c.args.proving.now.around.precedence.now c.args.proving.now.around.limit (sides_in c.args.equation)
    c.derive.new.store
    (record d { builder = c.derive.new.builder; current = c.derive.new.level; next_derived = c.derive.new.next })
    over c.in_ok-derive.ensures.derived c.in_ok-derive.ensures.grows c.in_ok-derive.ensures.extends
    c.in_ok-derive.ensures.rest c.in_ok-derive.ensures.ready refl refl refl c.in_ok-derive.ensures.next refl refl

pub returns-in_err-derive-clause-refused : goal.returns-in_err-derive-clause-refused
returns-in_err-derive-clause-refused c =
    let q = err_from_is_err_and c.from_residual.result c.from_residual.ensures.1 in
    rw (q.1, q.2) (λ p k ks over w.
    derived_refused c.args.proving.now.theory.now c.args.proving.now.statement.now c.args.store.now c.args.draft.now p
    k ks w c.args.proving.now.around.precedence.now c.args.proving.now.around.limit (sides_in c.args.equation)
    c.in_err-derive.field-0.0 over c.in_err-derive.ensures.refused)
