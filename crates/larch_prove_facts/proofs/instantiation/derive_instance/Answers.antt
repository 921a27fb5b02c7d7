-- The level gets the instance, and so does the proof.
use Rattle.std.proofs.Common.{refl}
use Rattle.std.proofs.lemmas.Result.{err_from_is_err_and}
use Rattle.larch_prove_facts.proofs.Beside.{beside_reaches, beside_refused}
use Rattle.larch_prove_facts.proofs.instantiation.derive_instance.Goals as goal
use Rattle.larch_prove_facts.specs.Instance.{instance_in}

pub add_instance-requires-clause-ready : goal.add_instance-requires-clause-ready
add_instance-requires-clause-ready c = c.requires.stands.1.1.1.1.ready

pub returns-clause-derived : goal.returns-clause-derived
returns-clause-derived c = λ p k ks over w.
    let d = c.args.draft.now in
    beside_reaches c.args.proving.now.theory.now c.args.proving.now.statement.now c.args.store.now d p k ks w
    c.args.asked.now.fact c.args.proving.now.around.precedence.now c.args.proving.now.around.limit
    (instance_in c.args.asked.now) c.add_instance.new.store
    (record d {
      builder = c.add_instance.new.builder;
      current = c.add_instance.new.level;
      next_derived = c.add_instance.new.next;
    })
    over c.in_ok-add_instance.ensures.derived c.in_ok-add_instance.ensures.grows c.in_ok-add_instance.ensures.extends
    c.in_ok-add_instance.ensures.rest c.in_ok-add_instance.ensures.ready refl refl refl
    c.in_ok-add_instance.ensures.next refl refl

pub returns-in_err-add_instance-clause-refused : goal.returns-in_err-add_instance-clause-refused
returns-in_err-add_instance-clause-refused c =
    let q = err_from_is_err_and c.from_residual.result c.from_residual.ensures.1 in
    rw (q.1, q.2) (λ p k ks over w.
    beside_refused c.args.proving.now.theory.now c.args.proving.now.statement.now c.args.store.now c.args.draft.now p
    k ks w c.args.asked.now.fact c.args.proving.now.around.precedence.now c.args.proving.now.around.limit
    (instance_in c.args.asked.now) c.in_err-add_instance.field-0.0 over c.in_err-add_instance.ensures.refused)
