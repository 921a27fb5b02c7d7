-- Instance by instance.
use Rattle.std.proofs.Common.{◌++◌, ◌+◌, ◌∷◌, List, Ok, ap, arith, drop, sym, ◌∙◌}
use Rattle.std.proofs.lemmas.List.{drop_all, drop_more}
use Rattle.std.proofs.lemmas.Result.{err_from_is_err_and}
use Rattle.larch_prove_facts.proofs.Reading.{entries_done, entries_first, entries_next, entries_refused}
use Rattle.larch_prove_facts.proofs.entries.entries_of.Goals as goal
use Rattle.larch_prove_facts.specs.Entries.{names_in}
use Rattle.larch_prove_meaning.specs.Steps.{instantiation}
use Rattle.larch_script_commands.specs.declared.command.RawInstance.{RawInstance}
use Rattle.larch_term.specs.declared.substitution.Entry.{Entry}
use Rattle.larch_base_meaning.specs.Steps.{after}

pub loop-instance-init : goal.loop-instance-init
loop-instance-init c p e st vs =
    entries_first p e (names_in c.args.instances.now) c.args.instances.now
    ∙ ap (λ (xs : List Entry). after (instantiation p e (names_in c.args.instances.now) c.args.instances.now)
    (λ es. Ok (xs ++ es))) (sym c.new-entries.ensures)

pub loop-instance-preserved : goal.loop-instance-preserved
loop-instance-preserved c p e st vs =
    let is = c.args.instances.now in let k = c.loop-instance.instance-index in let i = c.instance-item.result in
    let names = names_in is in let old = c.loop-instance.entries in
    entries_next p e names _ old i (drop (k + 1) is)
    (c.loop-instance.invariant p e st vs
    ∙ ap (λ (js : List RawInstance). after (instantiation p e names js) (λ es. Ok (old ++ es)))
    (drop_more is k i c.loop-instance-test.true ∙ ap (λ x. x ∷ drop (k + 1) is) (sym c.instance-item.is)))
    c.in_ok-entry.entry _ (c.in_ok-entry.ensures.read p e st vs) c.in_ok-push.ensures.ok

pub returns-in_err-entry-clause-refused : goal.returns-in_err-entry-clause-refused
returns-in_err-entry-clause-refused c =
    let q = err_from_is_err_and c.from_residual.result c.from_residual.ensures.1 in
    let is = c.args.instances.now in let k = c.loop-instance.instance-index in let i = c.instance-item.result in
    let names = names_in is in let old = c.loop-instance.entries in
    rw (q.1, q.2) (λ p e st vs.
    entries_refused p e names _ old i (drop (k + 1) is)
    (c.loop-instance.invariant p e st vs
    ∙ ap (λ (js : List RawInstance). after (instantiation p e names js) (λ es. Ok (old ++ es)))
    (drop_more is k i c.loop-instance-test.true ∙ ap (λ x. x ∷ drop (k + 1) is) (sym c.instance-item.is)))
    c.in_err-entry.field-0.0 (c.in_err-entry.ensures.refused p e st vs))

pub returns-clause-read : goal.returns-clause-read
returns-clause-read c p e st vs =
    let is = c.args.instances.now in let k = c.loop-instance.instance-index in
    entries_done p e (names_in is) _ c.loop-instance.entries (drop k is)
    (drop_all k is (omega (arith, c.loop-instance-test.false))) (c.loop-instance.invariant p e st vs)
