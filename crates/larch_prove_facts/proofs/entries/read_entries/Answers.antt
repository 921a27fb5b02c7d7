-- The fact is found, and what is written for its variables is read.
use Rattle.std.proofs.Common.{Ok, ap, refl, sym, ◌∙◌}
use Rattle.std.proofs.lemmas.Result.{err_from_is_err_and}
use Rattle.larch_prove_work.specs.ProveAddingEquation.{sides_in}
use Rattle.larch_prove_work.specs.ProveAddingKeptFacts.{facts_of}
use Rattle.larch_prove_facts.proofs.Reading.{named_entries}
use Rattle.larch_prove_facts.proofs.Written.{entries_differ}
use Rattle.larch_prove_facts.proofs.entries.read_entries.Goals as goal
use Rattle.larch_prove_work.proofs.Readings.{tells_as}

pub substitution_of-requires : goal.substitution_of-requires
substitution_of-requires c =
    let q = c.requires.settings in
    entries_differ q.0 (sides_in c.in_ok-equation.equation) c.args.instances.now c.in_ok-entries.entries
    (c.in_ok-entries.ensures.read q.0 (sides_in c.in_ok-equation.equation) q.1
    (c.as_slice.ensures ∙ c.in_ok-variables.ensures))

pub returns-in_err-entries-clause-refused : goal.returns-in_err-entries-clause-refused
returns-in_err-entries-clause-refused c =
    let q = err_from_is_err_and c.from_residual-in_err-entries.result c.from_residual-in_err-entries.ensures.1 in
    rw (q.1, q.2) (λ p st.
    tells_as _ _ c.in_err-entries.field-0.0
    (named_entries c.args.fact.now c.args.instances.now (facts_of c.args.facts.now) p
    (sides_in c.in_ok-equation.equation) _ c.in_ok-equation.ensures.named refl)
    (c.in_err-entries.ensures.refused p (sides_in c.in_ok-equation.equation) st
    (c.as_slice.ensures ∙ c.in_ok-variables.ensures)))

pub returns-clause-read : goal.returns-clause-read
returns-clause-read c = λ p st.
    named_entries c.args.fact.now c.args.instances.now (facts_of c.args.facts.now) p
    (sides_in c.in_ok-equation.equation) _ c.in_ok-equation.ensures.named
    (c.in_ok-entries.ensures.read p (sides_in c.in_ok-equation.equation) st
    (c.as_slice.ensures ∙ c.in_ok-variables.ensures) ∙ ap (λ es. Ok es) (sym c.in_ok-substitution_of.ensures))
