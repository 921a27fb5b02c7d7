-- The variable is found, and the term is read.
use Rattle.std.specs.List.{find}
use Rattle.std.specs.Option.{option_copied}
use Rattle.std.proofs.Common.{Ok, ap, ap₂, bytes_eq, sym, ◌∙◌, ◌==◌}
use Rattle.std.proofs.lemmas.Result.{err_from_is_err_and}
use Rattle.larch_prove_facts.proofs.Reading.{entry_read, entry_unread, no_variable, written_twice}
use Rattle.larch_prove_facts.proofs.Searching.{one_told, others_told}
use Rattle.larch_prove_facts.proofs.entries.read_entry.Goals as goal
use Rattle.larch_prove_facts.specs.Entries.{names_in}
use Rattle.larch_term.specs.declared.variable.Variable.{Variable}

pub returns-in_default-clause-refused : goal.returns-in_default-clause-refused
returns-in_default-clause-refused c = λ p e st vs.
    no_variable p e (names_in c.args.instances.now) c.args.instance.now
    (ap (find (λ (v : Variable). bytes_eq v.name c.args.instance.now.name.name)) (sym vs)
    ∙ (sym c.variable_named.ensures ∙ ap option_copied c.in_default.is))

pub returns-then-count_named-ne1-clause-refused : goal.returns-then-count_named-ne1-clause-refused
returns-then-count_named-ne1-clause-refused c = λ p e st vs.
    written_twice p e (names_in c.args.instances.now) c.args.instance.now c.in-Some.variable.now
    (ap (find (λ (v : Variable). bytes_eq v.name c.args.instance.now.name.name)) (sym vs)
    ∙ (sym c.variable_named.ensures ∙ ap option_copied c.in-Some.is))
    (ap (λ k. k == 1) (sym c.count_named.ensures) ∙ others_told _ c.if-count_named-ne1.true)

pub returns-in_err-term-clause-refused : goal.returns-in_err-term-clause-refused
returns-in_err-term-clause-refused c =
    let q = err_from_is_err_and c.from_residual.result c.from_residual.ensures.1 in
    rw (q.1, q.2) (λ p e st vs.
    entry_unread p e (names_in c.args.instances.now) c.args.instance.now c.in-Some.variable.now
    (ap (find (λ (v : Variable). bytes_eq v.name c.args.instance.now.name.name)) (sym vs)
    ∙ (sym c.variable_named.ensures ∙ ap option_copied c.in-Some.is))
    (ap (λ k. k == 1) (sym c.count_named.ensures) ∙ one_told _ c.if-count_named-ne1.false)
    c.in_err-term.field-0.0 (c.in_err-term.ensures.refused p st))

pub returns-clause-read : goal.returns-clause-read
returns-clause-read c = λ p e st vs.
    entry_read p e (names_in c.args.instances.now) c.args.instance.now c.in-Some.variable.now
    (ap (find (λ (v : Variable). bytes_eq v.name c.args.instance.now.name.name)) (sym vs)
    ∙ (sym c.variable_named.ensures ∙ ap option_copied c.in-Some.is))
    (ap (λ k. k == 1) (sym c.count_named.ensures) ∙ one_told _ c.if-count_named-ne1.false)
    c.in_ok-term.term (c.in_ok-term.ensures.read p st)
    ∙ ap₂ (λ n s. Ok (record { name = n; sort = s; term = c.in_ok-term.term })) (sym c.in_ok-name.ensures) (sym
    c.in_ok-sort.ensures)
