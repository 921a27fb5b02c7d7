use Rattle.std.proofs.Common.{◌∙◌, None, sym, ap}
use Rattle.larch_traits_items.specs.Index.{only_seen, seen_at}
use Rattle.larch_traits_items.specs.References.{is_wanted, only_operator}
use Rattle.larch_traits_items.proofs.Indexed.{exact_suits, exact_unsuited, made_wanted, taking_wanted}
use Rattle.larch_traits_items.proofs.references.only_indexed.Goals as goal

pub returns-then-suits : goal.returns-then-suits
returns-then-suits c = λ fs i.
    c.only_seen.ensures ∙ ap only_seen c.get.ensures.value
    ∙ exact_suits c.args.index.now.themselves.entries c.args.wanted.now.kind c.args.wanted.now.sort
    c.args.wanted.now.name c.in-Some.exact fs i.0 (sym c.suits.ensures ∙ c.if-suits.true)
    ∙ ap
    (λ e. only_operator (is_wanted
    (record { kind = c.args.wanted.now.kind; sort = c.args.wanted.now.sort; name = c.args.wanted.now.name; exact = e }))
    fs) (sym c.in-Some.is)

pub returns-in-Some : goal.returns-in-Some
returns-in-Some c = λ fs i.
    exact_unsuited c.args.wanted.now.kind c.args.wanted.now.sort c.args.wanted.now.name c.in-Some.exact fs
    (sym c.suits.ensures ∙ c.if-suits.false)
    ∙ ap
    (λ e. only_operator (is_wanted
    (record { kind = c.args.wanted.now.kind; sort = c.args.wanted.now.sort; name = c.args.wanted.now.name; exact = e }))
    fs) (sym c.in-Some.is)

pub returns-in-Generated : goal.returns-in-Generated
returns-in-Generated c = λ fs i.
    c.only_seen-in-Generated.ensures
    ∙ ap only_seen (c.get-in-Generated.ensures.value
    ∙ ap (seen_at c.args.index.now.made.entries) c.in_ok-key.ensures)
    ∙ made_wanted c.args.index.now.made.entries c.args.wanted.now.sort c.args.wanted.now.name fs i.1
    ∙ ap
    (λ k. only_operator (is_wanted
    (record { kind = k; sort = c.args.wanted.now.sort; name = c.args.wanted.now.name; exact = None })) fs)
    (sym c.in-Generated.is)
    ∙ ap
    (λ e. only_operator (is_wanted
    (record { kind = c.args.wanted.now.kind; sort = c.args.wanted.now.sort; name = c.args.wanted.now.name; exact = e }))
    fs) (sym c.in_default.is)

pub returns : goal.returns
returns c = λ fs i.
    c.only_seen-in-Partitioned.ensures
    ∙ ap only_seen (c.get-in-Partitioned.ensures.value
    ∙ ap (seen_at c.args.index.now.taking.entries) c.in_ok-key.ensures)
    ∙ taking_wanted c.args.index.now.taking.entries c.args.wanted.now.sort c.args.wanted.now.name fs i.2
    ∙ ap
    (λ k. only_operator (is_wanted
    (record { kind = k; sort = c.args.wanted.now.sort; name = c.args.wanted.now.name; exact = None })) fs)
    (sym c.in-Partitioned.is)
    ∙ ap
    (λ e. only_operator (is_wanted
    (record { kind = c.args.wanted.now.kind; sort = c.args.wanted.now.sort; name = c.args.wanted.now.name; exact = e }))
    fs) (sym c.in_default.is)
