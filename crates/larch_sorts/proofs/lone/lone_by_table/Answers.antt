use Rattle.std.proofs.Common.{◌∙◌, Some, sym, ap, subst}
use Rattle.std.specs.Option.{option_copied}
use Rattle.larch_sorts_signature.specs.SortsMeaningReadings.{ReadsLone}
use Rattle.larch_sorts_signature.specs.SortsMeaningFound.{Tells}
use Rattle.larch_sorts.proofs.SidesTold.{lone_anywhere, lone_at}
use Rattle.larch_sorts.proofs.lone.lone_by_table.Goals as goal

pub returns-in_default-clause-tells : goal.returns-in_default-clause-tells
returns-in_default-clause-tells c =
    subst
    (λ found. Tells found (ReadsLone c.args.signature.now c.args.scope.now
    (option_copied c.args.sort) c.args.raw.now)) (sym c.in_ok-found.ensures)
    (lone_anywhere c.args.signature.now c.args.scope.now c.args.raw.now c.in_ok-table.table.found.value.entries
    (option_copied c.args.sort) (ap option_copied c.in_default.is) c.in_ok-table.ensures.tells)

pub returns-clause-tells : goal.returns-clause-tells
returns-clause-tells c =
    lone_at c.args.signature.now c.args.scope.now c.args.raw.now c.in_ok-table.table.found.value.entries
    (option_copied c.args.sort) c.in-Some.sort.now (Some c.in_ok-found-in-Some-at.found)
    (ap option_copied c.in-Some.is)
    (ap Some c.in_ok-found-in-Some-at.ensures ∙ (ap option_copied (sym c.in-Some-at.is) ∙ c.at.ensures))
    c.in_ok-table.ensures.tells
