use Rattle.std.proofs.Common.{map, sym, ap, subst}
use Rattle.std.specs.Option.{option_copied}
use Rattle.larch_sorts_signature.specs.Overloads.{IsMade}
use Rattle.larch_sorts_counts.specs.SortsMeaningSignature.{kept}
use Rattle.larch_sorts_signature.proofs.application.apply_named.Goals as goal

pub returns-in_ok-table-in-Some : goal.returns-in_ok-table-in-Some
returns-in_ok-table-in-Some c =
    subst (IsMade c.in_ok-table-in-Some.table.found.value.entries (map (λ t. t.found.value.entries) c.args.tables.now))
    (sym (ap (λ o. kept (option_copied o)) c.in-Some.is)) c.in_ok-table-in-Some.ensures
