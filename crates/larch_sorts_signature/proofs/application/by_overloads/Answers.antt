use Rattle.std.proofs.Common.{◌≡◌, ◌∙◌, ◌<◌, ℕ, List, IfSome, length, map, sym, ap, subst}
use Rattle.larch_sorts_signature.specs.Domains.{domains_of, found_among}
use Rattle.larch_sorts_signature.specs.Operators.{operators_at}
use Rattle.larch_sorts_signature.specs.Table.{reading_at}
use Rattle.larch_sorts_signature.proofs.ByDomain.{domains_made}
use Rattle.larch_sorts_signature.proofs.Enough.{all_enough, found_made, no_tables}
use Rattle.larch_sorts_signature.proofs.application.by_overloads.Goals as goal

pub returns-then-is_empty : goal.returns-then-is_empty
returns-then-is_empty c = (
  c.args.overloads.now,
  all_enough (map (λ t. t.found.value.entries) c.args.tables.now) c.args.overloads.now,
  λ s. ap (λ es. reading_at es s) c.in_ok-table.ensures ∙ c.constants.ensures s
      ∙ ap (λ ts. operators_at (map (λ t. t.found.value.entries) ts) c.args.overloads.now s)
      (sym (no_tables c.args.tables.now (sym c.is_empty.ensures ∙ c.if-is_empty.true))),
)

pub returns-then-count_of-choice : goal.returns-then-count_of-choice
returns-then-count_of-choice c =
    domains_made (λ t. t.found.value.entries) c.args.tables.now c.in-Some.places.now.domains.kept.entries
    c.args.overloads.now c.in_ok-table-2.table.found.value.entries
    c.in-Some.ensures.1
    (subst (λ d. (s : List ℕ) → reading_at c.in_ok-table-2.table.found.value.entries s
    ≡ operators_at (map (λ t. t.found.value.entries) c.args.tables.now)
    (found_among d.kept.entries (domains_of (map (λ t. t.found.value.entries) c.args.tables.now))) s)
    c.domains.ensures c.in_ok-table-2.ensures)

pub returns-in-Some-position : goal.returns-in-Some-position
returns-in-Some-position c =
    found_made (λ t. t.found.value.entries) c.args.tables.now c.in-Some.places.now.kept.entries c.args.overloads.now
    c.in-Some-position.position c.index-tables-position.result c.in_ok-table-3.table.found.value.entries
    c.in-Some.ensures.0 (subst (λ o. IfSome o (λ position. position < length c.args.tables.now)) c.in-Some-position.is
    c.in_ok-choice.ensures) c.index-tables-position.is c.in_ok-table-3.ensures

pub returns : goal.returns
returns c = (
  c.args.overloads.now,
  all_enough (map (λ t. t.found.value.entries) c.args.tables.now) c.args.overloads.now,
  λ s. c.in_ok-table-4.ensures s
      ∙ ap (λ fs. operators_at (map (λ t. t.found.value.entries) c.args.tables.now) fs s) c.as_slice-2.ensures,
)
