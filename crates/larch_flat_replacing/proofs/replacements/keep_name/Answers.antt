use Rattle.std.proofs.Common.{◌++◌, ◌∷◌, [], sym, ◌∙◌, ap}
use Rattle.std.specs.Map.{lookup}
use Rattle.indexmap.proofs.CallerLemmas.{insert_entry-new}
use Rattle.larch_term.specs.Equality.{same_operator}
use Rattle.larch_flat_replacing.proofs.Lookups.{known_behind, none_from}
use Rattle.larch_flat_replacing.proofs.replacements.keep_name.Goals as goal

pub returns-then-contains_key : goal.returns-then-contains_key
returns-then-contains_key c =
    known_behind c.args.names.now.entries c.args.operator.now c.args.name.now
    (sym c.contains_key.ensures ∙ c.if-contains_key.true)

pub returns : goal.returns
returns c = λ f.
    let es = c.args.names.now.entries in
    let absent =
    ap (λ g. lookup (same_operator g) es) c.in_ok-operator.ensures
    ∙ none_from (lookup (same_operator c.args.operator.now) es)
    (sym c.contains_key.ensures ∙ c.if-contains_key.false) in
    ap (lookup (same_operator f))
    (c.in_ok-insert.ensures.entries
    ∙ insert_entry-new _ c.args.names.now c.in_ok-operator.operator c.in_ok-name.name absent
    ∙ (λ i. es ++ (c.in_ok-operator.ensures i, c.in_ok-name.ensures i) ∷ []))
