use Rattle.std.proofs.Common.{◌∙◌, ◌++◌, ◌∷◌, [], ap, rules}
use Rattle.indexmap.proofs.CallerLemmas.{insert_entry-new}
use Rattle.larch_sorts_meaning.proofs.Scopes.{found_none}
use Rattle.larch_sorts_meaning.proofs.scope.Scope.insert.Goals as goal

pub returns-clause-added : goal.returns-clause-added
returns-clause-added c =
    c.in_ok-insert.ensures.entries
    ∙ insert_entry-new _ c.self.inside.sorts c.args.name c.args.sort
    (found_none c.self.inside.sorts.entries c.args.self.now c.args.name c.get.result c.self.view_is c.get.ensures
    (λ e. search rules))
    ∙ ap (λ vs. vs ++ (c.args.name, c.args.sort) ∷ []) c.self.view_is
