use Rattle.std.proofs.Common.{◌≡◌, ◌+◌, ◌*◌, map, sum_by, take}
use Rattle.larch_term.specs.Tree.{nodes}
use Rattle.larch_renaming.specs.Renaming.{rename_tree}
use Rattle.larch_import_names.specs.Names.{renaming}
use Rattle.larch_import_names.proofs.renaming.+rename.Given as goal

-- the terms so far are renamed
abbrev pub invariant-rename_terms-loop-term : goal.invariant-rename_terms-loop-term
invariant-rename_terms-loop-term l =
    l.items.items ≡ map (rename_tree (renaming l.by)) (take l.term-index l.term-items)

-- a term has more nodes than its arguments together
abbrev pub decreases-rename_term : goal.decreases-rename_term
decreases-rename_term l = 2 * nodes l.term.now

abbrev pub decreases-rename_terms : goal.decreases-rename_terms
decreases-rename_terms l = 2 * sum_by nodes l.terms.now + 1
