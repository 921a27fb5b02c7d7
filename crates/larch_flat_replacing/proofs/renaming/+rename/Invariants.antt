use Rattle.std.proofs.Common.{◌≡◌, ◌+◌, ◌*◌, map, sum_by, take}
use Rattle.larch_term.specs.Tree.{nodes}
use Rattle.larch_renaming.specs.Renaming.{rename_tree}
use Rattle.larch_flat_meaning.specs.Replacements.{renaming}
use Rattle.larch_flat_replacing.proofs.renaming.+rename.Given as goal

-- the terms so far are renamed
abbrev pub invariant-renamed_all-loop-term : goal.invariant-renamed_all-loop-term
invariant-renamed_all-loop-term l =
    l.items.items ≡ map (rename_tree (renaming l.names)) (take l.term-index l.term-items)

-- a term has more nodes than its arguments together
abbrev pub decreases-rename : goal.decreases-rename
decreases-rename l = 2 * nodes l.term.now

abbrev pub decreases-renamed_all : goal.decreases-renamed_all
decreases-renamed_all l = 2 * sum_by nodes l.terms.now + 1
