use Rattle.std.proofs.Common.{◌≡◌, map, take}
use Rattle.larch_renaming.specs.Renaming.{rename_tree}
use Rattle.larch_term.specs.declared.statement.Statement.TheVariants.{Equation}
use Rattle.larch_flat_meaning.specs.Replacements.{renaming}
use Rattle.larch_duties.proofs.clause.exempt_in.Given as goal

-- the terms so far
abbrev pub invariant-loop-term : goal.invariant-loop-term
invariant-loop-term l = l.exempt ≡ map (λ t. Equation t (rename_tree (renaming l.names) t)) (take l.term-index l.terms)
