use Rattle.std.proofs.Common.{◌≡◌, take, map}
use Rattle.larch_traits_items.proofs.declarations.sorts_of.Given as goal

-- the sorts so far
abbrev pub invariant-loop-word : goal.invariant-loop-word
invariant-loop-word l = l.sorts ≡ map (λ w. w.name) (take l.word-index l.words)
