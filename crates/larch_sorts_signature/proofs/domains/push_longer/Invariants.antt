use Rattle.std.proofs.Common.{◌≡◌, ◌++◌, ◌∷◌, [], map}
use Rattle.larch_sorts_signature.specs.Domains.{with_sorts}
use Rattle.larch_sorts_signature.proofs.domains.push_longer.Given as goal

-- what is there so far, with the sorts that are left, is all
abbrev pub invariant-loop-sort : goal.invariant-loop-sort
invariant-loop-sort l =
    l.more ++ map (λ s. l.domain ++ s ∷ []) l.sort-iterator
    ≡ l.initial.more ++ with_sorts l.table.found.value.entries l.domain
