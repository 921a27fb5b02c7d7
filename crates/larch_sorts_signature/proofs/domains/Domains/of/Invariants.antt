use Rattle.std.proofs.Common.{◌≡◌, ◌++◌, ℕ, List, drop, filter}
use Rattle.larch_sorts_signature.specs.Domains.{has_domain, kept_for}
use Rattle.larch_sorts_signature.proofs.domains.Domains.of.Given as goal

-- the operators of each domain that are kept, with those that are left, are all
abbrev pub invariant-loop-operator : goal.invariant-loop-operator
invariant-loop-operator l =
    (ss : List (List ℕ)) → kept_for l.kept.entries ss ++ filter (has_domain ss) (drop l.operator-index l.operators)
    ≡ filter (has_domain ss) l.operators
