use Rattle.std.proofs.Common.{◌≡◌, ℕ, List, drop, map}
use Rattle.std.specs.List.{fold}
use Rattle.larch_sorts_signature.specs.Domains.{found_among}
use Rattle.larch_sorts_signature.specs.Operators.{with_operator}
use Rattle.larch_sorts_signature.specs.Table.{reading_at}
use Rattle.larch_sorts_signature.proofs.application.add_by_domains.Given as goal

-- what the operators of the domains that are left add to what is there is what all add to what was there
abbrev pub invariant-loop-domain : goal.invariant-loop-domain
invariant-loop-domain l =
    (s : List ℕ) → fold (with_operator (map (λ t. t.found.value.entries) l.tables) s) (reading_at l.entries.entries s)
    (found_among l.domains.kept.entries (drop l.domain-index l.among))
    ≡ fold (with_operator (map (λ t. t.found.value.entries) l.tables) s) (reading_at l.initial.entries.entries s)
    (found_among l.domains.kept.entries l.among)
