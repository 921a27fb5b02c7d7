use Rattle.std.specs.Prelude.{◌≡◌, drop, find}
use Rattle.larch_prove_adding.proofs.named.rule_named.Given as goal
use Rattle.larch_rewrite.specs.RuleSet.{has_name}

-- none so far has it
abbrev pub invariant-loop-index : goal.invariant-loop-index
invariant-loop-index l =
    find (has_name l.name) l.rules.rules ≡ find (has_name l.name) (drop l.index l.rules.rules)
