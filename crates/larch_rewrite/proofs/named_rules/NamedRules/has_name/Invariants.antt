use Rattle.std.proofs.Common.{◌≡◌, drop}
use Rattle.std.specs.List.{list_any}
use Rattle.larch_rewrite.specs.RuleSet.{has_name}
use Rattle.larch_rewrite.proofs.named_rules.NamedRules.has_name.Given as goal

-- none of the rules so far has it
abbrev pub invariant-loop-rule : goal.invariant-loop-rule
invariant-loop-rule l = list_any (has_name l.name) (drop l.rule-index l.self) ≡ list_any (has_name l.name) l.self
