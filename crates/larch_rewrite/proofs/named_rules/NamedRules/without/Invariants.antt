use Rattle.std.proofs.Common.{◌≡◌, take}
use Rattle.larch_rewrite.specs.RuleSet.{without}
use Rattle.larch_rewrite.proofs.named_rules.NamedRules.without.Given as goal

-- those so far that have another name are copied
abbrev pub invariant-loop-rule : goal.invariant-loop-rule
invariant-loop-rule l = l.others ≡ without l.name (take l.rule-index l.self)
