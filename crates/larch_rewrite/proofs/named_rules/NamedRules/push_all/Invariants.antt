use Rattle.std.proofs.Common.{◌≡◌, ◌++◌, take}
use Rattle.larch_rewrite.proofs.named_rules.NamedRules.push_all.Given as goal

-- those so far stand behind the others
abbrev pub invariant-loop-rule : goal.invariant-loop-rule
invariant-loop-rule l = l.self ≡ l.initial.self ++ take l.rule-index l.further
