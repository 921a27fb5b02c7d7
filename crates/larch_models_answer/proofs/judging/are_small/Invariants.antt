use Rattle.std.proofs.Common.{◌≡◌, true, take}
use Rattle.std.specs.List.{list_all}
use Rattle.larch_models_answer.specs.Judgements.{is_small}
use Rattle.larch_models_answer.proofs.judging.are_small.Given as goal

abbrev pub invariant-loop-statement : goal.invariant-loop-statement
invariant-loop-statement l = list_all (is_small l.model) (take l.statement-index l.statements) ≡ true
