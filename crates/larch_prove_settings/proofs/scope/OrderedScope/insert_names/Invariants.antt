use Rattle.std.proofs.Common.{◌≡◌, map, take}
use Rattle.larch_prove_meaning.specs.Steps.{with_all_new}
use Rattle.larch_prove_settings.proofs.scope.OrderedScope.insert_names.Given as goal

-- those so far are in scope
abbrev pub invariant-loop-word : goal.invariant-loop-word
invariant-loop-word l =
    l.self ≡ with_all_new l.initial.self (map (λ w. (w.name, l.sort)) (take l.word-index l.names))
