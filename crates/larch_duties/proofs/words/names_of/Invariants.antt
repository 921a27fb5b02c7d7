use Rattle.std.proofs.Common.{◌≡◌, [], drop, fold, map}
use Rattle.larch_duties_meaning.specs.Conversions.{bytes_of}
use Rattle.larch_duties.specs.Names.{with_word}
use Rattle.larch_duties.proofs.words.names_of.Given as goal

-- what the operators that are left make of the names so far is the whole
abbrev pub invariant-loop-operator : goal.invariant-loop-operator
invariant-loop-operator l =
    fold with_word l.names.keys (map (λ f. bytes_of f.name) (drop l.operator-index l.operators))
    ≡ fold with_word [] (map (λ f. bytes_of f.name) l.operators)
