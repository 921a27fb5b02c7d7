use Rattle.std.proofs.Common.{◌≡◌, drop, find, option_map}
use Rattle.larch_shorthand.specs.Shorthand.{names_truth}
use Rattle.larch_shorthand.proofs.shorthand.first_truth.Given as goal

-- what is left is answered as all words are
abbrev pub invariant-loop-word : goal.invariant-loop-word
invariant-loop-word l =
    option_map (λ w. w.pos) (find names_truth (drop l.word-index l.words))
    ≡ option_map (λ w. w.pos) (find names_truth l.words)
