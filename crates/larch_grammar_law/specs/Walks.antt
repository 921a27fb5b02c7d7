-- What a machine reads that takes one token at a time.
use Rattle.std.specs.Prelude.{◌≡◌, Option, Some, None, List, [], ◌∷◌}
use Rattle.larch_grammar_law.specs.declared.mark.Mark.{Mark}

-- a claim on the mark and the state of a step, if there is one
abbrev pub Taken : {State : Type 0} → Option (Mark × State) → (Mark → State → Type 0) → Type 0
Taken None claim = Unit {0}
Taken (Some taken) claim = claim taken.0 taken.1

-- from a state, these tokens with these marks are taken, and end in a tree
abbrev pub Accepts : {Token State Tree : Type 0} → (State → Token → Option (Mark × State)) → (State → Option Tree)
    → State → List (Token × Mark) → Tree → Type 0
Accepts step final state [] tree = final state ≡ Some tree
Accepts {Token} {State} step final state (m ∷ ms) tree =
    (after : State) × (step state m.0 ≡ Some (m.1, after)) × Accepts step final after ms tree

-- from a state, these tokens with these marks lead to another
abbrev pub Walk : {Token State : Type 0} → (State → Token → Option (Mark × State)) → State → List (Token × Mark)
    → State → Type 0
Walk step state [] end = state ≡ end
Walk {Token} {State} step state (m ∷ ms) end =
    (after : State) × (step state m.0 ≡ Some (m.1, after)) × Walk step after ms end
