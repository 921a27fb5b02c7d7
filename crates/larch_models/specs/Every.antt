-- What is so of all lists of values.
use Rattle.std.specs.Prelude.{ℕ, Bool, List, [], ◌∷◌}
use Rattle.larch_models_meaning.specs.Computed.{all_up_to}

-- all lists of values, each up to the last one of its place, have the property
abbrev pub all_lists : List ℕ → (List ℕ → Bool) → Bool
all_lists [] p = p []
all_lists (n ∷ ns) p = all_up_to n (λ v. all_lists ns (λ vs. p (v ∷ vs)))
