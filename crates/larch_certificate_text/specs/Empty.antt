-- Lists with nothing in them.
use Rattle.std.specs.Prelude.{Bool, true, false, List, [], ◌∷◌}

-- whether a list has no items
abbrev pub is_none_of : {A : Type 0} → List A → Bool
is_none_of [] = true
is_none_of (x ∷ xs) = false
