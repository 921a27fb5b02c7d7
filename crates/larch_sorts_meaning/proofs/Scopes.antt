-- Variables in scope.
use Rattle.std.proofs.Common.{◌≡◌, ◌∙◌, ℕ, true, List, Option, Some, None, is_some, refl, sym, ap, Bor}
use Rattle.std.specs.Option.{option_copied}
use Rattle.std.specs.Map.{lookup}
use Rattle.std.specs.Str.{bytes_eq}
use Rattle.larch_sorts_meaning.specs.Scope.{Variables, sort_in}

-- a variable that isn't found isn't in scope
pub found_none : (inside now : Variables) (n : List ℕ) (found : Option (Bor (List ℕ))) → inside ≡ now
    → option_copied found ≡ sort_in now n → (is_some found ≡ true → ⊥) → lookup (bytes_eq n) inside ≡ None
found_none inside now n None v e h = ap (lookup (bytes_eq n)) v ∙ sym e
found_none inside now n (Some s) v e h = absurd (h refl)
