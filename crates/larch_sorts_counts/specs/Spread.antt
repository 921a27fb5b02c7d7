-- Counts by number, of which a part is held.
use Rattle.std.specs.Prelude.{◌≤◌, ◌<◌, List, [], suc, zero, ℕ, ◌∷◌}
use Rattle.larch_sorts_counts.specs.declared.count.Count.{Count}
use Rattle.larch_sorts_counts.specs.declared.count.Count.TheVariants.{Never}

-- so many counts: those that are held, from a number on, and no others
abbrev pub spread : ℕ → ℕ → List Count → List Count
spread zero first held = []
spread (suc n) zero [] = Never ∷ spread n zero []
spread (suc n) zero (c ∷ held) = c ∷ spread n zero held
spread (suc n) (suc first) held = Never ∷ spread n first held

-- a number below so many lies between two
abbrev pub LiesBetween : ℕ → ℕ → ℕ → ℕ → Type 0
LiesBetween first end n number = number < n → (first ≤ number) × (number < end)
