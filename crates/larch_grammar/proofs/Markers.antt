-- Markers are one, and more.
use Rattle.std.specs.Prelude.{◌≡◌, ◌<◌, ◌-◌, ◌++◌, ℕ, zero, suc, codes}
use Rattle.std.proofs.Common.{ap, arith}
use Rattle.larch_grammar.specs.Trees.{markers, more_markers}

pub some_markers : (n : ℕ) → 0 < n → markers n ≡ codes "__" ++ more_markers (n - 1)
some_markers zero h = absurd (omega (arith, h))
some_markers (suc n) h = let e : n ≡ suc n - 1 = omega arith in ap (λ m. codes "__" ++ more_markers m) e
