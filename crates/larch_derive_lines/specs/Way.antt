-- Ways from a term to another one.
use Rattle.std.specs.Prelude.{◌≡◌, ℕ, Option, Some, None}
use Rattle.larch_term.specs.Tree.{Tree}
use Rattle.larch_derive.specs.Predicates.{HasEquation}
use Rattle.larch_derive.specs.declared.builder.Builder.{Builder}

-- a way leads from a term to another: without a line both are one term, and a line says that they are equal
abbrev pub Leads : Builder → Option ℕ → Tree → Tree → Type 0
Leads b None s t = s ≡ t
Leads b (Some n) s t = HasEquation b n s t
