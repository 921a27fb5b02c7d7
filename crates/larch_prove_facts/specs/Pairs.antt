-- The critical pairs of two facts.
use Rattle.std.specs.Prelude.{List, All, Result, find}
use Rattle.larch_base.specs.declared.code.Code.{Code}
use Rattle.larch_base.specs.declared.fact_name.FactName.{FactName}
use Rattle.larch_pairs_critical.specs.Overlap.{IsApplication}
use Rattle.larch_pairs_critical.specs.Pairs.{critical_pairs}
use Rattle.larch_prove_meaning.specs.Facts.{Facts}
use Rattle.larch_prove_meaning.specs.Steps.{equations_of, has_name, rule_of, sides_or}
use Rattle.larch_rewrite_meaning.specs.Sides.{Sides}
use Rattle.larch_script_commands.specs.Same.{same_fact_name}
use Rattle.larch_base_meaning.specs.Steps.{after}

-- the equations of the critical pairs of two of these facts
abbrev pub pairs_among : FactName → FactName → Facts → Result (List Sides) Code
pairs_among n m facts =
    after (sides_or (find (has_name n) facts.rules)) (λ e.
    after (sides_or (find (has_name m) facts.rules)) (λ d.
    equations_of (critical_pairs (rule_of e) (rule_of d) (same_fact_name n m))))

-- no fact rewrites a variable
abbrev pub RewriteApplications : Facts → Type 0
RewriteApplications facts = All (λ fact. IsApplication fact.sides.left) facts.rules
