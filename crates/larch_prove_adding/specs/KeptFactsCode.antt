-- Facts with their lines are told apart by their parts.
use Rattle.std.specs.Prelude.{ℕ, Option, refl}
use Rattle.std.specs.Coded.{Coded, code_by, coded×, coded_ℕ, coded_option}
use Rattle.larch_prove_adding.specs.KeptFacts.{KeptFacts}
use Rattle.larch_rewrite.specs.RuleSet.{RuleSet}
use Rattle.larch_rewrite.specs.RuleSetCode.{coded_set}

abbrev pub coded_facts : Coded KeptFacts
coded_facts =
    code_by (RuleSet × Option ℕ) (coded× coded_set (coded_option coded_ℕ)) (λ k. (k.rules, k.absurd))
    (λ p. record { rules = p.0; absurd = p.1 }) (λ _. refl)
