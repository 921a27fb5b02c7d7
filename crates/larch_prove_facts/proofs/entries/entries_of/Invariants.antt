use Rattle.std.proofs.Common.{◌≡◌, ◌++◌, Ok, drop}
use Rattle.larch_prove_facts.specs.Entries.{names_in, variables_both}
use Rattle.larch_prove_facts.proofs.entries.entries_of.Given as goal
use Rattle.larch_prove_meaning.specs.Levels.{Proof}
use Rattle.larch_prove_meaning.specs.Steps.{instantiation}
use Rattle.larch_prove_work.specs.ProveSettingsSettings.{AreSettingsOf}
use Rattle.larch_rewrite_meaning.specs.Sides.{Sides}
use Rattle.larch_base_meaning.specs.Steps.{after}

-- what is written for those so far, and then what is written for those that are left
abbrev pub invariant-loop-instance : goal.invariant-loop-instance
invariant-loop-instance l = (p : Proof) (e : Sides) → AreSettingsOf l.settings p → l.variables ≡ variables_both e
    → instantiation p e (names_in l.instances) l.instances
    ≡ after (instantiation p e (names_in l.instances) (drop l.instance-index l.instances)) (λ es. Ok (l.entries ++ es))
