use Rattle.std.specs.Prelude.{◌≡◌, ℕ, List, ◌∷◌, ◌++◌, map}
use Rattle.std.proofs.Common.{ap, sym, ◌∙◌}
use Rattle.std.proofs.lemmas.List.{append_assoc, map-append}
use Rattle.larch_term.specs.Operator.{PlainOperator, name_bytes}
use Rattle.larch_term.specs.Statement.{statement_zero}
use Rattle.larch_methods.specs.ProveMeaningLevels.{Proof}
use Rattle.larch_methods.specs.ProveMeaningPlans.{plan}
use Rattle.larch_methods.specs.ProveMeaningSteps.{setting_of}
use Rattle.larch_methods.specs.ProvePlansPlanning.{method_of, names_of_operators, planned_by, setting_over}
use Rattle.larch_prove_invariant.specs.Holding.{theory_for}
use Rattle.larch_prove_invariant.specs.Setting.{names_beside}
use Rattle.larch_prove_invariant.proofs.constants.settings_agree.Goals as goal

setting_is : (p : Proof) → setting_over (theory_for p) (names_beside p) ≡ setting_of p
setting_is p =
    let scope : List (List ℕ) = map (λ v. v.0) p.scope in
    let own = names_of_operators p.theory.operators in
    ap (λ taken. record { clauses = statement_zero ∷ (theory_for p).statements; taken = taken })
    (sym (append_assoc own (names_of_operators p.constants) scope)
    ∙ ap (λ ns. ns ++ scope) (sym (map-append (λ (f : PlainOperator). name_bytes f.name) p.theory.operators
    p.constants)))

pub returns : goal.returns
returns c = record {
  setting = setting_is;
  plans = λ p g method. ap (λ s. planned_by (plan s g (method_of method))) (setting_is p);
}
