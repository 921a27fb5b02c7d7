-- Variables that are put into scope in turn.
use Rattle.std.specs.Prelude.{◌≡◌, ◌∷◌, [], ℕ, List, Bool, false, true, is_some, map, not, refl}
use Rattle.std.proofs.Common.{ap, ◌∙◌}
use Rattle.std.proofs.lemmas.List.Sums.{fold-append}
use Rattle.larch_prove_meaning.specs.Steps.{with_all_new, with_new}
use Rattle.larch_prove_settings.specs.Scope.{AreInOrder, AreNewInTurn, pair_of}
use Rattle.larch_sorts_meaning.specs.Scope.{Variables, sort_in, with_variable}
use Rattle.larch_term.specs.declared.variable.Variable.{Variable}

by_told : (scope : Variables) (n s : List ℕ) (b : Bool) → not (is_some (sort_in scope n)) ≡ b → AreNewInTurn scope
    → AreNewInTurn (with_variable b scope n s)
by_told scope n s true e h =
    fold-append with_new [] scope ((n, s) ∷ [])
    ∙ (ap (λ vs. with_new vs (n, s)) h ∙ ap (λ b. with_variable b scope n s) e)
by_told scope n s false e h = h

-- with one more, each name is there once
pub one_more : (scope : Variables) (v : List ℕ × List ℕ) → AreNewInTurn scope → AreNewInTurn (with_new scope v)
one_more scope v h = by_told scope v.0 v.1 (not (is_some (sort_in scope v.0))) refl h

-- variables in scope that are put into scope once more
pub put_again : (vs : List Variable) (scope made : Variables) → AreInOrder vs scope
    → made ≡ with_all_new [] (map pair_of vs) → made ≡ scope
put_again vs scope made h e = e ∙ (ap (with_all_new []) h.0 ∙ h.1)
