use Rattle.std.specs.Prelude.{◌≡◌, ◌↔◌, IsTrue}
use Rattle.std.proofs.Common.{sym, subst, ◌∙◌}
use Rattle.larch_prove_adding.proofs.Values.{truth_is_value, value_told}
use Rattle.larch_prove_adding.proofs.treating.is_value.Goals as goal
use Rattle.larch_term.specs.Tree.{Tree}

pub returns-then-is_truth : goal.returns-then-is_truth
returns-then-is_truth c = sym (truth_is_value _ (sym c.is_truth.ensures ∙ c.if-is_truth.true))

pub returns : goal.returns
returns c =
    value_told _ _ (sym c.is_truth.ensures ∙ c.if-is_truth.false)
    (subst (λ (f : Tree). IsTrue c.same_term.result ↔ (c.args.term.now ≡ f)) c.in_ok-falsity.ensures
    c.same_term.ensures)
