-- What is found by what a text is read as, and claims one by one.
use Rattle.std.proofs.Common.{◌≡◌, ◌↔◌, ◌<◌, ◌+◌, ℕ, suc, IsTrue, Bool, List, ◌++◌}
use Rattle.std.proofs.Common.{drop, get_or, length, Ok, Err, sym, ◌∙◌, ap, arith}
use Rattle.std.proofs.Common.{append_assoc}
use Rattle.larch_base.proofs.Bools.{same_truth}
use Rattle.larch_term.specs.declared.statement.Statement.{Statement}
use Rattle.larch_term.specs.declared.statement.Statement.TheVariants.{Equation, Generated, Partitioned}
use Rattle.larch_term.specs.declared.statement.Theory.{Theory}
use Rattle.larch_models_meaning.specs.declared.finite_model.FiniteModel.{FiniteModel}
use Rattle.larch_models_meaning.specs.FiniteModel.{Fits}
use Rattle.larch_models_meaning.specs.Interpretation.{Interpretation}
use Rattle.larch_models_meaning.specs.ModelText.{read_model}
use Rattle.larch_models.proofs.Rests.{drop_next}
use Rattle.larch_models.specs.declared.truth.TheConstants.{MAX_ASSIGNMENTS}
use Rattle.larch_models_answer.specs.Judgements.{claim_line, claim_lines, is_small, judge, judge_model, judge_reading}
use Rattle.larch_models_answer.specs.Judgements.{label_at, malformed_finding}
use Rattle.larch_models_answer.specs.declared.claim.Kind.{Kind}

pub text_read : (t : Theory) (assumed implied : List Statement) (text : List ℕ) (m : FiniteModel)
    → read_model t.operators text ≡ Ok m → judge m t assumed implied ≡ judge_model t assumed implied text
text_read t assumed implied text m e = sym (ap (judge_reading t assumed implied) e)

pub text_refused : (t : Theory) (assumed implied : List Statement) (text : List ℕ) (n : ℕ)
    → read_model t.operators text ≡ Err n → malformed_finding n ≡ judge_model t assumed implied text
text_refused t assumed implied text n e = sym (ap (judge_reading t assumed implied) e)

pub small_if_fits : (m : FiniteModel) (s : Statement) (b : Bool) → (IsTrue b ↔ Fits MAX_ASSIGNMENTS m s)
    → b ≡ is_small m s
small_if_fits m (Equation l r) b h = same_truth b _ (λ e. grind (arith, h.0 e)) (λ e. h.1 (grind (arith, e)))
small_if_fits m (Generated s fs) b h = h.1 tt
small_if_fits m (Partitioned s os) b h = h.1 tt

-- one claim more
pub lines_further : (m : Interpretation) (kind : Kind) (ss : List Statement) (i : ℕ) (s : Statement) (text : List ℕ)
    → i < length ss → s ≡ get_or ss i s
    → (text ++ claim_line m (label_at kind (i + 1)) s) ++ claim_lines m kind (i + 1 + 1) (drop (i + 1) ss)
    ≡ text ++ claim_lines m kind (i + 1) (drop i ss)
lines_further m kind ss i s text l e =
    append_assoc text (claim_line m (label_at kind (i + 1)) s) (claim_lines m kind (i + 1 + 1) (drop (i + 1) ss))
    ∙ ap (λ k. text ++ (claim_line m (label_at kind (i + 1)) s ++ claim_lines m kind k (drop (i + 1) ss)))
    (one_more (i + 1))
    ∙ ap (λ us. text ++ claim_lines m kind (i + 1) us) (sym (drop_next ss i s l e))
  where
    one_more : (k : ℕ) → k + 1 ≡ suc k
    one_more k = omega arith
