-- What is derivable from a theory that a model is one of holds in it.
use Rattle.std.proofs.Common.{◌≡◌, ◌≤◌, ℕ, true, List, drop, length, None, sym, ◌∙◌, ap, subst}
use Rattle.std.proofs.Math.ListN.{drop_of_length-le}
use Rattle.larch_calculus.specs.Derivable.{Derivable}
use Rattle.larch_term.specs.Statement.{IsWellSortedTheory}
use Rattle.larch_term.specs.declared.statement.Statement.{Statement}
use Rattle.larch_term.specs.declared.statement.Theory.{Theory}
use Rattle.larch_models_meaning.specs.declared.finite_model.FiniteModel.{FiniteModel}
use Rattle.larch_models_meaning.specs.Computed.{holds}
use Rattle.larch_models_meaning.specs.FiniteModel.{first_failing, first_failing_from, interpretation_of, last_among}
use Rattle.larch_models_meaning.specs.FiniteModel.{last_in, value_among}
use Rattle.larch_models_meaning.specs.Interpretation.{Interpretation}
use Rattle.larch_calculus.proofs.WellSorted.{well_sorted}
use Rattle.larch_soundness.proofs.Computing.{holds_if, model_so}
use Rattle.larch_soundness.proofs.FirstFailing.{none_fails_where_all_hold}
use Rattle.larch_soundness.proofs.Sound.{sound}
use Rattle.larch_soundness.proofs.Standards.{standard_interprets}

pub derivable_holds : (t : Theory) (m : FiniteModel) → first_failing (interpretation_of m) t.statements ≡ None
    → IsWellSortedTheory t → (s : Statement) → Derivable t s → holds (interpretation_of m) s ≡ true
derivable_holds t m h w s d =
    let i = standard_interprets (last_among m.sorts) (value_among (last_in m) m.tables) t.operators in
    holds_if i s (well_sorted d)
    (sound d (interpretation_of m) w (model_so i ((none_fails_where_all_hold (interpretation_of m) t.statements).0 h)))

-- where no statement is left to try, none fails
pub none_left : (m : Interpretation) (ss : List Statement) (n i : ℕ) → length ss ≤ i
    → first_failing_from n m (drop i ss) ≡ None
none_left m ss n i l = ap (first_failing_from n m) (drop_of_length-le ss l)

pub holds_where_none_fails : (t : Theory) (m : FiniteModel) (ss : List Statement) (n i : ℕ) → ss ≡ t.statements
    → length ss ≤ i
    → first_failing_from n (interpretation_of m) (drop i t.statements)
    ≡ first_failing (interpretation_of m) t.statements
    → IsWellSortedTheory t → (s : Statement) → Derivable t s → holds (interpretation_of m) s ≡ true
holds_where_none_fails t m ss n i e l h =
    derivable_holds t m (sym h ∙ none_left (interpretation_of m) t.statements n i (subst (λ us. length us ≤ i) e l))
