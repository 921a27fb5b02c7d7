-- What is derivable is well sorted.
use Rattle.std.proofs.Common.{List, refl, sym, ◌∙◌, subst}
use Rattle.larch_term.specs.Operator.{PlainOperator}
use Rattle.larch_term.specs.Tree.{Tree}
use Rattle.larch_term.specs.BuiltIn.{built_in}
use Rattle.larch_term.specs.Substitution.{instance_of}
use Rattle.larch_term.specs.declared.built_in.BuiltIn.TheVariants.{Equal}
use Rattle.larch_term.specs.Statement.{IsStatementOver}
use Rattle.larch_term.specs.declared.statement.Statement.{Statement}
use Rattle.larch_term.specs.declared.statement.Statement.TheVariants.{Equation}
use Rattle.larch_term.specs.declared.statement.Theory.{Theory}
use Rattle.larch_term_law.proofs.Substitutions.{substituted_sort, substituted_well_sorted, substituted_over}
use Rattle.larch_term_law.proofs.Places.{put_sort, put_well_sorted, put_over}
use Rattle.larch_calculus.specs.Derivable.{Derivable}
use Rattle.larch_calculus.specs.Induction.{IsClosed, by_rules}
use Rattle.larch_calculus.specs.Freed.{free_constants}
use Rattle.larch_calculus.proofs.Identities.{identity_over}
use Rattle.larch_calculus.proofs.Sorted.{statement_over_more, knows_included, sides_over}
use Rattle.larch_calculus.proofs.Freeing.{freed_sort, freed_well_sorted}

abbrev Equates : List PlainOperator → Tree → Tree → Type 0
Equates fs a b = IsStatementOver fs (Equation a b)

-- each rule leads from well sorted statements to a well sorted one
rules_well_sorted : IsClosed (λ t s. IsStatementOver t.operators s)
rules_well_sorted =
    record {
      axiom_ = λ t s c w. w;
      identity = λ t a b i. identity_over t.operators i;
      reflexive = λ t a w. (w, w, refl);
      symmetric = λ t a b d. let w = d.1 in (w.1, w.0, sym w.2);
      replace = λ t a b c u v p d e h i.
          let w = d.1 in
          let x = e.1 in
          subst (λ z. Equates t.operators a z) (sym i) (
            w.0,
            (put_well_sorted b p u v h (sym x.2) w.1.0 x.1.0, put_over t.operators b p v w.1.1 x.1.1),
            w.2 ∙ sym (put_sort b p u v h (sym x.2)),
          );
      instance = λ t a b c d es f o x p q.
          let w = x.1 in
          subst (λ z. Equates t.operators z d) (sym p)
          (subst (λ z. Equates t.operators (instance_of es a) z) (sym q) (
            (substituted_well_sorted es a f w.0.0, substituted_over t.operators es a o w.0.1),
            (substituted_well_sorted es b f w.1.0, substituted_over t.operators es b o w.1.1),
            substituted_sort es a f ∙ w.2 ∙ sym (substituted_sort es b f),
          ));
      equal = λ t a b s d.
          let w = d.1 in
          let p = sides_over t.operators (built_in Equal s) s s a b refl w.0 in
          (p.0.0, p.1.0, p.0.1 ∙ sym p.1.1);
      weaken = λ t u s g i d. statement_over_more u.operators t.operators (knows_included u t i) s d.1;
      fresh = λ t a b c d cs vs n k e x p q.
          let w = x.1 in
          let l = freed_well_sorted t cs vs n e a w.0.1 w.0.0 in
          let r = freed_well_sorted t cs vs n e b w.1.1 w.1.0 in
          subst (λ z. Equates t.operators z d) (sym p)
          (subst (λ z. Equates t.operators (free_constants cs vs a) z) (sym q)
          (l, r, freed_sort t cs vs n e a w.0.1 ∙ w.2 ∙ sym (freed_sort t cs vs n e b w.1.1)));
      cases = λ t a b f w s o d e. d.1;
      induct = λ t a b x s fs cs g w k d. w;
      observe = λ t a b s os names p w e k d. w;
      generated = λ t s fs p x w n d r h. w;
      partitioned = λ t s os c d w n k e f h. w;
    }

-- what is derivable from a theory is well sorted over its operators
pub well_sorted : {t : Theory} {s : Statement} → Derivable t s → IsStatementOver t.operators s
well_sorted d = by_rules (λ t s. IsStatementOver t.operators s) rules_well_sorted d
