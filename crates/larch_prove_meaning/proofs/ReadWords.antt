-- What commands read as is in words.
use Rattle.std.specs.Prelude.{◌≡◌, ℕ, List, All, Contains, Some, Ok, refl}
use Rattle.std.proofs.lemmas.List.Elements.{All-contains, All-weaker}
use Rattle.std.proofs.Common.{subst}
use Rattle.larch_raw.specs.declared.equation.RawEquation.{RawEquation}
use Rattle.larch_raw.specs.declared.equation.RawRight.{RawRight}
use Rattle.larch_term.specs.Operator.{PlainOperator}
use Rattle.larch_term.specs.Tree.{Tree}
use Rattle.larch_term.specs.declared.statement.Statement.{Statement}
use Rattle.larch_term.specs.declared.statement.Statement.TheVariants.{Equation, Generated, Partitioned}
use Rattle.larch_sorts_meaning.specs.Laws.{OperatorSorts}
use Rattle.larch_sorts_meaning.specs.Read.{read_equation, read_term}
use Rattle.larch_sorts_meaning.specs.Readings.{Reads, ReadsEquation}
use Rattle.larch_sorts_meaning.proofs.ReadAnswers.{equation_ok, term_ok}
use Rattle.larch_sorts_meaning.proofs.Sorted.{statement_in_scope}
use Rattle.larch_sorts_meaning.proofs.SortsRead.{statement_names, statement_so}
use Rattle.larch_base_meaning.specs.Word.{IsWord}
use Rattle.larch_rewrite_meaning.specs.Sides.{Sides}
use Rattle.larch_prove_meaning.specs.InWords.{IsStatementInWords, IsTermInWords, NamesWords}
use Rattle.larch_prove_meaning.specs.Levels.{Proof}
use Rattle.larch_prove_meaning.specs.Steps.{as_sides, own_operators, read_lone, read_or, read_sides}
use Rattle.larch_prove_meaning.proofs.LevelSorts.{between, ok_inj}
use Rattle.larch_prove_meaning.proofs.StepSorts.{read_done}

module _ (p : Proof) (h : NamesWords p) where
  own : (f : PlainOperator) → Contains (own_operators p) f → OperatorSorts IsWord f
  own f c = All-contains (OperatorSorts IsWord) (own_operators p) f h.0 c

  sorts : All (λ v. IsWord v.1) p.scope
  sorts = All-weaker (λ v. IsWord v.0 × IsWord v.1) (λ v. IsWord v.1) (λ v k. k.1) p.scope h.1

  names : All (λ v. IsWord v.0) p.scope
  names = All-weaker (λ v. IsWord v.0 × IsWord v.1) (λ v. IsWord v.0) (λ v k. k.0) p.scope h.1

  -- what an equation reads as
  read_words : (raw : RawEquation) (s : Statement) → ReadsEquation (own_operators p) p.scope raw s
      → IsStatementInWords s
  read_words raw s r = (
    statement_so IsWord (own_operators p) p.scope refl own sorts raw s r,
    statement_names IsWord p.scope s names (statement_in_scope (own_operators p) p.scope raw s r),
  )

  pub equation_words : (raw : RawEquation) (e : Sides) → read_sides p raw ≡ Ok e
      → IsTermInWords e.left × IsTermInWords e.right
  equation_words raw e k =
      let fs = own_operators p in
      let m = between (read_or (read_equation fs p.scope raw)) as_sides e k in
      let found = equation_ok fs p.scope raw m.made (read_done (read_equation fs p.scope raw) m.made m.first) in
      sides_words m.made e (read_words raw m.made found.1.0) m.second
    where
      sides_words : (s : Statement) (e : Sides) → IsStatementInWords s → as_sides s ≡ Ok e
          → IsTermInWords e.left × IsTermInWords e.right
      sides_words (Equation l r) e w i =
          subst (λ (x : Sides). IsTermInWords x.left × IsTermInWords x.right) (ok_inj i)
          ((w.0.0, w.1.0), (w.0.1, w.1.1))
      sides_words (Generated s gs) e w i = cc
      sides_words (Partitioned s gs) e w i = cc

  -- a term is read as either side of an equation with itself is
  pub term_words : (s : List ℕ) (raw : RawEquation) (t : Tree) → read_lone p s raw ≡ Ok t → IsTermInWords t
  term_words s raw t k =
      let fs = own_operators p in
      let found = term_ok fs p.scope (Some s) raw t (read_done (read_term fs p.scope (Some s) raw) t k) in
      let reads : Reads fs p.scope raw.left t = found.1.0.0 in
      let right : RawRight = record { term = raw.left; pos = raw.first } in
      let both : RawEquation = record { left = raw.left; right = Some right; first = raw.first } in
      let w = read_words both (Equation t t) (reads, (reads, refl)) in
      (w.0.0, w.1.0)
