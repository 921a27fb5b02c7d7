-- Statements over operators stay so over more of them, and by other names.
use Rattle.std.proofs.Common.{◌≡◌, ℕ, List, [], ◌∷◌, ◌++◌, map, All, Contains, ap, sym, subst, ◌∙◌, inl, inr}
use Rattle.std.proofs.lemmas.List.Elements.{All-map, All-weaker}
use Rattle.std.proofs.lemmas.List.{map-append}
use Rattle.larch_base.proofs.Members.{contains_map}
use Rattle.larch_term.specs.Operator.{PlainOperator}
use Rattle.larch_term.specs.Sorts.{IsKnown, IsOver, AllOver}
use Rattle.larch_term.specs.Statement.{IsStatementOver}
use Rattle.larch_term.specs.Tree.{Tree, Forest, var, app, none, more}
use Rattle.larch_term.specs.declared.statement.Statement.{Statement}
use Rattle.larch_term.specs.declared.statement.Statement.TheVariants.{Equation, Generated, Partitioned}
use Rattle.larch_renaming.specs.Renaming.{Carries, FitsSignatures, KeepsBuiltIns, Renaming, rename_tree, renamed_all}
use Rattle.larch_renaming.specs.Renaming.{renamed_statement}
use Rattle.larch_renaming.proofs.RenamedStatements.{built_in_renamed, renamed_statement_over}
use Rattle.larch_shorthand.specs.SortsMeaningLaws.{ForestSorts, IsSortOf, OperatorSorts, StatementSorts, TermSorts}
use Rattle.larch_shorthand.specs.SortsMeaningLaws.{sorts_of_operator}
use Rattle.larch_shorthand.specs.TraitsItemsLaws.{NamesOwn}
use Rattle.larch_flat_meaning.specs.Laws.{IsStatedOver}

-- the first operators are among the second ones
abbrev pub Within : List PlainOperator → List PlainOperator → Type 0
Within fs gs = (f : PlainOperator) → Contains fs f → Contains gs f

module _ (fs gs : List PlainOperator) (w : Within fs gs) where
  known_more : (f : PlainOperator) → IsKnown fs f → IsKnown gs f
  known_more f (inl c) = inl (w f c)
  known_more f (inr b) = inr b

  mutual
    over_more : (t : Tree) → IsOver fs t → IsOver gs t
    over_more (var n s) h = tt
    over_more (app f ts) h = (known_more f h.0, all_over_more ts h.1)

    all_over_more : (ts : Forest) → AllOver fs ts → AllOver gs ts
    all_over_more none h = tt
    all_over_more (more t ts) h = (over_more t h.0, all_over_more ts h.1)

  statement_more : (s : Statement) → IsStatementOver fs s → IsStatementOver gs s
  statement_more (Equation l r) h = ((h.0.0, over_more l h.0.1), (h.1.0, over_more r h.1.1), h.2)
  statement_more (Generated s hs) h =
      All-weaker (λ g. IsKnown fs g × (g.range ≡ s)) (λ g. IsKnown gs g × (g.range ≡ s))
      (λ g p. (known_more g p.0, p.1)) hs h
  statement_more (Partitioned s hs) h =
      All-weaker (λ g. IsKnown fs g × Contains g.domain s) (λ g. IsKnown gs g × Contains g.domain s)
      (λ g p. (known_more g p.0, p.1)) hs h

  own_more : (s : Statement) → NamesOwn fs s → NamesOwn gs s
  own_more (Equation l r) h = tt
  own_more (Generated s hs) h = All-weaker (Contains fs) (Contains gs) w hs h
  own_more (Partitioned s hs) h = All-weaker (Contains fs) (Contains gs) w hs h

  sort_more : (s : List ℕ) → IsSortOf fs s → IsSortOf gs s
  sort_more s (inl e) = inl e
  sort_more s (inr (f, c, d)) = inr (f, w f c, d)

  operator_sorts_more : (f : PlainOperator) → OperatorSorts (IsSortOf fs) f → OperatorSorts (IsSortOf gs) f
  operator_sorts_more f h = All-weaker (IsSortOf fs) (IsSortOf gs) sort_more (sorts_of_operator f) h

  mutual
    term_sorts_more : (t : Tree) → TermSorts (IsSortOf fs) t → TermSorts (IsSortOf gs) t
    term_sorts_more (var n s) h = sort_more s h
    term_sorts_more (app f ts) h = (operator_sorts_more f h.0, forest_sorts_more ts h.1)

    forest_sorts_more : (ts : Forest) → ForestSorts (IsSortOf fs) ts → ForestSorts (IsSortOf gs) ts
    forest_sorts_more none h = tt
    forest_sorts_more (more t ts) h = (term_sorts_more t h.0, forest_sorts_more ts h.1)

  sorts_more : (s : Statement) → StatementSorts (IsSortOf fs) s → StatementSorts (IsSortOf gs) s
  sorts_more (Equation l r) h = (term_sorts_more l h.0, term_sorts_more r h.1)
  sorts_more (Generated s hs) h = (
    sort_more s h.0,
    All-weaker (OperatorSorts (IsSortOf fs))
        (OperatorSorts (IsSortOf gs)) operator_sorts_more hs h.1,
  )
  sorts_more (Partitioned s hs) h = (
    sort_more s h.0,
    All-weaker (OperatorSorts (IsSortOf fs))
        (OperatorSorts (IsSortOf gs)) operator_sorts_more hs h.1,
  )

  -- a statement over operators is one over more
  pub stated_more : (s : Statement) → IsStatedOver fs s → IsStatedOver gs s
  stated_more s h = (statement_more s h.0, own_more s h.1, sorts_more s h.2)

module _ (r : Renaming) (fits : FitsSignatures r) (keeps : KeepsBuiltIns r) (fs gs : List PlainOperator)
    (own : (f : PlainOperator) → Contains fs f → Contains gs (r.operator f)) where
  carried : Carries r fs gs
  carried f (inl c) = inl (own f c)
  carried f (inr b) = inr (built_in_renamed r keeps f b)

  own_renamed : (s : Statement) → NamesOwn fs s → NamesOwn gs (renamed_statement r s)
  own_renamed (Equation l q) h = tt
  own_renamed (Generated s hs) h =
      All-map (Contains gs) r.operator hs (All-weaker (Contains fs) (λ f. Contains gs (r.operator f)) own hs h)
  own_renamed (Partitioned s hs) h =
      All-map (Contains gs) r.operator hs (All-weaker (Contains fs) (λ f. Contains gs (r.operator f)) own hs h)

  sorts_are : (f : PlainOperator) → sorts_of_operator (r.operator f) ≡ map r.sort (sorts_of_operator f)
  sorts_are f =
      ap (λ d. d ++ (r.operator f).range ∷ []) (fits.domain f) ∙ ap (λ q. map r.sort f.domain ++ q ∷ []) (fits.range f)
      ∙ sym (map-append r.sort f.domain (f.range ∷ []))

  sort_renamed : (s : List ℕ) → IsSortOf fs s → IsSortOf gs (r.sort s)
  sort_renamed s (inl e) = inl (ap r.sort e ∙ keeps.truth_values)
  sort_renamed s (inr (f, c, d)) =
      inr (
        r.operator f,
        own f c,
        subst (λ ss. Contains ss (r.sort s)) (sym (sorts_are f))
            (contains_map r.sort (sorts_of_operator f) s d),
      )

  operator_sorts_renamed : (f : PlainOperator) → OperatorSorts (IsSortOf fs) f
      → OperatorSorts (IsSortOf gs) (r.operator f)
  operator_sorts_renamed f h =
      subst (All (IsSortOf gs)) (sym (sorts_are f))
      (All-map (IsSortOf gs) r.sort (sorts_of_operator f)
      (All-weaker (IsSortOf fs) (λ s. IsSortOf gs (r.sort s)) sort_renamed (sorts_of_operator f) h))

  mutual
    term_sorts_renamed : (t : Tree) → TermSorts (IsSortOf fs) t → TermSorts (IsSortOf gs) (rename_tree r t)
    term_sorts_renamed (var n s) h = sort_renamed s h
    term_sorts_renamed (app f ts) h = (operator_sorts_renamed f h.0, forest_sorts_renamed ts h.1)

    forest_sorts_renamed : (ts : Forest) → ForestSorts (IsSortOf fs) ts → ForestSorts (IsSortOf gs) (renamed_all r ts)
    forest_sorts_renamed none h = tt
    forest_sorts_renamed (more t ts) h = (term_sorts_renamed t h.0, forest_sorts_renamed ts h.1)

  all_sorts_renamed : (hs : List PlainOperator) → All (OperatorSorts (IsSortOf fs)) hs
      → All (OperatorSorts (IsSortOf gs)) (map r.operator hs)
  all_sorts_renamed hs h =
      All-map (OperatorSorts (IsSortOf gs)) r.operator hs
      (All-weaker (OperatorSorts (IsSortOf fs))
      (λ f. OperatorSorts (IsSortOf gs) (r.operator f)) operator_sorts_renamed hs h)

  sorts_renamed : (s : Statement) → StatementSorts (IsSortOf fs) s
      → StatementSorts (IsSortOf gs) (renamed_statement r s)
  sorts_renamed (Equation l q) h = (term_sorts_renamed l h.0, term_sorts_renamed q h.1)
  sorts_renamed (Generated s hs) h = (sort_renamed s h.0, all_sorts_renamed hs h.1)
  sorts_renamed (Partitioned s hs) h = (sort_renamed s h.0, all_sorts_renamed hs h.1)

  -- a statement over operators is, renamed, one over those in whose number they are by their new names
  pub stated_renamed : (s : Statement) → IsStatedOver fs s → IsStatedOver gs (renamed_statement r s)
  stated_renamed s h = (renamed_statement_over r fs gs fits carried s h.0, own_renamed s h.1, sorts_renamed s h.2)
