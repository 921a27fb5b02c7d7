-- Derivability by renamings of whole theories, and by other names for constants of boxes.
use Rattle.std.proofs.Common.{◌≡◌, inl, inr, List, ◌++◌, map, All, refl, sym, ◌∙◌, ap, subst}
use Rattle.std.proofs.lemmas.List.{map-append}
use Rattle.std.proofs.lemmas.List.Elements.{All-contains}
use Rattle.larch_term.proofs.BaseMembers.{contains_later, contains_map}
use Rattle.larch_term.specs.BuiltIn.{bool_sort, built_in, built_in_name}
use Rattle.larch_term.specs.Operator.{OperatorName, PlainOperator, plain, boxed}
use Rattle.larch_term.specs.Sorts.{IsKnown}
use Rattle.larch_term.specs.Statement.{IsStatementOver, IsWellSortedTheory, statement_zero}
use Rattle.larch_term.specs.declared.statement.Statement.{Statement}
use Rattle.larch_term.specs.declared.statement.Theory.{Theory}
use Rattle.larch_renaming.specs.Renaming.{Renaming, no_renaming, by_name, renamed_statement, renamed_theory}
use Rattle.larch_renaming.specs.Renaming.{AreAlikeOver}
use Rattle.larch_calculus.specs.Theories.{extend}
use Rattle.larch_calculus.specs.Derivable.{Derivable, axiom_}
use Rattle.larch_calculus.specs.Renaming.{IsFaithful, TakesBack, KeepsBuiltIn, RenamesBoxes, IsPlainName, HasPlainNames}
use Rattle.larch_calculus.specs.Renaming.{IsTranslation}
use Rattle.larch_renaming.proofs.RenamedStatements.{renamed_theory_well_sorted, theory_carries, theory_alike_over}
use Rattle.larch_renaming.proofs.RenamedStatements.{theory_unchanged, by_name_fits, by_name_keeps}
use Rattle.larch_calculus.proofs.Renamed.{statement_back, theory_back}
use Rattle.larch_calculus.proofs.Sorted.{extended_well_sorted}
use Rattle.larch_calculus.proofs.Translation.{translated}

-- a well sorted theory is translated to what it becomes
pub theory_translation : (r : Renaming) (t : Theory) → IsFaithful r → IsWellSortedTheory t
    → IsTranslation r t (renamed_theory r t)
theory_translation r t h w =
    let v = renamed_theory_well_sorted r h.signatures h.built_in t w in
    record {
      source = w;
      target = v;
      faithful = h;
      operators = theory_carries r h.built_in t.operators;
      statements = λ s c.
          let ss = map (renamed_statement r) t.statements in
          let d = contains_map (renamed_statement r) t.statements s c in
          axiom_ (contains_later statement_zero (renamed_statement r s) ss d)
          (All-contains (IsStatementOver (map r.operator t.operators)) ss (renamed_statement r s) v d);
    }

pub theory_renamed : (r : Renaming) (t : Theory) (s : Statement) → IsFaithful r → IsWellSortedTheory t → Derivable t s
    → Derivable (renamed_theory r t) (renamed_statement r s)
theory_renamed r t s h w d = translated d r (renamed_theory r t) (theory_translation r t h w)

pub renamed_taken_back : (r q : Renaming) (t : Theory) (s : Statement) → IsFaithful r → IsFaithful q → TakesBack q r
    → IsWellSortedTheory t
    → Derivable (renamed_theory r t) (renamed_statement r s) → Derivable t s
renamed_taken_back r q t s h k b w d =
    let e = theory_renamed q (renamed_theory r t) (renamed_statement r s) k
    (renamed_theory_well_sorted r h.signatures h.built_in t w) d in
    subst (λ z. Derivable z s) (theory_back q r b t)
    (subst (Derivable (renamed_theory q (renamed_theory r t))) (statement_back q r b s) e)

-- other names are faithful where they keep those of the built-in operators
pub names_faithful : (new : OperatorName → OperatorName) → KeepsBuiltIn new → IsFaithful (by_name new)
names_faithful new k =
    record {
      signatures = by_name_fits new;
      built_in = by_name_keeps new (λ b. k (built_in b bool_sort) (b, (bool_sort, refl)));
      apart = λ s q e. e;
    }

pub names_taken_back : (new old : OperatorName → OperatorName) → ((n : OperatorName) → old (new n) ≡ n)
    → TakesBack (by_name old) (by_name new)
names_taken_back new old h =
    record { sorts = λ s. refl; operators = λ f i. record { name = h f.name i; domain = f.domain; range = f.range } }

pub boxes_keep : (new : OperatorName → OperatorName) → RenamesBoxes new → KeepsBuiltIn new
boxes_keep new r f (b, (s, e)) = ap (λ g. new g.name) e ∙ r (built_in_name b) ∙ ap (λ g. g.name) (sym e)

plain_kept : (new : OperatorName → OperatorName) → RenamesBoxes new → (n : OperatorName) → IsPlainName n → new n ≡ n
plain_kept new r (plain n) p = r n
plain_kept new r (boxed b k) p = absurd p

plain_alike : (new : OperatorName → OperatorName) (t : Theory) → RenamesBoxes new → HasPlainNames t
    → AreAlikeOver (by_name new) no_renaming t.operators
plain_alike new t r p =
    record { sorts = λ s. refl; operators = λ f k i. record { name = kept f k i; domain = f.domain; range = f.range } }
  where
    kept : (f : PlainOperator) → IsKnown t.operators f → new f.name ≡ f.name
    kept f (inl c) = plain_kept new r f.name (All-contains (λ g. IsPlainName g.name) t.operators f p c)
    kept f (inr b) = boxes_keep new r f b

-- an extension of a theory with plain names, by other names for constants of boxes
extension_renamed : (new : OperatorName → OperatorName) (t : Theory) (cs : List PlainOperator) (hs : List Statement)
    → RenamesBoxes new → HasPlainNames t
    → IsWellSortedTheory t
    → renamed_theory (by_name new) (extend t cs hs)
    ≡ extend t (map (by_name new).operator cs) (map (renamed_statement (by_name new)) hs)
extension_renamed new t cs hs r p w =
    let q = by_name new in
    let same : renamed_theory q t ≡ t =
    theory_alike_over q no_renaming t (plain_alike new t r p) w ∙ theory_unchanged t in
    let fs : map q.operator (t.operators ++ cs) ≡ t.operators ++ map q.operator cs =
    map-append q.operator t.operators cs ∙ ap (λ u. u.operators ++ map q.operator cs) same in
    let ss : map (renamed_statement q) (t.statements ++ hs) ≡ t.statements ++ map (renamed_statement q) hs =
    map-append (renamed_statement q) t.statements hs ∙ ap (λ u. u.statements ++ map (renamed_statement q) hs) same in
    λ i. record { operators = fs i; statements = ss i }

-- constants of boxes by other names, above a theory with plain names
pub boxes_renamed : (new : OperatorName → OperatorName) (t : Theory) (cs : List PlainOperator) (hs : List Statement)
    (s : Statement) → RenamesBoxes new
    → HasPlainNames t → IsWellSortedTheory t → All (IsStatementOver (extend t cs hs).operators) hs
    → Derivable (extend t cs hs) s
    → Derivable (extend t (map (by_name new).operator cs) (map (renamed_statement (by_name new)) hs))
    (renamed_statement (by_name new) s)
boxes_renamed new t cs hs s r p w v d =
    subst (λ z. Derivable z (renamed_statement (by_name new) s)) (extension_renamed new t cs hs r p w)
    (theory_renamed (by_name new) (extend t cs hs) s (names_faithful new (boxes_keep new r))
    (extended_well_sorted t cs hs w v) d)

pub boxes_taken_back : (new old : OperatorName → OperatorName) (t : Theory) (cs : List PlainOperator)
    (hs : List Statement) (s : Statement) → RenamesBoxes new
    → RenamesBoxes old → ((n : OperatorName) → old (new n) ≡ n) → HasPlainNames t → IsWellSortedTheory t
    → All (IsStatementOver (extend t cs hs).operators) hs
    → Derivable (extend t (map (by_name new).operator cs) (map (renamed_statement (by_name new)) hs))
    (renamed_statement (by_name new) s)
    → Derivable (extend t cs hs) s
boxes_taken_back new old t cs hs s r q h p w v d =
    renamed_taken_back (by_name new) (by_name old) (extend t cs hs) s (names_faithful new (boxes_keep new r))
    (names_faithful old (boxes_keep old q)) (names_taken_back new old h) (extended_well_sorted t cs hs w v)
    (subst (λ z. Derivable z (renamed_statement (by_name new) s)) (sym (extension_renamed new t cs hs r p w)) d)
