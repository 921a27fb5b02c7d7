-- A move that gives different numbers to different boxes goes from a theory with plain names to itself.
use Rattle.std.proofs.Common.{◌≡◌, ℕ, inl, inr, List, Option, Some, None, option_map, refl, sym, ◌∙◌, ap}
use Rattle.std.proofs.Common.{subst}
use Rattle.std.proofs.lemmas.List.Elements.{All-contains}
use Rattle.larch_term.specs.Operator.{OperatorName, PlainOperator, plain, boxed}
use Rattle.larch_term.specs.Sorts.{IsKnown}
use Rattle.larch_term.specs.Statement.{IsStatementOver, IsWellSortedTheory}
use Rattle.larch_term.specs.declared.statement.Statement.{Statement}
use Rattle.larch_term.specs.declared.statement.Theory.{Theory}
use Rattle.larch_renaming.proofs.RenamedStatements.{statement_unchanged, statement_alike_over}
use Rattle.larch_renaming.specs.Renaming.{no_renaming, by_name, renamed_statement, AreAlikeOver}
use Rattle.larch_calculus.proofs.RenamedTheories.{names_faithful, boxes_keep}
use Rattle.larch_calculus.proofs.WellSorted.{well_sorted}
use Rattle.larch_calculus.specs.Renaming.{IsPlainName, HasPlainNames}
use Rattle.larch_certificate.specs.declared.line.Line.{Line}
use Rattle.larch_certificate.specs.declared.line.Line.TheVariants.{Axiom, Hyp, Row, Refl, Sym, Inst, Repl, Equal}
use Rattle.larch_certificate.specs.declared.line.Line.TheVariants.{BoxLine, Done, Fresh, Cases, Induct, Observe}
use Rattle.larch_certificate.specs.declared.line.Line.TheVariants.{Generated, Partitioned}
use Rattle.larch_verify_meaning.specs.Rules.{row_says}
use Rattle.larch_verify_law.proofs.Rules.{axiom_derivable, row_derivable}
use Rattle.larch_verify_law.proofs.Told.{numbered_contains}
use Rattle.larch_verify_law.specs.Carrying.{IsMove, KeepsCited}
use Rattle.larch_verify_law.specs.Moves.{Move}
use Rattle.larch_trim_law.proofs.Names.{renumbering}

-- a constant of a box is of the box with the new number
abbrev pub new_name : (ℕ → ℕ) → OperatorName → OperatorName
new_name f (plain n) = plain n
new_name f (boxed b k) = boxed (f b) k

abbrev pub moving : (ℕ → ℕ) → Move
moving f = renumbering f (by_name (new_name f)).operator

same_name : (f : ℕ → ℕ) (n : OperatorName) → IsPlainName n → new_name f n ≡ n
same_name f (plain n) p = refl
same_name f (boxed b k) p = absurd p

known_plain : (t : Theory) → HasPlainNames t → (o : PlainOperator) → IsKnown t.operators o → IsPlainName o.name
known_plain t p o (inl c) = All-contains (λ g. IsPlainName g.name) t.operators o p c
known_plain t p o (inr (b, (s, e))) = subst (λ g. IsPlainName g.name) (sym e) tt

same_operator : (f : ℕ → ℕ) (o : PlainOperator) → IsPlainName o.name → (by_name (new_name f)).operator o ≡ o
same_operator f o p = λ i. record { name = same_name f o.name p i; domain = o.domain; range = o.range }

-- a statement over the theory stays
pub same_statement : (f : ℕ → ℕ) (t : Theory) → HasPlainNames t → (s : Statement) → IsStatementOver t.operators s
    → renamed_statement (moving f).renaming s ≡ s
same_statement f t p s w = statement_alike_over (by_name (new_name f)) no_renaming t.operators alike s w
    ∙ statement_unchanged s
  where
    alike : AreAlikeOver (by_name (new_name f)) no_renaming t.operators
    alike = record { sorts = λ z. refl; operators = λ o k. same_operator f o (known_plain t p o k) }

boxed_parts : (a j b k : ℕ) → boxed a j ≡ boxed b k → (a ≡ b) × (j ≡ k)
boxed_parts a j b k e = (cc, cc)

box_back : (f : ℕ → ℕ) → ((a b : ℕ) → f a ≡ f b → a ≡ b) → (n : OperatorName) (b k : ℕ)
    → new_name f n ≡ boxed (f b) k → n ≡ boxed b k
box_back f inj (plain n) b k e = cc
box_back f inj (boxed a j) b k e =
    let p = boxed_parts (f a) j (f b) k e in
    λ i. boxed (inj a b p.0 i) (p.1 i)

pub is_move : (f : ℕ → ℕ) → ((a b : ℕ) → f a ≡ f b → a ≡ b) → (t : Theory) → HasPlainNames t → IsMove (moving f) t t
is_move f inj t p =
    record {
      faithful = names_faithful (new_name f) (boxes_keep (new_name f) (λ n. refl));
      no_sort = refl;
      operators = λ k o e. e
          ∙ ap Some (sym (same_operator f o (known_plain t p o (inl (numbered_contains t.operators k o e)))));
      boxes = λ o b k. (λ e. ap (new_name f) e, λ e. box_back f inj o.name b k e);
      rows = λ k s x e. no_sorts k s ∙ e
          ∙ ap Some (sym (same_statement f t p x (well_sorted (row_derivable t k s x e))));
    }
  where
    no_sorts : (k : ℕ) (s : Option (List ℕ)) → row_says k (option_map (λ z. z) s) ≡ row_says k s
    no_sorts k None = refl
    no_sorts k (Some s) = refl

pub keeps_cited : (f : ℕ → ℕ) (t : Theory) → IsWellSortedTheory t → HasPlainNames t → (l : Line)
    → KeepsCited (moving f) t t l
keeps_cited f t w p (Axiom k) =
    λ s e. e ∙ ap Some (sym (same_statement f t p s (well_sorted (axiom_derivable t t w (λ r c. c) k s e))))
keeps_cited f t w p (Hyp b k) = tt
keeps_cited f t w p (Row k s) = tt
keeps_cited f t w p (Refl c) = tt
keeps_cited f t w p (Sym n) = tt
keeps_cited f t w p (Inst n bs) = tt
keeps_cited f t w p (Repl n q k) = tt
keeps_cited f t w p (Equal n) = tt
keeps_cited f t w p (BoxLine ps es) = tt
keeps_cited f t w p Done = tt
keeps_cited f t w p (Fresh b vs) = tt
keeps_cited f t w p (Cases b c) = tt
keeps_cited f t w p (Induct n x e bs) = tt
keeps_cited f t w p (Observe n e ns) = tt
keeps_cited f t w p (Generated b s ks) = tt
keeps_cited f t w p (Partitioned b s ks) = tt
