-- What was known before a box was opened is written inside as outside.
use Rattle.std.proofs.Common.{◌≡◌, inl, inr, ℕ, List, [], ◌∷◌, ◌++◌, map, All, Contains, Option, Some, None, refl, sym}
use Rattle.std.proofs.Common.{◌∙◌, ap, subst}
use Rattle.std.specs.Option.{option_map, option_or}
use Rattle.std.proofs.lemmas.List.Elements.{All-head, All-tail, All-contains}
use Rattle.larch_base.proofs.Members.{contains_left}
use Rattle.larch_term.specs.Operator.{PlainOperator, plain}
use Rattle.larch_term.specs.Sorts.{IsKnown, IsOver, AllOver}
use Rattle.larch_term.specs.Statement.{IsStatementOver}
use Rattle.larch_term.specs.Tree.{Tree, Forest, var, app, none, more}
use Rattle.larch_term.specs.declared.statement.Statement.{Statement}
use Rattle.larch_term.specs.declared.statement.Statement.TheVariants.{Equation, Generated, Partitioned}
use Rattle.larch_term.specs.declared.statement.Theory.{Theory}
use Rattle.larch_verify_law.specs.RenamingRenaming.{renamed_all}
use Rattle.larch_verify_law.specs.CalculusRenaming.{HasPlainNames}
use Rattle.larch_verify_law.proofs.CalculusSorted.{statement_over_more}
use Rattle.larch_verify_law.specs.VerifyMeaningContext.{theory_of}
use Rattle.larch_verify_law.specs.VerifyMeaningEvents.{Event, operators_of}
use Rattle.larch_derive.specs.declared.open_box.OpenBox.{OpenBox}
use Rattle.larch_derive.specs.OpenBox.{place_from, constant_of, in_lines, name_in_lines, naming}
use Rattle.larch_derive.specs.Predicates.{AreOthers, written_term, written_statement}
use Rattle.larch_derive.proofs.Decoding.{known_plain, plain_own, stays_in_lines}
use Rattle.larch_derive.proofs.Runs.{GoDown}
use Rattle.larch_derive.proofs.Unchanged.{place_absent}
use Rattle.larch_derive_boxes.specs.Boxes.{box_of, operators_inside}

-- what is true of the outer boxes stays true
found_first : (bs : List OpenBox) (x : OpenBox) (f : PlainOperator) (p : ℕ × ℕ) → constant_of bs f ≡ Some p
    → constant_of (bs ++ x ∷ []) f ≡ Some p
found_first [] x f p e = cc
found_first (b ∷ bs) x f p e =
    by_place (constant_of bs f) (constant_of (bs ++ x ∷ []) f) p (found_first bs x f p)
    (option_map (λ k. (b.number, k)) (place_from 1 b.constants f)) e
  where
    by_place : (m n : Option (ℕ × ℕ)) (p : ℕ × ℕ) → (m ≡ Some p → n ≡ Some p) → (o : Option (ℕ × ℕ))
        → option_or o m ≡ Some p → option_or o n ≡ Some p
    by_place m n p k None q = k q
    by_place m n p k (Some r) q = q

found_nowhere : (bs : List OpenBox) (x : OpenBox) (f : PlainOperator) → constant_of bs f ≡ None
    → place_from 1 x.constants f ≡ None → constant_of (bs ++ x ∷ []) f ≡ None
found_nowhere [] x f e n = ap (λ o. option_or (option_map (λ k. (x.number, k)) o) None) n
found_nowhere (b ∷ bs) x f e n =
    by_place (constant_of bs f) (constant_of (bs ++ x ∷ []) f) (λ q. found_nowhere bs x f q n)
    (option_map (λ k. (b.number, k)) (place_from 1 b.constants f)) e
  where
    by_place : (m n : Option (ℕ × ℕ)) → (m ≡ None → n ≡ None) → (o : Option (ℕ × ℕ)) → option_or o m ≡ None
        → option_or o n ≡ None
    by_place m n k None q = k q
    by_place m n k (Some r) q = cc

pub same_name : (bs cs : List OpenBox) (f : PlainOperator) → constant_of bs f ≡ constant_of cs f
    → in_lines bs f ≡ in_lines cs f
same_name bs cs f e = λ i. record { name = name_in_lines (e i) f.name; domain = f.domain; range = f.range }

pub inside_in_lines : (t : Theory) → HasPlainNames t → (h : List Event) (c : ℕ) (bs : List OpenBox) (x : OpenBox)
    → GoDown c h
    → AreOthers t x.constants → (f : PlainOperator) → IsKnown (theory_of t h).operators (in_lines bs f)
    → in_lines bs f ≡ in_lines (bs ++ x ∷ []) f
inside_in_lines t p h c bs x g o f w = by_constant (constant_of bs f) refl
  where
    not_new : (n : List ℕ) → f.name ≡ plain n → in_lines bs f ≡ f → Contains x.constants f → ⊥
    not_new n q same d =
        let other = All-contains (λ k. IsKnown t.operators k → ⊥) x.constants f o d in
        elim (subst (IsKnown (theory_of t h).operators) same w) [
          | inl y ↦ other (inl (plain_own t h n f y q))
          | inr i ↦ other (inr i)
        ]

    by_constant : (m : Option (ℕ × ℕ)) → constant_of bs f ≡ m → in_lines bs f ≡ in_lines (bs ++ x ∷ []) f
    by_constant (Some r) e = same_name bs (bs ++ x ∷ []) f (e ∙ sym (found_first bs x f r e))
    by_constant None e =
        let n = known_plain t p h c bs f g e w in
        let same = stays_in_lines bs f n.0 e n.1 in
        same_name bs (bs ++ x ∷ []) f
        (e ∙ sym (found_nowhere bs x f e (place_absent 1 x.constants f (not_new n.0 n.1 same))))

mutual
  pub inside_written : (t : Theory) → HasPlainNames t → (h : List Event) (c : ℕ) (bs : List OpenBox) (x : OpenBox)
      → GoDown c h
      → AreOthers t x.constants → (a : Tree) → IsOver (theory_of t h).operators (written_term bs a)
      → written_term bs a ≡ written_term (bs ++ x ∷ []) a
  inside_written t p h c bs x g o (var n s) w = refl
  inside_written t p h c bs x g o (app f ts) w =
      λ i. app (inside_in_lines t p h c bs x g o f w.0 i) (all_inside_written t p h c bs x g o ts w.1 i)

  all_inside_written : (t : Theory) → HasPlainNames t → (h : List Event) (c : ℕ) (bs : List OpenBox) (x : OpenBox)
      → GoDown c h
      → AreOthers t x.constants → (ts : Forest) → AllOver (theory_of t h).operators (renamed_all (naming bs) ts)
      → renamed_all (naming bs) ts ≡ renamed_all (naming (bs ++ x ∷ [])) ts
  all_inside_written t p h c bs x g o none w = refl
  all_inside_written t p h c bs x g o (more a ts) w =
      λ i. more (inside_written t p h c bs x g o a w.0 i) (all_inside_written t p h c bs x g o ts w.1 i)

inside_operators : (t : Theory) → HasPlainNames t → (h : List Event) (c : ℕ) (bs : List OpenBox) (x : OpenBox)
    → GoDown c h
    → AreOthers t x.constants → (P : PlainOperator → Type 0)
    → ((f : PlainOperator) → P f → IsKnown (theory_of t h).operators f)
    → (fs : List PlainOperator) → All P (map (in_lines bs) fs) → map (in_lines bs) fs ≡ map (in_lines (bs ++ x ∷ [])) fs
inside_operators t p h c bs x g o P k [] w = refl
inside_operators t p h c bs x g o P k (f ∷ fs) w =
    let here = k (in_lines bs f) (All-head P (in_lines bs f) (map (in_lines bs) fs) w) in
    λ i. inside_in_lines t p h c bs x g o f here i
    ∷ inside_operators t p h c bs x g o P k fs (All-tail P (in_lines bs f) (map (in_lines bs) fs) w) i

pub inside_statement : (t : Theory) → HasPlainNames t → (h : List Event) (c : ℕ) (bs : List OpenBox) (x : OpenBox)
    → GoDown c h
    → AreOthers t x.constants → (s : Statement) → IsStatementOver (theory_of t h).operators (written_statement bs s)
    → written_statement bs s ≡ written_statement (bs ++ x ∷ []) s
inside_statement t p h c bs x g o (Equation l r) w =
    λ i. Equation (inside_written t p h c bs x g o l w.0.1 i) (inside_written t p h c bs x g o r w.1.1 i)
inside_statement t p h c bs x g o (Generated s fs) w =
    ap (Generated s) (inside_operators t p h c bs x g o (λ f. IsKnown (theory_of t h).operators f × (f.range ≡ s))
    (λ f q. q.0) fs w)
inside_statement t p h c bs x g o (Partitioned s fs) w =
    ap (Partitioned s) (inside_operators t p h c bs x g o
    (λ f. IsKnown (theory_of t h).operators f × Contains f.domain s) (λ f q. q.0) fs w)

-- and is well sorted inside
pub inside_over : (t : Theory) → HasPlainNames t → (h : List Event) (c : ℕ) (bs : List OpenBox) (x : OpenBox)
    → GoDown c h
    → AreOthers t x.constants → (s : Statement) → IsStatementOver (theory_of t h).operators (written_statement bs s)
    → IsStatementOver (operators_inside t h x) (written_statement (bs ++ x ∷ []) s)
inside_over t p h c bs x g o s w =
    subst (IsStatementOver (operators_inside t h x)) (inside_statement t p h c bs x g o s w)
    (statement_over_more (theory_of t h).operators (operators_inside t h x) (λ f k. known_inside f k)
    (written_statement bs s) w)
  where
    known_inside : (f : PlainOperator) → IsKnown (theory_of t h).operators f → IsKnown (operators_inside t h x) f
    known_inside f (inl d) = inl (contains_left (theory_of t h).operators (operators_of (box_of x [])) f d)
    known_inside f (inr b) = inr b
