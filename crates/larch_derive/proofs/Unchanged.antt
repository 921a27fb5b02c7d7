-- What a theory states is written in lines as it stands.
use Rattle.std.proofs.Common.{◌≡◌, inl, inr, ℕ, suc, Bool, true, false, List, [], ◌∷◌, map, All, Contains, Some, None}
use Rattle.std.proofs.Common.{refl, sym, ◌∙◌, ap, subst}
use Rattle.std.specs.Option.{option_map, option_or}
use Rattle.std.proofs.lemmas.Bool.{cond-false}
use Rattle.std.proofs.lemmas.List.Elements.{All-head, All-tail, All-contains}
use Rattle.larch_term.proofs.BaseMembers.{contains_here, contains_later, contains_left}
use Rattle.larch_term.specs.BuiltIn.{built_in, built_in_name}
use Rattle.larch_term.specs.Operator.{OperatorName, PlainOperator, plain, boxed}
use Rattle.larch_term.specs.OperatorKey.{same_operator, operator_Decides}
use Rattle.larch_term.specs.Sorts.{IsKnown}
use Rattle.larch_term.specs.Statement.{IsStatementOver}
use Rattle.larch_term.specs.declared.statement.Statement.{Statement}
use Rattle.larch_term.specs.declared.statement.Theory.{Theory}
use Rattle.larch_verify_meaning.specs.RenamingRenaming.{no_renaming}
use Rattle.larch_verify_meaning.proofs.RenamingRenamedStatements.{statement_unchanged, statement_alike_over}
use Rattle.larch_verify_meaning.specs.CalculusRenaming.{IsFaithful, HasPlainNames, IsPlainName}
use Rattle.larch_verify_meaning.proofs.CalculusSorted.{statement_over_more}
use Rattle.larch_verify_meaning.specs.Context.{theory_of}
use Rattle.larch_verify_meaning.specs.Events.{Event, Said, Opened, Closed, operators_of}
use Rattle.larch_derive.specs.declared.open_box.OpenBox.{OpenBox}
use Rattle.larch_derive.specs.OpenBox.{place_from, constant_of, in_lines, naming}
use Rattle.larch_derive.specs.Predicates.{AreOthers, written_statement}
use Rattle.larch_derive.proofs.Decoding.{stays_in_lines}

not_same : (g f : PlainOperator) → (g ≡ f → ⊥) → (b : Bool) → same_operator g f ≡ b → b ≡ false
not_same g f h true e = absurd (h ((operator_Decides g f).0 e))
not_same g f h false e = refl

pub place_absent : (k : ℕ) (fs : List PlainOperator) (f : PlainOperator) → (Contains fs f → ⊥)
    → place_from k fs f ≡ None
place_absent k [] f h = refl
place_absent k (g ∷ gs) f h =
    cond-false (same_operator g f) (Some k) (place_from (suc k) gs f)
    (not_same g f (λ e. h (subst (Contains (g ∷ gs)) e (contains_here g gs))) (same_operator g f) refl)
    ∙ place_absent (suc k) gs f (λ c. h (contains_later g f gs c))

-- what is the theory's or built in stands for no constant
pub no_constant : (t : Theory) (bs : List OpenBox) (f : PlainOperator) → All (λ x. AreOthers t x.constants) bs
    → IsKnown t.operators f → constant_of bs f ≡ None
no_constant t [] f h k = refl
no_constant t (b ∷ bs) f h k =
    let others = All-head (λ x. AreOthers t x.constants) b bs h in
    ap (λ o. option_or (option_map (λ j. (b.number, j)) o) (constant_of bs f))
    (place_absent 1 b.constants f (λ c. All-contains (λ c. IsKnown t.operators c → ⊥) b.constants f others c k))
    ∙ no_constant t bs f (All-tail (λ x. AreOthers t x.constants) b bs h) k

known_name : (t : Theory) (f : PlainOperator) → HasPlainNames t → IsKnown t.operators f
    → (n : List ℕ) × (f.name ≡ plain n)
known_name t f p (inl c) = by_name f.name refl (All-contains (λ g. IsPlainName g.name) t.operators f p c)
  where
    by_name : (m : OperatorName) → f.name ≡ m → IsPlainName f.name → (n : List ℕ) × (f.name ≡ plain n)
    by_name (plain n) e q = (n, e)
    by_name (boxed b k) e q = absurd (subst IsPlainName e q)
known_name t f p (inr (b, (s, e))) = (built_in_name b, ap (λ g. g.name) e)

pub own_in_lines : (t : Theory) (bs : List OpenBox) (f : PlainOperator) → HasPlainNames t
    → All (λ x. AreOthers t x.constants) bs → IsKnown t.operators f → in_lines bs f ≡ f
own_in_lines t bs f p h k =
    let n = known_name t f p k in stays_in_lines bs f n.0 (no_constant t bs f h k) n.1

pub own_written : (t : Theory) (bs : List OpenBox) (s : Statement) → HasPlainNames t
    → All (λ x. AreOthers t x.constants) bs → IsStatementOver t.operators s → written_statement bs s ≡ s
own_written t bs s p h w =
    statement_alike_over (naming bs) no_renaming t.operators
    (record { sorts = λ z. refl; operators = λ f k. own_in_lines t bs f p h k }) s w
    ∙ statement_unchanged s

pub known_in_boxes : (t : Theory) (h : List Event) (f : PlainOperator) → IsKnown t.operators f
    → IsKnown (theory_of t h).operators f
known_in_boxes t [] f k = k
known_in_boxes t (Said n s ∷ h) f k = known_in_boxes t h f k
known_in_boxes t (Opened x ∷ h) f k =
    elim (known_in_boxes t h f k) [
      | inl c ↦ inl (contains_left (theory_of t h).operators (operators_of x) f c)
      | inr b ↦ inr b
    ]
known_in_boxes t (Closed x s ∷ h) f k = known_in_boxes t h f k

pub over_in_boxes : (t : Theory) (h : List Event) (s : Statement) → IsStatementOver t.operators s
    → IsStatementOver (theory_of t h).operators s
over_in_boxes t h s w =
    statement_over_more t.operators (theory_of t h).operators (λ f k. known_in_boxes t h f k) s w

map_itself : {X : Type 0} (xs : List X) → map (λ x. x) xs ≡ xs
map_itself [] = refl
map_itself (x ∷ xs) = ap (λ ys. x ∷ ys) (map_itself xs)

-- what lines make of operators changes no signature and no built-in operator
pub naming_faithful : (t : Theory) (bs : List OpenBox) → HasPlainNames t → All (λ x. AreOthers t x.constants) bs
    → IsFaithful (naming bs)
naming_faithful t bs p h =
    record {
      signatures = record { domain = λ f. sym (map_itself f.domain); range = λ f. refl };
      built_in = record {
        truth_values = refl;
        operators = λ b s. own_in_lines t bs (built_in b s) p h (inr (b, (s, refl)));
      };
      apart = λ s z e. e;
    }

-- the theory's own operators are written as they stand
pub own_operators_written : (t : Theory) (bs : List OpenBox) → HasPlainNames t → All (λ x. AreOthers t x.constants) bs
    → (fs : List PlainOperator) → All (λ f. Contains t.operators f) fs → map (in_lines bs) fs ≡ fs
own_operators_written t bs p h [] c = refl
own_operators_written t bs p h (f ∷ fs) c =
    let here = own_in_lines t bs f p h (inl (All-head (λ f. Contains t.operators f) f fs c)) in
    let rest = own_operators_written t bs p h fs (All-tail (λ f. Contains t.operators f) f fs c) in
    λ i. here i ∷ rest i
