-- Copies differ from all that is there, and a clause's theory is a theory.
use Rattle.std.proofs.Common.{◌≡◌, ◌≢◌, refl, ℕ, suc, Bool, true, false, cond, ◌||◌, List, [], ◌∷◌, ◌++◌, map, All}
use Rattle.std.proofs.Common.{Contains, Option, Some, ap, sym, subst, ◌∙◌}
use Rattle.std.specs.Prelude.{AllPairs, bytes_eq, filter, option_map, unwrap_or}
use Rattle.std.specs.List.{list_any}
use Rattle.std.specs.Map.{lookup}
use Rattle.std.proofs.lemmas.List.{append_assoc, append-nil, map-id}
use Rattle.std.proofs.lemmas.List.Elements.{All-nil, All-cons, All-append, All-contains, All-head, All-map, All-push}
use Rattle.std.proofs.lemmas.List.Elements.{All-tail, All-weaker}
use Rattle.std.proofs.lemmas.List.Quantifiers.{all_pairs_push}
use Rattle.std.proofs.lemmas.Slice.Eq.{bytes_eq-Decides}
use Rattle.larch_base.proofs.Members.{contains_here, contains_later, contains_left, contains_map, contains_right}
use Rattle.larch_calculus.specs.RenamingRenaming.{KeepsBuiltIns, rename_tree, renamed_statement}
use Rattle.larch_term.specs.BuiltIn.{IsBuiltIn, bool_sort}
use Rattle.larch_term.specs.Equality.{same_operator}
use Rattle.larch_term.specs.Operator.{OperatorName, PlainOperator, plain}
use Rattle.larch_term.specs.Sorts.{sort_of}
use Rattle.larch_term.specs.Statement.{IsStatementOver}
use Rattle.larch_term.specs.Tree.{Tree, var, app}
use Rattle.larch_term.specs.declared.statement.Statement.{Statement}
use Rattle.larch_term.specs.declared.statement.Statement.TheVariants.{Equation}
use Rattle.larch_term.specs.declared.statement.Theory.{Theory}
use Rattle.larch_term.proofs.Decided.{operator_Decides}
use Rattle.larch_flat_meaning.specs.Laws.{IsStatedOver}
use Rattle.larch_flat_meaning.specs.Replacements.{Replacements, new_name, new_operator, renaming}
use Rattle.larch_flat_meaning.proofs.Proper.{proper_keeps, renaming_fits}
use Rattle.larch_flat_meaning.proofs.Stated.{stated_more, stated_renamed}
use Rattle.larch_flat_meaning.proofs.Theory.{all_left}
use Rattle.larch_duties_meaning.specs.Conversions.{Conversion, Copied, by_copies, bytes_of, clause_over, clause_theory}
use Rattle.larch_duties_meaning.specs.Conversions.{copies, copy_of, free_word, names_one_of, word_tried}
use Rattle.larch_duties_meaning.specs.Laws.{IsSoundTheory}
use Rattle.larch_duties_meaning.proofs.Conversions.{IsConversionOf, IsTermOf}
use Rattle.larch_duties_meaning.proofs.Fresh.{free_ends_primed, free_is_free, not_built_in, tried_ends_primed}

-- the operator is one of these
abbrev pub IsCopyFrom : List PlainOperator → Copied → Type 0
IsCopyFrom fs c = Contains fs c.operator

-- a word for the copy of an operator at a place
abbrev word_for : ℕ → List (List ℕ) → PlainOperator → List ℕ
word_for place taken f = free_word taken (word_tried place (bytes_of f.name))

-- an operator with a word for its copy
abbrev copied_at : ℕ → List (List ℕ) → PlainOperator → Copied
copied_at place taken f = record { operator = f; word = word_for place taken f }

pub copies_from : (own : List PlainOperator) (place : ℕ) (taken : List (List ℕ)) (fs : List PlainOperator)
    → All (Contains own) fs → All (IsCopyFrom own) (copies place taken fs)
copies_from own place taken [] a = All-nil (IsCopyFrom own)
copies_from own place taken (f ∷ fs) a =
    let w : List ℕ = word_for place taken f in
    All-cons (IsCopyFrom own) (copied_at place taken f) (copies (suc place) (w ∷ taken) fs)
    (All-head (Contains own) f fs a)
    (copies_from own (suc place) (w ∷ taken) fs (All-tail (Contains own) f fs a))

-- operators that differ and aren't built in
abbrev AreProper : List PlainOperator → Type 0
AreProper fs = AllPairs (λ f h. f ≢ h) fs × All (λ f. IsBuiltIn f → ⊥) fs

-- the names of operators are taken
abbrev AreTaken : List (List ℕ) → List PlainOperator → Type 0
AreTaken taken fs = All (λ f. list_any (bytes_eq (bytes_of f.name)) taken ≡ true) fs

true_is_false : true ≡ false → ⊥
true_is_false e = cc

copy_differs : (place : ℕ) (taken : List (List ℕ)) (f h : PlainOperator)
    → list_any (bytes_eq (bytes_of h.name)) taken ≡ true → h ≢ copy_of (copied_at place taken f)
copy_differs place taken f h t e =
    let n : bytes_of h.name ≡ word_for place taken f = ap (λ k. bytes_of k.name) e in
    true_is_false (sym t ∙ ap (λ w. list_any (bytes_eq w) taken) n
    ∙ free_is_free taken (word_tried place (bytes_of f.name)) (tried_ends_primed place (bytes_of f.name)))

copy_own : (place : ℕ) (taken : List (List ℕ)) (f : PlainOperator) → IsBuiltIn (copy_of (copied_at place taken f)) → ⊥
copy_own place taken f b =
    not_built_in b.0 (word_for place taken f)
    (free_ends_primed taken (word_tried place (bytes_of f.name)) (tried_ends_primed place (bytes_of f.name)))
    (ap (λ k. bytes_of k.name) b.1.1)

with_copy : (place : ℕ) (taken : List (List ℕ)) (f : PlainOperator) (os : List PlainOperator) → AreTaken taken os
    → AreProper os → AreProper (os ++ copy_of (copied_at place taken f) ∷ [])
with_copy place taken f os t p =
    let Taken : PlainOperator → Type 0 = (λ h. list_any (bytes_eq (bytes_of h.name)) taken ≡ true) in
    let g : PlainOperator = copy_of (copied_at place taken f) in
    let d : All (λ h. h ≢ g) os = All-weaker Taken (λ h. h ≢ g) (λ h q. copy_differs place taken f h q) os t in (
      all_pairs_push (λ k m. k ≢ m) os g p.0 (λ k c lt. d k c lt),
      All-push (λ k. IsBuiltIn k → ⊥) os g p.1 (copy_own place taken f),
    )

or_right : (a : Bool) → (a || true) ≡ true
or_right true = refl
or_right false = refl

or_left : (b : Bool) → (true || b) ≡ true
or_left b = refl

same_bytes : (w : List ℕ) → bytes_eq w w ≡ true
same_bytes w = (bytes_eq-Decides w w).1 refl

still_taken : (w : List ℕ) (taken : List (List ℕ)) (h : PlainOperator)
    → list_any (bytes_eq (bytes_of h.name)) taken ≡ true
    → list_any (bytes_eq (bytes_of h.name)) (w ∷ taken) ≡ true
still_taken w taken h e = ap (λ b. bytes_eq (bytes_of h.name) w || b) e ∙ or_right (bytes_eq (bytes_of h.name) w)

taken_too : (place : ℕ) (taken : List (List ℕ)) (f : PlainOperator) (os : List PlainOperator) → AreTaken taken os
    → AreTaken (word_for place taken f ∷ taken) (os ++ copy_of (copied_at place taken f) ∷ [])
taken_too place taken f os t =
    let g : PlainOperator = copy_of (copied_at place taken f) in
    let more : List (List ℕ) = word_for place taken f ∷ taken in
    let Taken : PlainOperator → Type 0 = (λ h. list_any (bytes_eq (bytes_of h.name)) more ≡ true) in
    All-push Taken os g (All-weaker (λ h. list_any (bytes_eq (bytes_of h.name)) taken ≡ true) Taken
    (λ h q. still_taken (word_for place taken f) taken h q) os t)
    (ap (λ b. b || list_any (bytes_eq (word_for place taken f)) taken) (same_bytes (word_for place taken f)))

-- the copies of operators
abbrev copies_in : List Copied → List PlainOperator
copies_in cs = map copy_of cs

proper_copies : (place : ℕ) (taken : List (List ℕ)) (fs os : List PlainOperator) → AreTaken taken os → AreProper os
    → AreProper (os ++ copies_in (copies place taken fs))
proper_copies place taken [] os t p = subst AreProper (sym (append-nil os)) p
proper_copies place taken (f ∷ fs) os t p =
    let g : PlainOperator = copy_of (copied_at place taken f) in
    let rest : List PlainOperator = copies_in (copies (suc place) (word_for place taken f ∷ taken) fs) in
    subst AreProper (append_assoc os (g ∷ []) rest)
    (proper_copies (suc place) (word_for place taken f ∷ taken) fs (os ++ g ∷ []) (taken_too place taken f os t)
    (with_copy place taken f os t p))

own_taken : (os : List PlainOperator) → AreTaken (map (λ f. bytes_of f.name) os) os
own_taken [] = All-nil (λ f. list_any (bytes_eq (bytes_of f.name)) [] ≡ true)
own_taken (f ∷ os) =
    let more : List (List ℕ) = map (λ h. bytes_of h.name) (f ∷ os) in
    let Taken : PlainOperator → Type 0 = (λ h. list_any (bytes_eq (bytes_of h.name)) more ≡ true) in
    All-cons Taken f os (ap (λ b. b || list_any (bytes_eq (bytes_of f.name)) (map (λ h. bytes_of h.name) os))
    (same_bytes (bytes_of f.name)))
    (All-weaker (λ h. list_any (bytes_eq (bytes_of h.name)) (map (λ k. bytes_of k.name) os) ≡ true) Taken
    (λ h q. still_taken (bytes_of f.name) (map (λ k. bytes_of k.name) os) h q) os
    (own_taken os))

-- the word for an operator's copy
abbrev word_in : List Copied → PlainOperator → Option (List ℕ)
word_in cs f = lookup (same_operator f) (map (λ c. (c.operator, c.word)) cs)

named_by : (P : OperatorName → Type 0) (f : PlainOperator) (c : Copied) (cs : List Copied) (b : Bool)
    → same_operator f c.operator ≡ b
    → (c.operator ≡ f → P (plain c.word)) → P (unwrap_or (option_map plain (word_in cs f)) f.name)
    → P (unwrap_or (option_map plain (cond b (Some c.word) (word_in cs f))) f.name)
named_by P f c cs true e h k = h (sym ((operator_Decides f c.operator).0 e))
named_by P f c cs false e h k = k

-- a property of the operator's name and of the words for its copies
name_has : (P : OperatorName → Type 0) (f : PlainOperator) → P f.name → (cs : List Copied)
    → ((c : Copied) → Contains cs c → c.operator ≡ f → P (plain c.word))
    → P (new_name (by_copies cs) f)
name_has P f p [] h = p
name_has P f p (c ∷ cs) h =
    named_by P f c cs (same_operator f c.operator) refl (h c (contains_here c cs))
    (name_has P f p cs (λ d q e. h d (contains_later c d cs q) e))

module _ (own : List PlainOperator) (proper : All (λ f. IsBuiltIn f → ⊥) own) (cs : List Copied)
    (from : All (IsCopyFrom own) cs) where
  -- the operators of the trait, and the copies
  abbrev all_operators : List PlainOperator
  all_operators = own ++ copies_in cs

  abbrev by : Replacements
  by = by_copies cs

  pub copies_keep : KeepsBuiltIns (renaming by)
  copies_keep =
      proper_keeps by
      (record {
        sorts = All-nil (λ p. p.0 ≡ bool_sort → ⊥);
        operators =
            All-map (λ p. IsBuiltIn p.0 → ⊥) (λ c. (c.operator, c.word)) cs
            (All-weaker (IsCopyFrom own) (λ c. IsBuiltIn c.operator → ⊥)
            (λ c h. All-contains (λ f. IsBuiltIn f → ⊥) own c.operator proper h) cs from);
      })

  -- an operator under another name
  abbrev under : PlainOperator → OperatorName → PlainOperator
  under f n = record { name = n; domain = map (λ s. s) f.domain; range = f.range }

  same_under : (f : PlainOperator) (n : OperatorName)
      → record { name = n; domain = f.domain; range = f.range } ≡ under f n
  same_under f n = ap (λ d. record { name = n; domain = d; range = f.range }) (sym (map-id f.domain))

  pub carried : (f : PlainOperator) → Contains own f → Contains all_operators (new_operator by f)
  carried f c =
      name_has (λ n. Contains all_operators (under f n)) f
      (subst (Contains all_operators) (same_under f f.name) (contains_left own (copies_in cs) f c)) cs
      (λ d q e. subst (λ h. Contains all_operators (under h (plain d.word))) e
      (subst (Contains all_operators) (same_under d.operator (plain d.word))
      (contains_right own (copies_in cs) (copy_of d) (contains_map copy_of cs d q))))

  sort_stays : (t : Tree) → sort_of (rename_tree (renaming by) t) ≡ sort_of t
  sort_stays (var n s) = refl
  sort_stays (app f ts) = refl

  pub stated_by_copies : (s : Statement) → IsStatedOver own s
      → IsStatedOver all_operators (renamed_statement (renaming by) s)
  stated_by_copies s h = stated_renamed (renaming by) (renaming_fits by) copies_keep own all_operators carried s h

  pub stated_still : (s : Statement) → IsStatedOver own s → IsStatedOver all_operators s
  stated_still s h = stated_more own all_operators (λ f c. contains_left own (copies_in cs) f c) s h

  pub same_by_copies : (t : Tree) → IsTermOf own t
      → IsStatedOver all_operators (Equation t (rename_tree (renaming (by_copies cs)) t))
  same_by_copies t h =
      let a = stated_still (Equation t t) h in
      let b = stated_by_copies (Equation t t) h in
      ((a.0.0, b.0.0, sym (sort_stays t)), tt, (a.2.0, b.2.0))

module _ (theory : Theory) (sound : IsSoundTheory theory) (c : Conversion)
    (is : IsConversionOf theory.operators c) where
  abbrev own : List PlainOperator
  own = theory.operators

  abbrev cs : List Copied
  cs = copies 1 (map (λ f. bytes_of f.name) own) c.converted

  pub clause_from : All (IsCopyFrom own) cs
  clause_from = copies_from own 1 (map (λ f. bytes_of f.name) own) c.converted is.0

  abbrev now : List PlainOperator
  now = own ++ copies_in cs

  statements_now : All (IsStatedOver now) (clause_theory theory (clause_over theory c)).statements
  statements_now =
      All-append (IsStatedOver now) theory.statements ((clause_over theory c).copied ++ (clause_over theory c).exempt)
      (All-weaker (IsStatedOver own) (IsStatedOver now)
      (stated_still own sound.0.own cs clause_from) theory.statements sound.1)
      (All-append (IsStatedOver now) (clause_over theory c).copied (clause_over theory c).exempt
      (All-map (IsStatedOver now) (renamed_statement (renaming (by_copies cs)))
      (filter (names_one_of c.converted) theory.statements)
      (All-weaker (IsStatedOver own) (λ s. IsStatedOver now (renamed_statement (renaming (by_copies cs)) s))
      (stated_by_copies own sound.0.own cs clause_from)
      (filter (names_one_of c.converted) theory.statements)
      (all_left (IsStatedOver own) (names_one_of c.converted) theory.statements sound.1)))
      (All-map (IsStatedOver now) (λ t. Equation t (rename_tree (renaming (by_copies cs)) t)) c.exempted
      (All-weaker (IsTermOf own) (λ t. IsStatedOver now (Equation t (rename_tree (renaming (by_copies cs)) t)))
      (same_by_copies own sound.0.own cs clause_from) c.exempted is.1)))

  -- what a clause makes of a sound theory is one
  pub clause_sound : IsSoundTheory (clause_theory theory (clause_over theory c))
  clause_sound =
      let p = proper_copies 1 (map (λ f. bytes_of f.name) own) c.converted own (own_taken own)
      (sound.0.different, sound.0.own) in (
        record {
          different = p.0;
          own = p.1;
          well_sorted =
              All-weaker (IsStatedOver now) (IsStatementOver now) (λ s h. h.0)
              (clause_theory theory (clause_over theory c)).statements statements_now;
        },
        statements_now,
      )
