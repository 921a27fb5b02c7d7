-- Names of variables and sorts of constants that are words.
use Rattle.std.specs.Prelude.{◌≡◌, ◌<◌, ◌==◌, ℕ, zero, suc, Bool, true, false, cond, List, [], ◌∷◌, map, All}
use Rattle.std.specs.Prelude.{Some, find, refl}
use Rattle.std.proofs.Common.{arith, sym, subst, ◌∙◌}
use Rattle.std.proofs.lemmas.List.Elements.{All-append, All-cons, All-contains, All-head, All-map, All-nil, All-tail}
use Rattle.larch_base.proofs.Lists.{all_from}
use Rattle.larch_base.proofs.Options.{some_inj}
use Rattle.larch_base.specs.Word.{goes_on}
use Rattle.larch_term.specs.Operator.{PlainOperator}
use Rattle.larch_term.specs.Tree.{Tree, Forest, var, app, none, more}
use Rattle.larch_term.specs.Variable.{occurrences, occurrences_in, variables_of}
use Rattle.larch_term.specs.declared.variable.Variable.{Variable}
use Rattle.larch_calculus.proofs.TermLawOccurring.{listed_occurs}
use Rattle.larch_certificate.specs.declared.line.CodedVar.{CodedVar}
use Rattle.larch_derive.specs.CertificateTextLineText.{IsWord}
use Rattle.larch_derive.specs.CertificateTextParts.{Each}
use Rattle.larch_derive.specs.Words.{IsWordedOperator, AreWordedOperators, IsWordedTerm, AreWordedTerms}
use Rattle.larch_prove_plans.specs.ProveMeaningNewNames.{new_constants}
use Rattle.larch_prove_plans.specs.ProveMeaningPlans.{other_sorts}
use Rattle.larch_prove_plans.proofs.ProveMeaningPlanParts.{new_are_constants}
use Rattle.larch_methods.specs.Inside.{written_variable}
use Rattle.larch_methods.specs.Observers.{variables_for, word_of}
use Rattle.larch_methods.proofs.Planned.{new_sorts}

-- ---- variables of terms

mutual
  occurring_worded : (t : Tree) → IsWordedTerm t → All (λ v. IsWord v.name) (occurrences t)
  occurring_worded (var n s) w =
      All-cons (λ v. IsWord v.name) (record { name = n; sort = s }) [] w.0 (All-nil (λ v. IsWord v.name))
  occurring_worded (app f ts) w = all_occurring_worded ts w.1

  all_occurring_worded : (ts : Forest) → AreWordedTerms ts → All (λ v. IsWord v.name) (occurrences_in ts)
  all_occurring_worded none w = All-nil (λ v. IsWord v.name)
  all_occurring_worded (more t ts) w =
      All-append (λ v. IsWord v.name) (occurrences t) (occurrences_in ts) (occurring_worded t w.0)
      (all_occurring_worded ts w.1)

-- the variables of a term in words have words as names
pub variables_worded : (t : Tree) → IsWordedTerm t → All (λ v. IsWord v.name) (variables_of t)
variables_worded t w =
    all_from (λ v. IsWord v.name) (variables_of t)
    (λ v c. All-contains (λ v. IsWord v.name) (occurrences t) v (occurring_worded t w) ((listed_occurs t v).0 c))

pub found_holds : {A : Type 0} (P : A → Type 0) (p : A → Bool) (xs : List A) (x : A) → All P xs
    → find p xs ≡ Some x → P x
found_holds P p [] x h e = cc
found_holds P p (y ∷ ys) x h e =
    by_test (p y) (All-head P y ys h) (λ q. found_holds P p ys x (All-tail P y ys h) q) e
  where
    by_test : (b : Bool) → P y → (find p ys ≡ Some x → P x) → cond b (Some y) (find p ys) ≡ Some x → P x
    by_test true h k q = subst P (some_inj q) h
    by_test false h k q = k q

-- ---- new constants

heads_are : (s r : List ℕ) (ss rs : List (List ℕ)) → s ∷ ss ≡ r ∷ rs → (s ≡ r) × (ss ≡ rs)
heads_are s r ss rs e = (cc, cc)

pub constants_worded : (cs : List PlainOperator) (ss : List (List ℕ)) → All (λ f. f.domain ≡ []) cs
    → map (λ c. c.range) cs ≡ ss → Each IsWord ss → AreWordedOperators cs
constants_worded [] ss d e w = All-nil IsWordedOperator
constants_worded (c ∷ cs) [] d e w = cc
constants_worded (c ∷ cs) (s ∷ ss) d e w =
    let h = heads_are c.range s (map (λ c. c.range) cs) ss e in
    All-cons IsWordedOperator c cs
    (subst (Each IsWord) (sym (All-head (λ f. f.domain ≡ []) c cs d)) tt, subst IsWord (sym h.0) w.0)
    (constants_worded cs ss (All-tail (λ f. f.domain ≡ []) c cs d) h.1 w.1)

-- new constants for variables whose sorts are words
pub new_worded : (taken : List (List ℕ)) (vs : List Variable) (ss : List (List ℕ)) → map (λ v. v.sort) vs ≡ ss
    → Each IsWord ss → AreWordedOperators (new_constants taken vs)
new_worded taken vs ss e w =
    constants_worded (new_constants taken vs) ss (new_are_constants taken vs) (new_sorts taken vs ∙ e) w

pub others_worded : (p k : ℕ) (ss : List (List ℕ)) → Each IsWord ss → Each IsWord (other_sorts p k ss)
others_worded p k [] w = tt
others_worded p k (s ∷ ss) w = either (k == p) (others_worded p (suc k) ss w.1)
  where
    either : (b : Bool) → Each IsWord (other_sorts p (suc k) ss)
        → Each IsWord (cond b (other_sorts p (suc k) ss) (s ∷ other_sorts p (suc k) ss))
    either true h = h
    either false h = (w.0, h)

-- ---- words of letters

letters_go : (n : ℕ) → goes_on (word_of n) ≡ true
letters_go zero = refl
letters_go (suc n) = letters_go n

pub word_is_word : (n : ℕ) → 0 < n → IsWord (word_of n)
word_is_word zero lt = absurd (omega arith)
word_is_word (suc n) lt = letters_go n

pub names_are_words : (n : ℕ) (cs : List PlainOperator) → 0 < n → All (λ v. IsWord v.name) (variables_for n cs)
names_are_words n [] lt = All-nil (λ v. IsWord v.name)
names_are_words n (c ∷ cs) lt =
    All-cons (λ v. IsWord v.name) (record { name = word_of n; sort = c.range }) (variables_for (suc n) cs)
    (word_is_word n lt) (names_are_words (suc n) cs (omega arith))

-- variables are written with their names
pub written_names : (vs : List Variable) (ws : List CodedVar) → ws ≡ map written_variable vs
    → All (λ v. IsWord v.name) vs → All (λ w. IsWord w.name) ws
written_names vs ws e h =
    subst (All (λ w. IsWord w.name)) (sym e) (All-map (λ w. IsWord w.name) written_variable vs h)
