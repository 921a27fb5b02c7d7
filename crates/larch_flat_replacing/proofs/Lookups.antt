-- Look-ups in lists that grow.
use Rattle.std.proofs.Common.{◌≡◌, ◌||◌, not, ℕ, Bool, true, false, cond, List, [], ◌∷◌, ◌++◌, Option, Some, None}
use Rattle.std.proofs.Common.{IfSome, is_some, bytes_eq, refl, sym, ◌∙◌, ap}
use Rattle.std.specs.Map.{lookup}
use Rattle.larch_raw.specs.declared.declared.RawForm.{RawForm}
use Rattle.larch_term.specs.BuiltIn.{bool_sort}
use Rattle.larch_term.specs.Equality.{same_operator}
use Rattle.larch_term.specs.Operator.{PlainOperator}
use Rattle.larch_term.proofs.Decided.{operator_Decides}
use Rattle.larch_flat_meaning.specs.Replacements.{Replacements, cannot_rename_sort, new_operator}
use Rattle.larch_flat_replacing.specs.Kept.{FindsAs, these}

-- the first of two answers that is there
abbrev pub first_of : {X : Type 0} → Option X → Option X → Option X
first_of (Some x) o = Some x
first_of None o = o

cond_first : {X : Type 0} (b : Bool) (v : X) (o q : Option X)
    → cond b (Some v) (first_of o q) ≡ first_of (cond b (Some v) o) q
cond_first true v o q = refl
cond_first false v o q = refl

-- what is found with more behind
pub lookup_behind : {K X : Type 0} (test : K → Bool) (es fs : List (K × X))
    → lookup test (es ++ fs) ≡ first_of (lookup test es) (lookup test fs)
lookup_behind test [] fs = refl
lookup_behind test (e ∷ es) fs =
    ap (cond (test e.0) (Some e.1)) (lookup_behind test es fs)
    ∙ cond_first (test e.0) e.1 (lookup test es) (lookup test fs)

-- what is found alike is found alike with more behind
pub same_behind : {K X : Type 0} (test : K → Bool) (es fs gs : List (K × X)) → lookup test es ≡ lookup test fs
    → lookup test (es ++ gs) ≡ lookup test (fs ++ gs)
same_behind test es fs gs h =
    lookup_behind test es gs ∙ ap (λ o. first_of o (lookup test gs)) h ∙ sym (lookup_behind test fs gs)

pub none_from : {X : Type 0} (o : Option X) → is_some o ≡ false → o ≡ None
none_from None e = refl
none_from (Some x) e = cc

known_first : (v : List ℕ) (o : Option (List ℕ)) (b : Bool) → (b ≡ true → is_some o ≡ true)
    → o ≡ first_of o (cond b (Some v) None)
known_first v (Some x) b h = refl
known_first v None false h = refl
known_first v None true h = absurd (let e : false ≡ true = h refl in cc)

-- behind an entry for an operator another one changes nothing
pub known_behind : (es : List (PlainOperator × List ℕ)) (k : PlainOperator) (v : List ℕ)
    → is_some (lookup (same_operator k) es) ≡ true
    → (f : PlainOperator) → lookup (same_operator f) es ≡ lookup (same_operator f) (es ++ (k, v) ∷ [])
known_behind es k v h f =
    known_first v (lookup (same_operator f) es) (same_operator f k)
    (λ e. ap (λ g. is_some (lookup (same_operator g) es)) ((operator_Decides f k).0 e) ∙ h)
    ∙ sym (lookup_behind (same_operator f) es ((k, v) ∷ []))

one_kept : (by : Replacements) (k f g : PlainOperator) (o : Option PlainOperator) (b : Bool) → (b ≡ true → k ≡ f)
    → g ≡ new_operator by k
    → IfSome o (λ h. h ≡ new_operator by f) → IfSome (cond b (Some g) o) (λ h. h ≡ new_operator by f)
one_kept by k f g o true same e old = e ∙ ap (new_operator by) (same refl)
one_kept by k f g o false same e old = old

-- with one operator more
pub more_kept : (by : Replacements) (k f g : PlainOperator) (o : Option PlainOperator) → g ≡ new_operator by k
    → IfSome o (λ h. h ≡ new_operator by f) → IfSome (cond (same_operator k f) (Some g) o) (λ h. h ≡ new_operator by f)
more_kept by k f g o e old = one_kept by k f g o (same_operator k f) (operator_Decides k f).0 e old

-- replacements with one sort more
pub more_sorts : (by : Replacements) (sorts new : List (List ℕ × List ℕ)) (operators : List (PlainOperator × List ℕ))
    (s z n m : List ℕ)
    → these sorts operators ≡ by → s ≡ z → n ≡ m → new ≡ sorts ++ (s, n) ∷ []
    → these new operators ≡ these (by.sorts ++ (z, m) ∷ []) by.operators
more_sorts by sorts new operators s z n m is e p h =
    ap (λ es. these es operators) h ∙ (λ i. these ((is i).sorts ++ (e i, p i) ∷ []) ((is i).operators))

-- replacements with one operator more
pub more_operators : (by : Replacements) (sorts : List (List ℕ × List ℕ))
    (operators new : List (PlainOperator × List ℕ)) (f g : PlainOperator)
    (n m : List ℕ) → these sorts operators ≡ by → f ≡ g → n ≡ m → new ≡ operators ++ (f, n) ∷ []
    → these sorts new ≡ these by.sorts (by.operators ++ (g, m) ∷ [])
more_operators by sorts operators new f g n m is e p h =
    ap (these sorts) h ∙ (λ i. these ((is i).sorts) ((is i).operators ++ (e i, p i) ∷ []))

-- a sort that isn't replaced in the whole isn't in its list
pub not_in : (by : Replacements) (sorts : List (List ℕ × List ℕ)) (operators : List (PlainOperator × List ℕ))
    (s z : List ℕ)
    → these sorts operators ≡ by → s ≡ z → lookup (bytes_eq z) by.sorts ≡ None → lookup (bytes_eq s) sorts ≡ None
not_in by sorts operators s z is e h = (λ i. lookup (bytes_eq (e i)) ((is i).sorts)) ∙ h

-- the index finds what the list has, with one operator more in both
pub more_found : (index new : List (PlainOperator × List ℕ)) (list long : List (PlainOperator × List ℕ))
    (f g : PlainOperator) (n m : List ℕ)
    → FindsAs index list → FindsAs new (index ++ (g, m) ∷ []) → f ≡ g → n ≡ m → long ≡ list ++ (f, n) ∷ []
    → FindsAs new long
more_found index new list long f g n m old put e p h q =
    put q ∙ same_behind (same_operator q) index list ((g, m) ∷ []) (old q)
    ∙ sym (ap (lookup (same_operator q)) (h ∙ (λ i. list ++ (e i, p i) ∷ [])))

middle_false : (a b c : Bool) → (a || (b || c)) ≡ false → b ≡ false
middle_false true b c e = cc
middle_false false true c e = cc
middle_false false false c e = refl

-- a sort that can be renamed isn't replaced yet
pub not_yet : (by : Replacements) (new : RawForm) (s : List ℕ) → cannot_rename_sort by new s ≡ false
    → lookup (bytes_eq s) by.sorts ≡ None
not_yet by new s e =
    none_from (lookup (bytes_eq s) by.sorts)
    (middle_false (bytes_eq s bool_sort) (is_some (lookup (bytes_eq s) by.sorts)) (not new.word) e)
