-- What matches binds no variable twice.
use Rattle.std.specs.Prelude.{◌≡◌, ◌⊎◌, ◌↔◌, IsTrue, ℕ, suc, Bool, true, false, cond, All, AllPairs, List}
use Rattle.std.specs.Prelude.{[], ◌∷◌, length, bytes_eq, Option, Some, None, option_and_then, refl}
use Rattle.std.proofs.Common.{inl, inr, arith, ap, sym, subst, ◌∙◌}
use Rattle.std.specs.Bool.{Decides}
use Rattle.std.proofs.lemmas.Bool.Decides.{Decides-and, same_from_decides}
use Rattle.larch_term.proofs.Decided.{tree_Decides}
use Rattle.std.proofs.lemmas.List.Elements.{All-cons, All-nil, All-weaker}
use Rattle.std.proofs.lemmas.List.Kept.{AllPairs-cons}
use Rattle.std.proofs.lemmas.Slice.Eq.{bytes_eq-Decides}
use Rattle.larch_base.proofs.Options.{some_inj}
use Rattle.larch_term.specs.Tree.{Tree, Forest, var, app, none, more, forest_of}
use Rattle.larch_term.specs.Sorts.{sort_of}
use Rattle.larch_term.specs.Equality.{same_operator, same_tree}
use Rattle.larch_term.specs.Substitution.{is_entry_of}
use Rattle.larch_term.specs.declared.substitution.Entry.{Entry}
use Rattle.larch_rewrite_meaning.specs.Matching.{bound, match_term, matched_all}
use Rattle.larch_rewrite_match.specs.Bound.{AreBound, IsBinding, entries_of}
use Rattle.larch_rewrite_match.specs.declared.patterns.Bound.{Bound}
use Rattle.larch_store.specs.Numbered.{Numbered}
use Rattle.larch_store.specs.Stored.{Belongs}

-- a test that tells exactly what is equal is the test of terms
pub same_told : (t u : Tree) (b : Bool) → IsTrue b ↔ (t ≡ u) → b ≡ same_tree t u
same_told t u b h = same_from_decides b (same_tree t u) h (tree_Decides t u)

-- the entry of a variable
abbrev entry_for : List ℕ → List ℕ → Tree → Entry
entry_for n s t = record { name = n; sort = s; term = t }

-- the second entry is of another variable than the first
abbrev pub AreOfOthers : Entry → Entry → Type 0
AreOfOthers d e = is_entry_of e.name e.sort d ≡ false

entry_Decides : (n s : List ℕ) (e : Entry) → Decides (is_entry_of n s e) ((e.name ≡ n) × (e.sort ≡ s))
entry_Decides n s e =
    Decides-and (bytes_eq e.name n) (bytes_eq e.sort s) (bytes_eq-Decides e.name n) (bytes_eq-Decides e.sort s)

differ : {A : Type 0} (b : Bool) → b ≡ true → b ≡ false → A
differ b p q = cc

other_way : (n s : List ℕ) (t : Tree) (e : Entry) (b : Bool) → is_entry_of e.name e.sort (entry_for n s t) ≡ b
    → is_entry_of n s e ≡ false → b ≡ false
other_way n s t e false q h = refl
other_way n s t e true q h =
    let k = (entry_Decides e.name e.sort (entry_for n s t)).0 q in
    differ (is_entry_of n s e) ((entry_Decides n s e).1 (sym k.0, sym k.1)) h

-- what binding a variable does: nothing, or there is one entry more, and none before it of the variable
abbrev Binds : List Entry → List ℕ → List ℕ → Tree → List Entry → List Entry → Type 0
Binds all n s t es ds = (all ≡ ds) ⊎ (All (λ e. is_entry_of n s e ≡ false) es × (entry_for n s t ∷ all ≡ ds))

bound_there : (all ds : List Entry) (b : Bool) → cond b (Some all) None ≡ Some ds → all ≡ ds
bound_there all ds true h = some_inj h
bound_there all ds false h = cc

bound_step : (all : List Entry) (n s : List ℕ) (t : Tree) (e : Entry) (es ds : List Entry) (b : Bool)
    → is_entry_of n s e ≡ b → (bound all n s t es ≡ Some ds → Binds all n s t es ds)
    → (elim b [ true ↦ cond (same_tree e.term t) (Some all) None | false ↦ bound all n s t es ]) ≡ Some ds
    → Binds all n s t (e ∷ es) ds
bound_step all n s t e es ds true q go h = inl (bound_there all ds (same_tree e.term t) h)
bound_step all n s t e es ds false q go h = elim (go h) [
  | inl k ↦ inl k
  | inr k ↦ inr (All-cons (λ d. is_entry_of n s d ≡ false) e es q k.0, k.1)
]

bound_binds : (all : List Entry) (n s : List ℕ) (t : Tree) (es ds : List Entry) → bound all n s t es ≡ Some ds
    → Binds all n s t es ds
bound_binds all n s t [] ds h = inr (λ k d lt. absurd (omega (arith, lt)), some_inj h)
bound_binds all n s t (e ∷ es) ds h =
    bound_step all n s t e es ds (is_entry_of n s e) refl (bound_binds all n s t es ds) h

bound_apart : (n s : List ℕ) (t : Tree) (es ds : List Entry) → AllPairs AreOfOthers es → bound es n s t es ≡ Some ds
    → AllPairs AreOfOthers ds
bound_apart n s t es ds a h = elim (bound_binds es n s t es ds h) [
  | inl k ↦ subst (AllPairs AreOfOthers) k a
  | inr k ↦ subst (AllPairs AreOfOthers) k.1 (AllPairs-cons AreOfOthers (entry_for n s t) es
      (All-weaker (λ e. is_entry_of n s e ≡ false) (AreOfOthers (entry_for n s t))
      (λ e q. other_way n s t e (is_entry_of e.name e.sort (entry_for n s t)) refl q) es k.0) a)
]

variable_apart : (n s : List ℕ) (t : Tree) (es ds : List Entry) (b : Bool) → AllPairs AreOfOthers es
    → cond b (bound es n s t es) None ≡ Some ds → AllPairs AreOfOthers ds
variable_apart n s t es ds true a h = bound_apart n s t es ds a h
variable_apart n s t es ds false a h = cc

application_apart : (ps ts : Forest) (es ds : List Entry) (b : Bool)
    → (matched_all ps ts es ≡ Some ds → AllPairs AreOfOthers ds)
    → (elim b [ true ↦ matched_all ps ts es | false ↦ None ]) ≡ Some ds → AllPairs AreOfOthers ds
application_apart ps ts es ds true go h = go h
application_apart ps ts es ds false go h = cc

further_apart : (p : Tree) (ps : Forest) (t : Tree) (ts : Forest) (es ds : List Entry) (o : Option (List Entry))
    → ((gs : List Entry) → match_term p t es ≡ Some gs → AllPairs AreOfOthers gs)
    → ((gs : List Entry) → AllPairs AreOfOthers gs → matched_all ps ts gs ≡ Some ds → AllPairs AreOfOthers ds)
    → match_term p t es ≡ o → option_and_then (λ gs. matched_all ps ts gs) o ≡ Some ds → AllPairs AreOfOthers ds
further_apart p ps t ts es ds None first others e h = cc
further_apart p ps t ts es ds (Some gs) first others e h = others gs (first gs e) h

mutual
  matched_apart : (p t : Tree) (es ds : List Entry) → AllPairs AreOfOthers es → match_term p t es ≡ Some ds
      → AllPairs AreOfOthers ds
  matched_apart (var n s) t es ds a h = variable_apart n s t es ds (bytes_eq (sort_of t) s) a h
  matched_apart (app f ps) (var n s) es ds a h = cc
  matched_apart (app f ps) (app g ts) es ds a h =
      application_apart ps ts es ds (same_operator f g) (matched_all_apart ps ts es ds a) h

  matched_all_apart : (ps ts : Forest) (es ds : List Entry) → AllPairs AreOfOthers es → matched_all ps ts es ≡ Some ds
      → AllPairs AreOfOthers ds
  matched_all_apart none none es ds a h = subst (AllPairs AreOfOthers) (some_inj h) a
  matched_all_apart none (more t ts) es ds a h = cc
  matched_all_apart (more p ps) none es ds a h = cc
  matched_all_apart (more p ps) (more t ts) es ds a h =
      further_apart p ps t ts es ds (match_term p t es) (λ gs k. matched_apart p t es gs a k)
      (λ gs b k. matched_all_apart ps ts gs ds b k) refl h

-- the entries of a match are of different variables
pub match_apart : (p t : Tree) (ds : List Entry) → match_term p t [] ≡ Some ds → AllPairs AreOfOthers ds
match_apart p t ds h = matched_apart p t [] ds (λ i j d x lt. absurd (omega (arith, lt))) h

-- ---- lists of different lengths don't match

shorter : (p t : Tree) (ps ts : Forest) (o : Option (List Entry)) → ((ds : List Entry) → matched_all ps ts ds ≡ None)
    → option_and_then (λ ds. matched_all ps ts ds) o ≡ None
shorter p t ps ts None go = refl
shorter p t ps ts (Some ds) go = go ds

pub as_many : (ps ts : List Tree) (es : List Entry) → (length ps ≡ length ts → ⊥)
    → matched_all (forest_of ps) (forest_of ts) es ≡ None
as_many [] [] es h = absurd (h refl)
as_many [] (t ∷ ts) es h = refl
as_many (p ∷ ps) [] es h = refl
as_many (p ∷ ps) (t ∷ ts) es h =
    shorter p t (forest_of ps) (forest_of ts) (match_term p t es) (λ ds. as_many ps ts ds (λ e. h (ap suc e)))

-- ---- what matches, with its shared terms

match_bound : (store : List Numbered) (p t : Tree) (bs : List Bound) → AreBound store bs
    → match_term p t [] ≡ Some (entries_of bs) → IsBinding store bs
match_bound store p t bs a h = (a, match_apart p t (entries_of bs) h)

pub match_made : (store : List Numbered) (p t : Tree) (olds news by : List Bound) (told : Bool) → olds ≡ [] → by ≡ news
    → told ≡ true → match_term p t (entries_of olds) ≡ cond told (Some (entries_of news)) None → AreBound store news
    → IsBinding store by
match_made store p t olds news by told o b y h a =
    subst (IsBinding store) (sym b)
    (match_bound store p t news a (ap (λ xs. match_term p t (entries_of xs)) (sym o) ∙ h
    ∙ ap (λ c. cond c (Some (entries_of news)) None) y))

pub none_bound : (store : List Numbered) (bs : List Bound) → bs ≡ [] → AreBound store bs
none_bound store bs e = subst (AreBound store) (sym e) (All-nil (λ b. Belongs store b.term))
