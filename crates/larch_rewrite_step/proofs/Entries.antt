-- What a match binds, where the term is known.
use Rattle.std.specs.Prelude.{◌≡◌, ◌&&◌, ◌||◌, ◌<◌, ℕ, Bool, true, false, not, cond, All, AllPairs, List, [], ◌∷◌, map}
use Rattle.std.specs.Prelude.{bytes_eq, Option, Some, None, option_and_then, refl}
use Rattle.std.specs.List.{list_any}
use Rattle.std.proofs.Common.{arith, ap, ap₂, sym, subst, ◌∙◌}
use Rattle.std.proofs.lemmas.List.Elements.{All-cons, All-head, All-nil, All-tail, All-weaker}
use Rattle.larch_base.proofs.Lists.{pairs_head, pairs_tail}
use Rattle.larch_term.specs.Operator.{PlainOperator}
use Rattle.larch_term.specs.Sorts.{sort_of, AllWellSorted, AllOver}
use Rattle.larch_term.specs.Substitution.{is_entry_of}
use Rattle.larch_term.specs.Tree.{Tree, Forest, AllOf, var, app, none, more}
use Rattle.larch_term.specs.Variable.{same_variable}
use Rattle.larch_term.specs.declared.substitution.Entry.{Entry}
use Rattle.larch_derive.specs.RenamingRenaming.{renamed_all}
use Rattle.larch_derive.specs.VerifyMeaningEvents.{State}
use Rattle.larch_derive.specs.VerifyMeaningMatching.{all_different}
use Rattle.larch_rewrite_match.specs.RewriteMeaningMatching.{bound, match_term, matched_all}
use Rattle.larch_base.proofs.Options.{some_inj}
use Rattle.larch_derive.specs.CertificateTextLineText.{IsWord}
use Rattle.larch_derive.specs.Words.{AreWordedTerms, IsWordedTerm}
use Rattle.larch_term.specs.Equality.{same_operator, same_tree}
use Rattle.larch_rewrite_match.proofs.RewriteMeaningMatches.{IsInherited, IsBound, matched_fits}
use Rattle.larch_rewrite_match.proofs.Apart.{AreOfOthers, match_apart}
use Rattle.larch_derive.specs.OpenBox.{naming}
use Rattle.larch_derive.specs.Predicates.{operators_at, StandIn, KnownIn, Known, Extends}
use Rattle.larch_derive.specs.declared.builder.Builder.{Builder}
use Rattle.larch_derive.proofs.Growth.{stays_known}
use Rattle.larch_derive_lines.specs.Rules.{variable_in, AreKnownEntries}

-- ---- arguments of a known term are known

all_known : (b : Builder) (st : State) → StandIn b.theory b.boxes b.lines st → (ts : Forest)
    → AllWellSorted (renamed_all (naming b.boxes) ts)
    → AllOver (operators_at b.theory st) (renamed_all (naming b.boxes) ts) → AreWordedTerms ts → AllOf (Known b) ts
unfolding Known
all_known b st s none w o i = tt
all_known b st s (more t ts) w o i =
    ((st, record { stand = s; over = (w.0, o.0); words = i.0 }), all_known b st s ts w.1 o.1 i.1)

pub known_arguments : (b : Builder) (f : PlainOperator) (ts : Forest) → Known b (app f ts) → AllOf (Known b) ts
unfolding Known
known_arguments b f ts (st, k) = all_known b st k.stand ts k.over.0.1 k.over.1.1 k.words.1

inherited : (b : Builder) → IsInherited (Known b) (AllOf (Known b))
inherited b = record {
  arguments = λ f ts k. known_arguments b f ts k;
  first = λ t ts k. k.0;
  others = λ t ts k. k.1;
}

-- what a pattern's variables are bound to is known, and has their sorts
bound_known : (b : Builder) (p t : Tree) (es : List Entry) → Known b t → match_term p t [] ≡ Some es
    → All (λ e. Known b e.term × (sort_of e.term ≡ e.sort)) es
bound_known b p t es k h =
    matched_fits (Known b) (AllOf (Known b)) (inherited b) p t [] es (λ i d lt. absurd (omega (arith, lt))) k h

-- ---- the variables of a pattern in words have names that are words

abbrev AreNamed : List Entry → Type 0
AreNamed es = All (λ e. IsWord e.name) es

there_named : (all ds : List Entry) (b : Bool) → AreNamed all → cond b (Some all) None ≡ Some ds → AreNamed ds
there_named all ds true w h = subst AreNamed (some_inj h) w
there_named all ds false w h = cc

step_named : (all : List Entry) (n s : List ℕ) (t : Tree) (e : Entry) (ds : List Entry) (b : Bool)
    (o : Option (List Entry))
    → AreNamed all → (o ≡ Some ds → AreNamed ds)
    → (elim b [ true ↦ cond (same_tree e.term t) (Some all) None | false ↦ o ]) ≡ Some ds → AreNamed ds
step_named all n s t e ds true o w go h = there_named all ds (same_tree e.term t) w h
step_named all n s t e ds false o w go h = go h

bound_named : (all : List Entry) (n s : List ℕ) (t : Tree) (es ds : List Entry) → IsWord n → AreNamed all
    → bound all n s t es ≡ Some ds → AreNamed ds
bound_named all n s t [] ds i w h =
    subst AreNamed (some_inj h)
    (All-cons (λ e. IsWord e.name) (record { name = n; sort = s; term = t }) all i w)
bound_named all n s t (e ∷ es) ds i w h =
    step_named all n s t e ds (is_entry_of n s e) (bound all n s t es) w (bound_named all n s t es ds i w) h

variable_named : (n s : List ℕ) (t : Tree) (es ds : List Entry) (b : Bool) → IsWord n → AreNamed es
    → cond b (bound es n s t es) None ≡ Some ds → AreNamed ds
variable_named n s t es ds true i w h = bound_named es n s t es ds i w h
variable_named n s t es ds false i w h = cc

application_named : (ps ts : Forest) (es ds : List Entry) (b : Bool) → (matched_all ps ts es ≡ Some ds → AreNamed ds)
    → (elim b [ true ↦ matched_all ps ts es | false ↦ None ]) ≡ Some ds → AreNamed ds
application_named ps ts es ds true go h = go h
application_named ps ts es ds false go h = cc

further_named : (p : Tree) (ps : Forest) (t : Tree) (ts : Forest) (es ds : List Entry) (o : Option (List Entry))
    → ((gs : List Entry) → match_term p t es ≡ Some gs → AreNamed gs)
    → ((gs : List Entry) → AreNamed gs → matched_all ps ts gs ≡ Some ds → AreNamed ds)
    → match_term p t es ≡ o → option_and_then (λ gs. matched_all ps ts gs) o ≡ Some ds → AreNamed ds
further_named p ps t ts es ds None first others e h = cc
further_named p ps t ts es ds (Some gs) first others e h = others gs (first gs e) h

mutual
  matched_named : (p t : Tree) (es ds : List Entry) → IsWordedTerm p → AreNamed es → match_term p t es ≡ Some ds
      → AreNamed ds
  matched_named (var n s) t es ds i w h = variable_named n s t es ds (bytes_eq (sort_of t) s) i.0 w h
  matched_named (app f ps) (var n s) es ds i w h = cc
  matched_named (app f ps) (app g ts) es ds i w h =
      application_named ps ts es ds (same_operator f g) (matched_all_named ps ts es ds i.1 w) h

  matched_all_named : (ps ts : Forest) (es ds : List Entry) → AreWordedTerms ps → AreNamed es
      → matched_all ps ts es ≡ Some ds → AreNamed ds
  matched_all_named none none es ds i w h = subst AreNamed (some_inj h) w
  matched_all_named none (more t ts) es ds i w h = cc
  matched_all_named (more p ps) none es ds i w h = cc
  matched_all_named (more p ps) (more t ts) es ds i w h =
      further_named p ps t ts es ds (match_term p t es) (λ gs k. matched_named p t es gs i.0 w k)
      (λ gs g k. matched_all_named ps ts gs ds i.1 g k) refl h

both_named : (b : Builder) (es : List Entry) → All (λ e. Known b e.term × (sort_of e.term ≡ e.sort)) es → AreNamed es
    → AreKnownEntries b es
both_named b [] k w = All-nil (λ e. Known b e.term × (sort_of e.term ≡ e.sort) × IsWord e.name)
both_named b (e ∷ es) k w =
    let p : Known b e.term × (sort_of e.term ≡ e.sort) =
    All-head (λ d. Known b d.term × (sort_of d.term ≡ d.sort)) e es k in
    All-cons (λ d. Known b d.term × (sort_of d.term ≡ d.sort) × IsWord d.name) e es
    (p.0, p.1, All-head (λ d. IsWord d.name) e es w)
    (both_named b es (All-tail (λ d. Known b d.term × (sort_of d.term ≡ d.sort)) e es k)
    (All-tail (λ d. IsWord d.name) e es w))

-- what the variables of a pattern in words are bound to is known
pub known_entries : (b : Builder) (p t : Tree) (es : List Entry) → IsWordedTerm p → Known b t
    → match_term p t [] ≡ Some es → AreKnownEntries b es
known_entries b p t es i k h =
    both_named b es (bound_known b p t es k h)
    (matched_named p t [] es i (All-nil (λ e. IsWord e.name)) h)

pub entries_stay : (a b : Builder) (es : List Entry) → Extends a b → AreKnownEntries a es → AreKnownEntries b es
entries_stay a b es x k =
    All-weaker (λ e. Known a e.term × (sort_of e.term ≡ e.sort) × IsWord e.name)
    (λ e. Known b e.term × (sort_of e.term ≡ e.sort) × IsWord e.name)
    (λ e p. (stays_known a b e.term x p.0, p.1, p.2)) es k

-- ---- the variables are different

absent : (e : Entry) (es : List Entry) → All (AreOfOthers e) es
    → list_any (same_variable (variable_in e)) (map variable_in es) ≡ false
absent e [] h = refl
absent e (d ∷ es) h =
    ap₂ (λ x y. x || y) (All-head (AreOfOthers e) d es h) (absent e es (All-tail (AreOfOthers e) d es h))

all_apart : (es : List Entry) → AllPairs AreOfOthers es → all_different (map variable_in es) ≡ true
all_apart [] h = refl
all_apart (e ∷ es) h =
    ap₂ (λ x y. not x && y) (absent e es (pairs_head AreOfOthers e es h))
    (all_apart es (pairs_tail AreOfOthers e es h))

pub different : (p t : Tree) (es : List Entry) → match_term p t [] ≡ Some es → all_different (map variable_in es) ≡ true
different p t es h = all_apart es (match_apart p t es h)
