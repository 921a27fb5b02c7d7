-- What takes the places of variables in the critical pairs of two rules that lines say can be written.
use Rattle.std.specs.Prelude.{◌≡◌, ◌&&◌, ◌||◌, ◌++◌, ℕ, Bool, true, false, not, List, [], ◌∷◌, map, All, AllPairs}
use Rattle.std.specs.Prelude.{Contains, Ok, refl}
use Rattle.std.specs.List.{list_any}
use Rattle.std.proofs.Common.{ap₂, inl, inr, subst, sym}
use Rattle.std.proofs.lemmas.List.Elements.{All-append, All-cons, All-contains, All-head, All-nil, All-tail, All-weaker}
use Rattle.larch_base.proofs.Lists.{all_from, pairs_head, pairs_tail}
use Rattle.larch_base.proofs.Members.{contained_in_map, contains_either, contains_left, contains_map, contains_right}
use Rattle.larch_term.specs.BuiltIn.{built_in_domain, built_in_range}
use Rattle.larch_term.specs.Operator.{PlainOperator}
use Rattle.larch_term.specs.Sorts.{AllOver, AllWellSorted, IsKnown, IsOver, IsTermOver, WellSorted, sort_of, sorts_of}
use Rattle.larch_term.specs.Substitution.{Fits, is_entry_of}
use Rattle.larch_term.specs.Tree.{Tree, Forest, var, app, none, more}
use Rattle.larch_term.specs.Variable.{occurrences, occurrences_in, same_variable}
use Rattle.larch_term.specs.declared.built_in.BuiltIn.{BuiltIn}
use Rattle.larch_term.specs.declared.built_in.BuiltIn.TheVariants.{And, Equal, False, If, Iff, Implies, Not, Or, True}
use Rattle.larch_term.specs.declared.built_in.BuiltIn.TheVariants.{Unequal}
use Rattle.larch_term.specs.declared.statement.Statement.TheVariants.{Equation}
use Rattle.larch_term.specs.declared.substitution.Entry.{Entry}
use Rattle.larch_term.specs.declared.variable.Variable.{Variable}
use Rattle.larch_pairs.specs.Unify.{variables_of_both}
use Rattle.larch_pairs_critical.specs.Overlap.{AreSorted, IsApplication, Overlaps}
use Rattle.larch_pairs_critical.specs.Pairs.{critical_pairs}
use Rattle.larch_pairs_critical.specs.Variables.{HasNumbered, IsNumbered, IsNumberedPair, sorts_of_rules}
use Rattle.larch_pairs_critical.specs.declared.pair.Pair.{Pair}
use Rattle.larch_pairs_critical.specs.declared.pair.Rule.{Rule}
use Rattle.larch_pairs_critical.proofs.Numbering.{all_numbered, both_have}
use Rattle.larch_pairs_critical.proofs.Overlapping.{all_overlap}
use Rattle.larch_pairs_critical.proofs.Replacements.{all_differ, all_fit, all_over, first_variables, second_variables}
use Rattle.larch_certificate_text.specs.LineText.{IsWord}
use Rattle.larch_certificate_text.specs.Parts.{Each}
use Rattle.larch_complete_meaning.specs.RewriteMeaningSides.{AreSidesOver, Sides}
use Rattle.larch_derive.specs.VerifyMeaningMatching.{all_different}
use Rattle.larch_derive.specs.Builder.{theory_in}
use Rattle.larch_derive.specs.Predicates.{Extends, HasEquation, HasNoBadLine, Known}
use Rattle.larch_derive.specs.Words.{AreWordedOperators, AreWordedTerms, IsWordedOperator, IsWordedTerm}
use Rattle.larch_derive.specs.declared.builder.Builder.{Builder}
use Rattle.larch_derive.proofs.Growth.{said_stands, stays_known}
use Rattle.larch_derive.proofs.Start.{known_own}
use Rattle.larch_derive.proofs.Words.{said_worded, theory_worded, worded_sort}
use Rattle.larch_derive_boxes.proofs.Words.{place_worded}
use Rattle.larch_derive_lines.specs.Rules.{AreKnownEntries, variable_in}
use Rattle.larch_complete_meaning.specs.Pairs.{as_rule}
use Rattle.larch_complete_pairs.specs.Said.{IsPairOf}

-- ---- terms whose variables and operators are in words

abbrev IsWordedVariable : Variable → Type 0
IsWordedVariable v = IsWord v.name × IsWord v.sort

range_worded : (w : BuiltIn) (s : List ℕ) → Each IsWord (built_in_domain w s) → IsWord (built_in_range w s)
range_worded True s h = refl
range_worded False s h = refl
range_worded Not s h = refl
range_worded And s h = refl
range_worded Or s h = refl
range_worded Implies s h = refl
range_worded Iff s h = refl
range_worded Equal s h = refl
range_worded Unequal s h = refl
range_worded If s h = h.1.0

argument_sorts : (ts : Forest) → AreWordedTerms ts → Each IsWord (sorts_of ts)
argument_sorts none w = tt
argument_sorts (more t ts) w = (worded_sort t w.0, argument_sorts ts w.1)

-- an operator that is among these, or built in, where the sorts of its arguments are words
operator_worded : (fs : List PlainOperator) (f : PlainOperator) → AreWordedOperators fs → IsKnown fs f
    → Each IsWord f.domain → IsWordedOperator f
operator_worded fs f h (inl c) w = All-contains IsWordedOperator fs f h c
operator_worded fs f h (inr (b, (s, e))) w = (
  w,
  subst (λ (g : PlainOperator). IsWord g.range) (sym e)
      (range_worded b s (subst (λ (g : PlainOperator). Each IsWord g.domain) e w)),
)

front_of : {A : Type 0} (P : A → Type 0) (xs ys : List A) → All P (xs ++ ys) → All P xs
front_of P xs ys h = all_from P xs (λ x c. All-contains P (xs ++ ys) x h (contains_left xs ys x c))

rest_of : {A : Type 0} (P : A → Type 0) (xs ys : List A) → All P (xs ++ ys) → All P ys
rest_of P xs ys h = all_from P ys (λ x c. All-contains P (xs ++ ys) x h (contains_right xs ys x c))

mutual
  -- a well sorted term over operators whose sorts are words is in words where its variables are
  pub by_variables : (fs : List PlainOperator) (t : Tree) → AreWordedOperators fs → WellSorted t → IsOver fs t
      → All IsWordedVariable (occurrences t) → IsWordedTerm t
  by_variables fs (var n s) h w o v = All-head IsWordedVariable (record { name = n; sort = s }) [] v
  by_variables fs (app f ts) h w o v =
      let us = all_by_variables fs ts h w.1 o.1 v in
      (operator_worded fs f h o.0 (subst (Each IsWord) w.0 (argument_sorts ts us)), us)

  pub all_by_variables : (fs : List PlainOperator) (ts : Forest) → AreWordedOperators fs → AllWellSorted ts
      → AllOver fs ts → All IsWordedVariable (occurrences_in ts) → AreWordedTerms ts
  all_by_variables fs none h w o v = tt
  all_by_variables fs (more t ts) h w o v = (
    by_variables fs t h w.0 o.0 (front_of IsWordedVariable (occurrences t) (occurrences_in ts) v),
    all_by_variables fs ts h w.1 o.1 (rest_of IsWordedVariable (occurrences t) (occurrences_in ts) v),
  )

-- ---- variables of rules

mutual
  occurring_worded : (t : Tree) → IsWordedTerm t → All IsWordedVariable (occurrences t)
  occurring_worded (var n s) w =
      All-cons IsWordedVariable (record { name = n; sort = s }) [] w (All-nil IsWordedVariable)
  occurring_worded (app f ts) w = all_occurring_worded ts w.1

  all_occurring_worded : (ts : Forest) → AreWordedTerms ts → All IsWordedVariable (occurrences_in ts)
  all_occurring_worded none w = All-nil IsWordedVariable
  all_occurring_worded (more t ts) w =
      All-append IsWordedVariable (occurrences t) (occurrences_in ts) (occurring_worded t w.0)
      (all_occurring_worded ts w.1)

both_worded : (t u : Tree) → IsWordedTerm t → IsWordedTerm u → All IsWordedVariable (variables_of_both t u)
both_worded t u w v =
    both_have IsWordedVariable t u (occurring_worded t w) (occurring_worded u v)

-- ---- pairs

sorts_worded : (r q : Rule) → IsWordedTerm r.left × IsWordedTerm r.right → IsWordedTerm q.left × IsWordedTerm q.right
    → All IsWord (sorts_of_rules r q)
sorts_worded r q h k =
    let vs = variables_of_both r.left r.right in
    let ws = variables_of_both q.left q.right in
    all_from IsWord (sorts_of_rules r q) (λ s c.
    let m = contained_in_map (λ (v : Variable). v.sort) (vs ++ ws) s c in
    subst IsWord m.2 (elim (contains_either vs ws m.0 m.1) [
      | inl d ↦ (All-contains IsWordedVariable vs m.0 (both_worded r.left r.right h.0 h.1) d).1
      | inr d ↦ (All-contains IsWordedVariable ws m.0 (both_worded q.left q.right k.0 k.1) d).1
    ]))

-- a numbered variable is in words
numbered_worded : (sorts : List (List ℕ)) → All IsWord sorts → (v : Variable) → IsNumbered sorts v → IsWordedVariable v
numbered_worded sorts h v n =
    (subst IsWord (sym n.name) (place_worded n.number), All-contains IsWord sorts v.sort h n.sort)

term_known : (b : Builder) (sorts : List (List ℕ)) (t : Tree) → HasNoBadLine b → All IsWord sorts
    → IsTermOver (theory_in b).operators t → HasNumbered sorts t → Known b t
term_known b sorts t st h over n =
    known_own b t st over
    (by_variables (theory_in b).operators t (theory_worded b st).0 over.0 over.1
    (All-weaker (IsNumbered sorts) IsWordedVariable (numbered_worded sorts h) (occurrences t) n))

-- what takes the places of a rule's variables
entries_known : (b : Builder) (sorts : List (List ℕ)) (l r : Tree) (es : List Entry) → HasNoBadLine b
    → All IsWord sorts → IsWordedTerm l → IsWordedTerm r → Fits es
    → All (λ (e : Entry). IsOver (theory_in b).operators e.term) es
    → All (λ (e : Entry). HasNumbered sorts e.term) es → map variable_in es ≡ variables_of_both l r
    → AreKnownEntries b es
entries_known b sorts l r es st h w v fits over numbered bound =
    all_from (λ (d : Entry). Known b d.term × (sort_of d.term ≡ d.sort) × IsWord d.name) es (λ d c.
    let fit = All-contains (λ (e : Entry). WellSorted e.term × (sort_of e.term ≡ e.sort)) es d fits c in
    let named = All-contains IsWordedVariable (variables_of_both l r) (variable_in d) (both_worded l r w v)
    (subst (λ vs. Contains vs (variable_in d)) bound (contains_map variable_in es d c)) in (
      term_known b sorts d.term st h
          (fit.0, All-contains (λ (e : Entry). IsOver (theory_in b).operators e.term) es d over c)
          (All-contains (λ (e : Entry). HasNumbered sorts e.term) es d numbered c),
      fit.1,
      named.0,
    ))

-- ---- variables that differ

absent : (e : Entry) (es : List Entry) → All (λ d. is_entry_of d.name d.sort e ≡ false) es
    → list_any (same_variable (variable_in e)) (map variable_in es) ≡ false
absent e [] h = refl
absent e (d ∷ es) h =
    let P : Entry → Type 0 = λ x. is_entry_of x.name x.sort e ≡ false in
    ap₂ (λ x y. x || y) (All-head P d es h) (absent e es (All-tail P d es h))

pub all_apart : (es : List Entry) → AllPairs (λ d e. is_entry_of e.name e.sort d ≡ false) es
    → all_different (map variable_in es) ≡ true
all_apart [] h = refl
all_apart (e ∷ es) h =
    let R : Entry → Entry → Type 0 = λ d x. is_entry_of x.name x.sort d ≡ false in
    ap₂ (λ x y. not x && y) (absent e es (pairs_head R e es h)) (all_apart es (pairs_tail R e es h))

-- ---- pairs

sides_sorted : (fs : List PlainOperator) (r : Sides) → AreSidesOver fs r → AreSorted r.left r.right
sides_sorted fs r w = (w.0.0, w.1.0, sym w.2)

-- each critical pair of two rules that lines say can be written
pub all_pairs_of : (b : Builder) (n m : ℕ) (r q : Sides) (one : Bool) (ps : List Pair)
    → HasEquation b n r.left r.right → HasEquation b m q.left q.right → AreSidesOver (theory_in b).operators r
    → AreSidesOver (theory_in b).operators q → IsApplication q.left
    → critical_pairs (as_rule r) (as_rule q) one ≡ Ok ps → All (IsPairOf b r q) ps
all_pairs_of b n m r q one ps h k w v i e =
    let fs = (theory_in b).operators in
    let st = said_stands b n (Equation r.left r.right) h in
    let rw = said_worded b n (Equation r.left r.right) h in
    let qw = said_worded b m (Equation q.left q.right) k in
    let sorts = sorts_of_rules (as_rule r) (as_rule q) in
    let words = sorts_worded (as_rule r) (as_rule q) rw qw in
    let overlap = all_overlap (as_rule r) (as_rule q) one ps e in
    let differ = all_differ (as_rule r) (as_rule q) one ps e in
    let fits = all_fit (as_rule r) (as_rule q) one ps (sides_sorted fs r w) (sides_sorted fs q v) i e in
    let overs = all_over fs (as_rule r) (as_rule q) one ps (w.0.1, w.1.1) (v.0.1, v.1.1) e in
    let numbers = all_numbered (as_rule r) (as_rule q) one ps e in
    all_from (IsPairOf b r q) ps (λ p c.
    let fit = All-contains (λ (x : Pair). Fits x.first × Fits x.second) ps p fits c in
    let over = All-contains (λ (x : Pair). All (λ (d : Entry). IsOver fs d.term) x.first
    × All (λ (d : Entry). IsOver fs d.term) x.second) ps p overs c in
    let numbered = All-contains (IsNumberedPair sorts) ps p numbers c in
    let apart = All-contains (λ (x : Pair). AllPairs (λ d y. is_entry_of y.name y.sort d ≡ false) x.first
    × AllPairs (λ d y. is_entry_of y.name y.sort d ≡ false) x.second) ps p differ c in
    record {
      overlaps = All-contains (Overlaps (as_rule r) (as_rule q)) ps p overlap c;
      first = entries_known b sorts r.left r.right p.first st words rw.0 rw.1 fit.0 over.0 numbered.first
          (All-contains (λ (x : Pair). map variable_in x.first ≡ variables_of_both r.left r.right) ps p
          (first_variables (as_rule r) (as_rule q) one ps e) c);
      second = entries_known b sorts q.left q.right p.second st words qw.0 qw.1 fit.1 over.1 numbered.second
          (All-contains (λ (x : Pair). map variable_in x.second ≡ variables_of_both q.left q.right) ps p
          (second_variables (as_rule r) (as_rule q) one ps e) c);
      first_different = all_apart p.first apart.0;
      second_different = all_apart p.second apart.1;
    })

pub entries_stay : (a b : Builder) (es : List Entry) → Extends a b → AreKnownEntries a es → AreKnownEntries b es
entries_stay a b es x k =
    All-weaker (λ (e : Entry). Known a e.term × (sort_of e.term ≡ e.sort) × IsWord e.name)
    (λ (e : Entry). Known b e.term × (sort_of e.term ≡ e.sort) × IsWord e.name)
    (λ e p. (stays_known a b e.term x p.0, p.1, p.2)) es k

-- and so it is when further lines are written
pub pair_stays : (a b : Builder) (r q : Sides) (p : Pair) → Extends a b → IsPairOf a r q p → IsPairOf b r q p
pair_stays a b r q p x h = record {
  overlaps = h.overlaps;
  first = entries_stay a b p.first x h.first;
  second = entries_stay a b p.second x h.second;
  first_different = h.first_different;
  second_different = h.second_different;
}

pub pairs_stay : (a b : Builder) (r q : Sides) (ps : List Pair) → Extends a b → All (IsPairOf a r q) ps
    → All (IsPairOf b r q) ps
pairs_stay a b r q ps x h = All-weaker (IsPairOf a r q) (IsPairOf b r q) (λ p k. pair_stays a b r q p x k) ps h
