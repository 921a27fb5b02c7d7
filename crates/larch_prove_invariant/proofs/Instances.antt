-- Terms of critical pairs can be written.
use Rattle.std.specs.Prelude.{◌≡◌, ◌++◌, ℕ, Bool, List, [], map, All, Contains, Ok, refl}
use Rattle.std.proofs.Common.{inl, inr, subst, sym, ◌∙◌}
use Rattle.std.proofs.lemmas.List.Elements.{All-append, All-cons, All-contains, All-head, All-nil, All-weaker}
use Rattle.larch_base.proofs.Lists.{all_from}
use Rattle.larch_base.proofs.Members.{contained_in_flat_map, contained_in_map, contains_either, contains_left}
use Rattle.larch_base.proofs.Members.{contains_map, contains_right}
use Rattle.larch_term.specs.BuiltIn.{built_in_domain, built_in_range}
use Rattle.larch_term.specs.Operator.{PlainOperator}
use Rattle.larch_term.specs.Sorts.{AllOver, AllWellSorted, IsKnown, IsOver, IsTermOver, WellSorted, sort_of, sorts_of}
use Rattle.larch_term.specs.Substitution.{Fits}
use Rattle.larch_term.specs.Tree.{Tree, Forest, var, app, none, more}
use Rattle.larch_term.specs.Variable.{occurrences, occurrences_in}
use Rattle.larch_term.specs.declared.built_in.BuiltIn.{BuiltIn}
use Rattle.larch_term.specs.declared.built_in.BuiltIn.TheVariants.{And, Equal, False, If, Iff, Implies, Not, Or, True}
use Rattle.larch_term.specs.declared.built_in.BuiltIn.TheVariants.{Unequal}
use Rattle.larch_term.specs.declared.statement.Statement.TheVariants.{Equation}
use Rattle.larch_term.specs.declared.substitution.Entry.{Entry}
use Rattle.larch_term.specs.declared.variable.Variable.{Variable}
use Rattle.larch_methods.specs.PairsUnify.{variables_of_both}
use Rattle.larch_methods.specs.PairsCriticalOverlap.{AreSorted, IsApplication}
use Rattle.larch_methods.specs.PairsCriticalPairs.{critical_pairs}
use Rattle.larch_methods.specs.PairsCriticalVariables.{HasNumbered, IsNumbered, IsNumberedPair}
use Rattle.larch_methods.specs.PairsCriticalVariables.{sorts_of_rules, variable_in}
use Rattle.larch_methods.specs.PairsCriticalPairPair.{Pair}
use Rattle.larch_methods.specs.PairsCriticalPairRule.{Rule}
use Rattle.larch_methods.proofs.PairsCriticalNumbering.{all_numbered, both_have}
use Rattle.larch_methods.proofs.PairsCriticalOverOperators.{pairs_over}
use Rattle.larch_methods.proofs.PairsCriticalReplacements.{all_fit, all_over, first_variables, second_variables}
use Rattle.larch_methods.proofs.PairsCriticalSorting.{all_sorted}
use Rattle.larch_derive.specs.CertificateTextLineText.{IsWord}
use Rattle.larch_derive.specs.CertificateTextParts.{Each}
use Rattle.larch_derive.specs.Builder.{boxes_in, theory_in}
use Rattle.larch_derive.specs.Predicates.{HasEquation, HasNoBadLine, HasStatement, Known, written_term}
use Rattle.larch_derive.specs.Words.{AreWordedOperators, AreWordedTerms, IsWordedOperator, IsWordedTerm}
use Rattle.larch_derive.specs.declared.builder.Builder.{Builder}
use Rattle.larch_derive.specs.declared.open_box.OpenBox.{OpenBox}
use Rattle.larch_derive.proofs.Growth.{known_left, known_right, said_stands}
use Rattle.larch_derive.proofs.Words.{known_worded, theory_worded, worded_sort}
use Rattle.larch_methods.specs.DeriveBoxesBoxes.{IsPart}
use Rattle.larch_methods.proofs.DeriveBoxesWords.{place_worded}
use Rattle.larch_derive_formulas.specs.DeriveLinesRules.{AreKnownEntries}
use Rattle.larch_prove_invariant.specs.Holding.{open_constants}
use Rattle.larch_prove_invariant.proofs.Knowing.{known_over, open_known}

-- ---- terms whose variables and operators are in words

abbrev IsWordedVariable : Variable → Type 0
IsWordedVariable v = IsWord v.name × IsWord v.sort

range_worded : (w : BuiltIn) (s : List ℕ) → Each IsWord (built_in_domain w s) → IsWord (built_in_range w s)
range_worded True s h = refl
range_worded False s h = refl
range_worded Not s h = refl
range_worded And s h = refl
range_worded Or s h = refl
range_worded Implies s h = refl
range_worded Iff s h = refl
range_worded Equal s h = refl
range_worded Unequal s h = refl
range_worded If s h = h.1.0

argument_sorts : (ts : Forest) → AreWordedTerms ts → Each IsWord (sorts_of ts)
argument_sorts none w = tt
argument_sorts (more t ts) w = (worded_sort t w.0, argument_sorts ts w.1)

-- an operator that is among these, or built in, where the sorts of its arguments are words
operator_worded : (fs : List PlainOperator) (f : PlainOperator) → AreWordedOperators fs → IsKnown fs f
    → Each IsWord f.domain → IsWordedOperator f
operator_worded fs f h (inl c) w = All-contains IsWordedOperator fs f h c
operator_worded fs f h (inr (b, (s, e))) w = (
  w,
  subst (λ (g : PlainOperator). IsWord g.range) (sym e)
      (range_worded b s (subst (λ (g : PlainOperator). Each IsWord g.domain) e w)),
)

front_of : {A : Type 0} (P : A → Type 0) (xs ys : List A) → All P (xs ++ ys) → All P xs
front_of P xs ys h = all_from P xs (λ x c. All-contains P (xs ++ ys) x h (contains_left xs ys x c))

rest_of : {A : Type 0} (P : A → Type 0) (xs ys : List A) → All P (xs ++ ys) → All P ys
rest_of P xs ys h = all_from P ys (λ x c. All-contains P (xs ++ ys) x h (contains_right xs ys x c))

mutual
  -- a well sorted term over operators whose sorts are words is in words where its variables are
  pub by_variables : (fs : List PlainOperator) (t : Tree) → AreWordedOperators fs → WellSorted t → IsOver fs t
      → All IsWordedVariable (occurrences t) → IsWordedTerm t
  by_variables fs (var n s) h w o v = All-head IsWordedVariable (record { name = n; sort = s }) [] v
  by_variables fs (app f ts) h w o v =
      let us = all_by_variables fs ts h w.1 o.1 v in
      (operator_worded fs f h o.0 (subst (Each IsWord) w.0 (argument_sorts ts us)), us)

  pub all_by_variables : (fs : List PlainOperator) (ts : Forest) → AreWordedOperators fs → AllWellSorted ts
      → AllOver fs ts → All IsWordedVariable (occurrences_in ts) → AreWordedTerms ts
  all_by_variables fs none h w o v = tt
  all_by_variables fs (more t ts) h w o v = (
    by_variables fs t h w.0 o.0 (front_of IsWordedVariable (occurrences t) (occurrences_in ts) v),
    all_by_variables fs ts h w.1 o.1 (rest_of IsWordedVariable (occurrences t) (occurrences_in ts) v),
  )

-- ---- variables of rules

mutual
  occurring_worded : (t : Tree) → IsWordedTerm t → All IsWordedVariable (occurrences t)
  occurring_worded (var n s) w =
      All-cons IsWordedVariable (record { name = n; sort = s }) [] w (All-nil IsWordedVariable)
  occurring_worded (app f ts) w = all_occurring_worded ts w.1

  all_occurring_worded : (ts : Forest) → AreWordedTerms ts → All IsWordedVariable (occurrences_in ts)
  all_occurring_worded none w = All-nil IsWordedVariable
  all_occurring_worded (more t ts) w =
      All-append IsWordedVariable (occurrences t) (occurrences_in ts) (occurring_worded t w.0)
      (all_occurring_worded ts w.1)

both_worded : (t u : Tree) → IsWordedTerm t → IsWordedTerm u → All IsWordedVariable (variables_of_both t u)
both_worded t u w v =
    both_have IsWordedVariable t u (occurring_worded t w) (occurring_worded u v)

-- what a line says is in words and well sorted, and has two sides of one sort
record IsWritten (b : Builder) (fs : List PlainOperator) (l r : Tree) : Type 0 where
  left : IsTermOver fs l
  right : IsTermOver fs r
  sorts : AreSorted l r
  left_worded : IsWordedTerm l
  right_worded : IsWordedTerm r
  stands : HasNoBadLine b

sort_written : (bs : List OpenBox) (t : Tree) → sort_of (written_term bs t) ≡ sort_of t
sort_written bs (var n s) = refl
sort_written bs (app f ts) = refl

-- both sides of what a line says have one sort
pub equation_sorts : (b : Builder) (n : ℕ) (l r : Tree) → HasEquation b n l r → sort_of r ≡ sort_of l
unfolding HasStatement
equation_sorts b n l r (st, k) = sym (sort_written b.boxes r) ∙ (sym k.over.2 ∙ sort_written b.boxes l)

line_written : (b : Builder) (n : ℕ) (l r : Tree) → HasEquation b n l r
    → IsWritten b ((theory_in b).operators ++ open_constants b) l r
line_written b n l r h =
    let left = known_left b n l r h in
    let right = known_right b n l r h in
    let over = known_over b l left in
    let other = known_over b r right in
    record {
      left = over;
      right = other;
      sorts = (over.0, other.0, equation_sorts b n l r h);
      left_worded = known_worded b l left;
      right_worded = known_worded b r right;
      stands = said_stands b n (Equation l r) h;
    }

-- ---- pairs

sorts_worded : (r q : Rule) → IsWordedTerm r.left × IsWordedTerm r.right → IsWordedTerm q.left × IsWordedTerm q.right
    → All IsWord (sorts_of_rules r q)
sorts_worded r q h k =
    let vs = variables_of_both r.left r.right in
    let ws = variables_of_both q.left q.right in
    all_from IsWord (sorts_of_rules r q) (λ s c.
    let m = contained_in_map (λ (v : Variable). v.sort) (vs ++ ws) s c in
    subst IsWord m.2 (elim (contains_either vs ws m.0 m.1) [
      | inl d ↦ (All-contains IsWordedVariable vs m.0 (both_worded r.left r.right h.0 h.1) d).1
      | inr d ↦ (All-contains IsWordedVariable ws m.0 (both_worded q.left q.right k.0 k.1) d).1
    ]))

-- a numbered variable is in words
numbered_worded : (sorts : List (List ℕ)) → All IsWord sorts → (v : Variable) → IsNumbered sorts v → IsWordedVariable v
numbered_worded sorts h v n =
    (subst IsWord (sym n.name) (place_worded n.number), All-contains IsWord sorts v.sort h n.sort)

term_known : (b : Builder) (sorts : List (List ℕ)) (t : Tree) → HasNoBadLine b → All IsPart (open_constants b)
    → AreWordedOperators ((theory_in b).operators ++ open_constants b) → All IsWord sorts
    → IsTermOver ((theory_in b).operators ++ open_constants b) t → HasNumbered sorts t → Known b t
term_known b sorts t st parts words h over n =
    open_known b t st parts over
    (by_variables ((theory_in b).operators ++ open_constants b) t words over.0 over.1
    (All-weaker (IsNumbered sorts) IsWordedVariable (numbered_worded sorts h) (occurrences t) n))

-- the sorts of open constants are words
pub open_worded : (b : Builder) → HasNoBadLine b → AreWordedOperators (open_constants b)
unfolding HasNoBadLine
open_worded b (st, h) =
    all_from IsWordedOperator (open_constants b) (λ f c.
    let m = contained_in_flat_map (λ (x : OpenBox). x.constants) (boxes_in b) f c in
    All-contains IsWordedOperator m.0.constants f
    (All-contains (λ (x : OpenBox). AreWordedOperators x.constants) (boxes_in b) m.0 h.parts m.1) m.2)

operators_worded : (b : Builder) → HasNoBadLine b → AreWordedOperators ((theory_in b).operators ++ open_constants b)
operators_worded b h =
    All-append IsWordedOperator (theory_in b).operators (open_constants b) (theory_worded b h).0 (open_worded b h)

-- what takes the places of a rule's variables
entries_known : (b : Builder) (sorts : List (List ℕ)) (l r : Tree) (es : List Entry) → HasNoBadLine b
    → All IsPart (open_constants b) → All IsWord sorts → IsWordedTerm l → IsWordedTerm r → Fits es
    → All (λ (e : Entry). IsOver ((theory_in b).operators ++ open_constants b) e.term) es
    → All (λ (e : Entry). HasNumbered sorts e.term) es → map variable_in es ≡ variables_of_both l r
    → AreKnownEntries b es
entries_known b sorts l r es st parts h w v fits over numbered bound =
    let fs = (theory_in b).operators ++ open_constants b in
    all_from (λ (d : Entry). Known b d.term × (sort_of d.term ≡ d.sort) × IsWord d.name) es (λ d c.
    let fit = All-contains (λ (e : Entry). WellSorted e.term × (sort_of e.term ≡ e.sort)) es d fits c in
    let named = All-contains IsWordedVariable (variables_of_both l r) (variable_in d) (both_worded l r w v)
    (subst (λ vs. Contains vs (variable_in d)) bound (contains_map variable_in es d c)) in (
      term_known b sorts d.term st parts (operators_worded b st) h
          (fit.0, All-contains (λ (e : Entry). IsOver fs e.term) es d over c)
          (All-contains (λ (e : Entry). HasNumbered sorts e.term) es d numbered c),
      fit.1,
      named.0,
    ))

pub pair_entries : (b : Builder) (n m : ℕ) (r q : Rule) (one : Bool) (ps : List Pair) → All IsPart (open_constants b)
    → HasEquation b n r.left r.right → HasEquation b m q.left q.right → IsApplication q.left
    → critical_pairs r q one ≡ Ok ps → All (λ p. AreKnownEntries b p.first × AreKnownEntries b p.second) ps
pair_entries b n m r q one ps parts h k i e =
    let fs = (theory_in b).operators ++ open_constants b in
    let w = line_written b n r.left r.right h in
    let v = line_written b m q.left q.right k in
    let sorts = sorts_of_rules r q in
    let words = sorts_worded r q (w.left_worded, w.right_worded) (v.left_worded, v.right_worded) in
    all_from (λ (p : Pair). AreKnownEntries b p.first × AreKnownEntries b p.second) ps (λ p c.
    let fit = All-contains (λ (x : Pair). Fits x.first × Fits x.second) ps p
    (all_fit r q one ps w.sorts v.sorts i e) c in
    let over = All-contains (λ (x : Pair). All (λ (d : Entry). IsOver fs d.term) x.first
    × All (λ (d : Entry). IsOver fs d.term) x.second) ps p
    (all_over fs r q one ps (w.left.1, w.right.1) (v.left.1, v.right.1) e) c in
    let numbered = All-contains (IsNumberedPair sorts) ps p (all_numbered r q one ps e) c in (
      entries_known b sorts r.left r.right p.first w.stands parts words w.left_worded w.right_worded fit.0 over.0
          numbered.first (All-contains (λ (x : Pair). map variable_in x.first ≡ variables_of_both r.left r.right) ps p
          (first_variables r q one ps e) c),
      entries_known b sorts q.left q.right p.second w.stands parts words v.left_worded v.right_worded fit.1 over.1
          numbered.second (All-contains (λ (x : Pair). map variable_in x.second ≡ variables_of_both q.left q.right) ps
          p (second_variables r q one ps e) c),
    ))

pub pair_sides : (b : Builder) (n m : ℕ) (r q : Rule) (one : Bool) (ps : List Pair) → All IsPart (open_constants b)
    → HasEquation b n r.left r.right → HasEquation b m q.left q.right → IsApplication q.left
    → critical_pairs r q one ≡ Ok ps → All (λ p. Known b p.left × Known b p.right) ps
pair_sides b n m r q one ps parts h k i e =
    let fs = (theory_in b).operators ++ open_constants b in
    let w = line_written b n r.left r.right h in
    let v = line_written b m q.left q.right k in
    let sorts = sorts_of_rules r q in
    let words = sorts_worded r q (w.left_worded, w.right_worded) (v.left_worded, v.right_worded) in
    let all = operators_worded b w.stands in
    all_from (λ (p : Pair). Known b p.left × Known b p.right) ps (λ p c.
    let sorted = All-contains (λ (x : Pair). AreSorted x.left x.right) ps p
    (all_sorted r q one ps w.sorts v.sorts i e) c in
    let over = All-contains (λ (x : Pair). IsOver fs x.left × IsOver fs x.right) ps p
    (pairs_over fs r q one ps (w.left.1, w.right.1) (v.left.1, v.right.1) e) c in
    let numbered = All-contains (IsNumberedPair sorts) ps p (all_numbered r q one ps e) c in (
      term_known b sorts p.left w.stands parts all words (sorted.0, over.0) numbered.left,
      term_known b sorts p.right w.stands parts all words (sorted.1, over.1) numbered.right,
    ))
