-- What can be written in a box before it is open: terms with the box's own constants, and what they suppose.
use Rattle.std.proofs.Common.{◌≡◌, inl, inr, ℕ, suc, cond, List, [], ◌∷◌, ◌++◌, map, All, Contains, bytes_eq, refl, sym}
use Rattle.std.proofs.Common.{◌∙◌, ap, subst}
use Rattle.std.proofs.lemmas.List.{map-append}
use Rattle.std.proofs.lemmas.List.Elements.{All-nil, All-cons, All-head, All-tail, All-map, All-push, All-weaker}
use Rattle.std.proofs.lemmas.List.Elements.{All-contains}
use Rattle.std.proofs.lemmas.Slice.Eq.{bytes_eq-Decides}
use Rattle.larch_base.proofs.Bools.{true_or_false}
use Rattle.larch_base.proofs.Lists.{all_from}
use Rattle.larch_base.proofs.Members.{contains_either, contains_right, contains_here}
use Rattle.larch_term.specs.BuiltIn.{bool_sort}
use Rattle.larch_term.specs.Operator.{PlainOperator}
use Rattle.larch_term.specs.Sorts.{sort_of, WellSorted, IsOver, IsKnown, IsTermOver}
use Rattle.larch_term.specs.Statement.{IsStatementOver}
use Rattle.larch_term.specs.Substitution.{instance_of, Fits}
use Rattle.larch_term.specs.Tree.{Tree}
use Rattle.larch_term.specs.Truth.{truth}
use Rattle.larch_term.specs.declared.statement.Statement.{Statement}
use Rattle.larch_term.specs.declared.statement.Statement.TheVariants.{Equation, Generated, Partitioned}
use Rattle.larch_term.specs.declared.statement.Theory.{Theory}
use Rattle.larch_term.specs.declared.substitution.Entry.{Entry}
use Rattle.larch_verify_law.proofs.TermLawSubstitutions.{substituted_sort, substituted_well_sorted, substituted_over}
use Rattle.larch_verify_law.specs.RenamingRenaming.{renamed_entry, Carries}
use Rattle.larch_verify_law.proofs.RenamingRenamed.{renamed_term_over}
use Rattle.larch_verify_law.specs.CalculusFormula.{constant}
use Rattle.larch_verify_law.specs.CalculusGeneration.{only, equation_at, place_name}
use Rattle.larch_verify_law.specs.CalculusGeneration.{induction_hypotheses, generation_formula}
use Rattle.larch_verify_law.specs.CalculusGeneration.{generation_hypotheses}
use Rattle.larch_verify_law.specs.CalculusObservation.{observer_term, observations_of, observations}
use Rattle.larch_verify_law.specs.CalculusRenaming.{HasPlainNames}
use Rattle.larch_verify_law.specs.CalculusTheories.{AreConstants}
use Rattle.larch_verify_law.proofs.CalculusObserved.{observations_over}
use Rattle.larch_verify_law.proofs.CalculusRenamed.{renamed_substituted}
use Rattle.larch_verify_law.proofs.CalculusSorted.{generation_over, knows_more, only_fits}
use Rattle.larch_verify_law.specs.VerifyMeaningEvents.{Event, Opened, State, start}
use Rattle.larch_derive.specs.declared.builder.Builder.{Builder}
use Rattle.larch_derive.specs.declared.open_box.OpenBox.{OpenBox}
use Rattle.larch_derive.specs.Builder.{shape_of}
use Rattle.larch_derive.specs.OpenBox.{naming}
use Rattle.larch_derive.specs.Predicates.{AreOthers, shapes_of, written_term, written_statement, StandIn, KnownIn}
use Rattle.larch_derive.specs.Predicates.{HasNoBadLine, Known}
use Rattle.larch_derive.proofs.Growth.{known_stands}
use Rattle.larch_derive.proofs.Pushing.{one_state}
use Rattle.larch_derive.proofs.Words.{instance_worded}
use Rattle.larch_derive.specs.Words.{IsWordedOperator, AreWordedOperators, IsWordedTerm, IsWordedStatement}
use Rattle.larch_derive.specs.Words.{AreWordedStatements}
use Rattle.larch_derive_boxes.proofs.Words.{constant_worded, generation_worded, observations_worded}
use Rattle.larch_derive.proofs.Runs.{down_run}
use Rattle.larch_derive.proofs.Unchanged.{own_in_lines, known_in_boxes, naming_faithful}
use Rattle.larch_derive_boxes.specs.Boxes.{box_of, operators_inside, IsEquation, IsPart, KnownInsideIn, KnownInside}
use Rattle.larch_derive_boxes.specs.Boxes.{AreKnownInside, MaySuppose, Opens}
use Rattle.larch_derive_boxes.proofs.Freshness.{sort_written}
use Rattle.larch_derive_boxes.proofs.Knowing.{part_there}
use Rattle.larch_derive_boxes.proofs.Opening.{moved, stand_inside}
use Rattle.larch_derive_boxes.proofs.Renaming.{inside_over}

-- ---- terms

pub known_outside : (a : Builder) (x : OpenBox) (t : Tree) → AreOthers a.theory x.constants → Known a t
    → KnownInside a x t
unfolding Known KnownInside
known_outside a x t o (st, k) = (
  st,
  record {
    stand = k.stand;
    over = (inside_over a.theory k.stand.plain st.history st.count a.boxes x
        (down_run a.theory a.lines start st k.stand.runs tt) o (Equation t t) (k.over, k.over, refl)).0;
    words = k.words;
  },
)

inside_others : (t : Theory) (bs : List OpenBox) (x : OpenBox) → All (λ y. AreOthers t y.constants) bs
    → AreOthers t x.constants → All (λ y. AreOthers t y.constants) (bs ++ x ∷ [])
inside_others t bs x h o = All-push (λ y. AreOthers t y.constants) bs x h o

-- the theory's own operators and the box's constants are known inside, as they are written there
inside_carries : (t : Theory) (bs : List OpenBox) (h : List Event) (x : OpenBox) → HasPlainNames t
    → All (λ y. AreOthers t y.constants) bs → shapes_of h ≡ map shape_of bs → AreOthers t x.constants
    → All IsPart x.constants → Carries (naming (bs ++ x ∷ [])) (t.operators ++ x.constants) (operators_inside t h x)
inside_carries t bs h x p others opened o parts f (inr b) =
    let xs = bs ++ x ∷ [] in
    subst (IsKnown (operators_inside t h x)) (sym (own_in_lines t xs f p (inside_others t bs x others o) (inr b)))
    (known_in_boxes t (Opened (box_of x []) ∷ h) f (inr b))
inside_carries t bs h x p others opened o parts f (inl c) =
    let xs = bs ++ x ∷ [] in
    elim (contains_either t.operators x.constants f c) [
      | inl d ↦
          subst (IsKnown (operators_inside t h x)) (sym (own_in_lines t xs f p (inside_others t bs x others o) (inl d)))
          (known_in_boxes t (Opened (box_of x []) ∷ h) f (inl d))
      | inr d ↦
          inl (part_there t xs (Opened (box_of x []) ∷ h)
          (ap (λ y. y ++ shape_of x ∷ []) opened ∙ sym (map-append shape_of bs (x ∷ [])))
          x f (contains_right bs (x ∷ []) x (contains_here x [])) d (All-contains IsPart x.constants f parts d))
    ]

pub known_own : (a : Builder) (x : OpenBox) (t : Tree) → HasNoBadLine a → AreOthers a.theory x.constants
    → All IsPart x.constants → IsTermOver (a.theory.operators ++ x.constants) t → IsWordedTerm t → KnownInside a x t
unfolding HasNoBadLine KnownInside
known_own a x t (st, h) o parts w ws =
    let xs = a.boxes ++ x ∷ [] in
    let faithful = naming_faithful a.theory xs h.plain (inside_others a.theory a.boxes x h.others o) in (
      st,
      record {
        stand = h;
        over =
            renamed_term_over (naming xs) (a.theory.operators ++ x.constants) (operators_inside a.theory st.history x)
            faithful.signatures
            (inside_carries a.theory a.boxes st.history x h.plain h.others h.opened o parts) t w;
        words = ws;
      },
    )

known_inside_at : (a : Builder) (x : OpenBox) (st : State) (t : Tree) → StandIn a.theory a.boxes a.lines st
    → KnownInside a x t → KnownInsideIn a.theory a.boxes a.lines st x t
unfolding KnownInside
known_inside_at a x st t h (su, k) =
    subst (λ z. KnownInsideIn a.theory a.boxes a.lines z x t) (one_state a.theory a.lines st su h.runs k.stand.runs) k

pub known_replaced : (a : Builder) (x : OpenBox) (es : List Entry) (t : Tree) → KnownInside a x t
    → AreKnownInside a x es → KnownInside a x (instance_of es t)
unfolding KnownInside
known_replaced a x es t (st, k) w =
    let xs = a.boxes ++ x ∷ [] in
    let fs = operators_inside a.theory st.history x in
    let ds = map (renamed_entry (naming xs)) es in
    let P : Entry → Type 0 = λ e. KnownInside a x e.term × (sort_of e.term ≡ e.sort) in
    let fit : Fits ds =
    All-map (λ e. WellSorted e.term × (sort_of e.term ≡ e.sort)) (renamed_entry (naming xs)) es
    (All-weaker P (λ e. WellSorted (written_term xs e.term) × (sort_of (written_term xs e.term) ≡ e.sort))
    (λ e p. ((known_inside_at a x st e.term k.stand p.0).over.0, sort_written xs e.term ∙ p.1)) es w) in
    let over : All (λ e. IsOver fs e.term) ds =
    All-map (λ e. IsOver fs e.term) (renamed_entry (naming xs)) es
    (All-weaker P (λ e. IsOver fs (written_term xs e.term))
    (λ e p. (known_inside_at a x st e.term k.stand p.0).over.1) es w) in (
      st,
      record {
        stand = k.stand;
        over = subst (IsTermOver fs) (sym (renamed_substituted (naming xs) (λ s z e. e) es t)) (
          substituted_well_sorted ds (written_term xs t) fit k.over.0,
          substituted_over fs ds (written_term xs t) over k.over.1,
        );
        words = instance_worded es t
            (All-weaker P (λ e. IsWordedTerm e.term) (λ e p. (known_inside_at a x st e.term k.stand p.0).words) es w)
            k.words;
      },
    )

pub opened_known_inside : (a b : Builder) (x : OpenBox) (hs : List Statement) (t : Tree) → Opens a b x hs
    → KnownInside a x t → Known b t
unfolding Opens KnownInside Known
opened_known_inside a b x hs t o (st, k) =
    moved (λ y ys ls. (v : State) × KnownIn y ys ls v t) a b x o.theory o.boxes (
      record {
        count = suc st.count;
        history = Opened (box_of x (map (written_statement (a.boxes ++ x ∷ [])) hs)) ∷ st.history;
      },
      record {
        stand = stand_inside a.theory a.boxes a.lines b.lines st x hs k.stand o.box;
        over = k.over;
        words = k.words;
      },
    )

-- ---- statements

pub may_suppose_inside : (a : Builder) (x : OpenBox) (l r : Tree) → KnownInside a x l → KnownInside a x r
    → sort_of l ≡ sort_of r → MaySuppose a x (Equation l r)
unfolding KnownInside MaySuppose
may_suppose_inside a x l r (st, k) m e =
    let n = known_inside_at a x st r k.stand m in
    let xs = a.boxes ++ x ∷ [] in (
      st,
      record {
        stand = k.stand;
        equation = tt;
        over = (k.over, n.over, sort_written xs l ∙ e ∙ sym (sort_written xs r));
        words = (k.words, n.words);
      },
    )

pub may_suppose_own : (a : Builder) (x : OpenBox) (s : Statement) → HasNoBadLine a → AreOthers a.theory x.constants
    → All IsPart x.constants → IsEquation s → IsStatementOver (a.theory.operators ++ x.constants) s
    → IsWordedStatement s → MaySuppose a x s
may_suppose_own a x (Equation l r) h o parts e w ws =
    may_suppose_inside a x l r (known_own a x l h o parts w.0 ws.0) (known_own a x r h o parts w.1 ws.1) w.2
may_suppose_own a x (Generated s fs) h o parts e w ws = absurd e
may_suppose_own a x (Partitioned s fs) h o parts e w ws = absurd e

-- ---- hypotheses of inductions

constants_are_parts : (cs : List PlainOperator) → AreConstants cs → All IsPart cs
constants_are_parts cs h = All-weaker (λ c. c.domain ≡ []) IsPart (λ c e. inl e) cs h

case_supposed : (a : Builder) (x : OpenBox) (v s : List ℕ) (l r : Tree) (c : PlainOperator) → KnownInside a x l
    → KnownInside a x r → sort_of l ≡ sort_of r → KnownInside a x (constant c) → c.domain ≡ [] → c.range ≡ s
    → MaySuppose a x (equation_at v s l r (constant c))
case_supposed a x v s l r c kl kr e k d q =
    let es = only v s (constant c) in
    let P : Entry → Type 0 = λ e. KnownInside a x e.term × (sort_of e.term ≡ e.sort) in
    let known : AreKnownInside a x es =
    All-cons P (record { name = v; sort = s; term = constant c }) [] (k, q) (All-nil P) in
    let fit = only_fits v s (constant c) (sym d, tt) q in
    may_suppose_inside a x (instance_of es l) (instance_of es r) (known_replaced a x es l kl known)
    (known_replaced a x es r kr known) (substituted_sort es l fit ∙ e ∙ sym (substituted_sort es r fit))

cases_supposed : (a : Builder) (x : OpenBox) (v s : List ℕ) (l r : Tree) → KnownInside a x l → KnownInside a x r
    → sort_of l ≡ sort_of r → (cs : List PlainOperator)
    → All (λ c. KnownInside a x (constant c) × (c.domain ≡ [])) cs
    → All (MaySuppose a x) (induction_hypotheses v s l r cs)
cases_supposed a x v s l r kl kr e [] h = All-nil (MaySuppose a x)
cases_supposed a x v s l r kl kr e (c ∷ cs) h =
    let Q : PlainOperator → Type 0 = λ c. KnownInside a x (constant c) × (c.domain ≡ []) in
    let rest = cases_supposed a x v s l r kl kr e cs (All-tail Q c cs h) in
    let own = All-head Q c cs h in
    let more = equation_at v s l r (constant c) ∷ induction_hypotheses v s l r cs in
    elim (true_or_false (bytes_eq c.range s)) [
      | inl q ↦
          subst (λ b. All (MaySuppose a x) (cond b more (induction_hypotheses v s l r cs))) (sym q)
          (All-cons (MaySuppose a x) (equation_at v s l r (constant c)) (induction_hypotheses v s l r cs)
          (case_supposed a x v s l r c kl kr e own.0 own.1 ((bytes_eq-Decides c.range s).0 q)) rest)
      | inr q ↦ subst (λ b. All (MaySuppose a x) (cond b more (induction_hypotheses v s l r cs))) (sym q) rest
    ]

pub induction_supposed : (a : Builder) (x : OpenBox) (v s : List ℕ) (l r : Tree) → AreOthers a.theory x.constants
    → AreConstants x.constants → Known a l → Known a r → sort_of l ≡ sort_of r → AreWordedOperators x.constants
    → All (MaySuppose a x) (induction_hypotheses v s l r x.constants)
induction_supposed a x v s l r o k kl kr e ws =
    cases_supposed a x v s l r (known_outside a x l o kl) (known_outside a x r o kr) e x.constants
    (all_from (λ c. KnownInside a x (constant c) × (c.domain ≡ [])) x.constants
    (λ c d.
    let q = All-contains (λ c. c.domain ≡ []) x.constants c k d in (
      known_own a x (constant c) (known_stands a l kl) o (constants_are_parts x.constants k)
          ((sym q, tt), (inl (contains_right a.theory.operators x.constants c d), tt))
          (All-contains IsWordedOperator x.constants c ws d, tt),
      q,
    )))

-- ---- hypotheses of clauses

equations_supposed : (a : Builder) (x : OpenBox) → HasNoBadLine a → AreOthers a.theory x.constants
    → All IsPart x.constants
    → (hs : List Statement) → All IsEquation hs → All (IsStatementOver (a.theory.operators ++ x.constants)) hs
    → AreWordedStatements hs → All (MaySuppose a x) hs
equations_supposed a x h o parts [] e w ws = All-nil (MaySuppose a x)
equations_supposed a x h o parts (s ∷ hs) e w ws =
    let fs = a.theory.operators ++ x.constants in
    All-cons (MaySuppose a x) s hs
    (may_suppose_own a x s h o parts (All-head IsEquation s hs e) (All-head (IsStatementOver fs) s hs w)
    (All-head IsWordedStatement s hs ws))
    (equations_supposed a x h o parts hs (All-tail IsEquation s hs e) (All-tail (IsStatementOver fs) s hs w)
    (All-tail IsWordedStatement s hs ws))

pub generation_supposed : (a : Builder) (x : OpenBox) (p : PlainOperator) (s : List ℕ) (fs : List PlainOperator)
    → HasNoBadLine a → AreOthers a.theory x.constants → x.constants ≡ p ∷ [] → p.domain ≡ s ∷ [] → p.range ≡ bool_sort
    → IsStatementOver a.theory.operators (Generated s fs) → IsWordedStatement (Generated s fs)
    → All (MaySuppose a x) (generation_hypotheses p s fs)
generation_supposed a x p s fs h o e d r w ws =
    equations_supposed a x h o (subst (All IsPart) (sym e) (All-cons IsPart p [] (inr (s, d, r)) (All-nil IsPart)))
    (generation_hypotheses p s fs)
    (All-map IsEquation (λ f. Equation (generation_formula p s f) truth) fs (λ k d lt. tt))
    (subst (λ cs. All (IsStatementOver (a.theory.operators ++ cs)) (generation_hypotheses p s fs)) (sym e)
    (generation_over a.theory p s fs w d r)) (generation_worded p s fs d r ws)

pub observations_supposed : (a : Builder) (x : OpenBox) (c d : PlainOperator) (s : List ℕ) (os : List PlainOperator)
    → HasNoBadLine a → AreOthers a.theory x.constants → AreConstants x.constants → Contains x.constants c
    → Contains x.constants d → c.range ≡ s → d.range ≡ s → IsStatementOver a.theory.operators (Partitioned s os)
    → IsWordedStatement (Partitioned s os)
    → All (MaySuppose a x) (observations place_name s os (constant c) (constant d))
observations_supposed a x c d s os h o k mc md rc rd w ws =
    let fs = a.theory.operators ++ x.constants in
    let over : (c : PlainOperator) → Contains x.constants c → IsTermOver fs (constant c) =
    λ c m. (
      (sym (All-contains (λ c. c.domain ≡ []) x.constants c k m), tt),
      (inl (contains_right a.theory.operators x.constants c m), tt),
    ) in
    let worded : (c : PlainOperator) → Contains x.constants c → c.range ≡ s → IsWordedOperator c =
    λ c m r. constant_worded c s (All-contains (λ c. c.domain ≡ []) x.constants c k m) r ws.0 in
    equations_supposed a x h o (constants_are_parts x.constants k)
    (observations place_name s os (constant c) (constant d))
    (All-map IsEquation (λ w. Equation (observer_term place_name w (constant c))
    (observer_term place_name w (constant d)))
    (observations_of s os) (λ k d lt. tt))
    (observations_over fs place_name s os (constant c) (constant d)
    (λ q m. knows_more a.theory.operators x.constants q
    (All-contains (λ g. IsKnown a.theory.operators g × Contains g.domain s) os q w m).0)
    (over c mc) rc (over d md) rd)
    (observations_worded s os (constant c) (constant d) ws.1 (worded c mc rc, tt) (worded d md rd, tt))
