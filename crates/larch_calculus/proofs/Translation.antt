-- Derivations are carried along a translation: by induction on them, each rule for itself.
use Rattle.std.proofs.Common.{◌≡◌, ◌≢◌, ℕ, inl, inr, List, [], ◌∷◌, ◌++◌, map, Some, All, Contains, sym, ◌∙◌, ap, subst}
use Rattle.std.specs.List.{slice_get}
use Rattle.std.proofs.lemmas.List.Elements.{All-nil, All-cons, All-map, All-weaker, All-contains}
use Rattle.larch_term.proofs.BaseLists.{map_map, map_by, pairs_map}
use Rattle.larch_term.proofs.BaseMembers.{contains_here, contains_later, contains_right}
use Rattle.larch_term.proofs.BaseMembers.{contains_either, contains_cases}
use Rattle.larch_term.proofs.BaseMembers.{contains_map, contained_in_map, got_in_map, got_contains}
use Rattle.larch_term.specs.BuiltIn.{bool_sort}
use Rattle.larch_term.specs.Operator.{PlainOperator}
use Rattle.larch_term.specs.Tree.{Tree, var, app}
use Rattle.larch_term.specs.Truth.{truth}
use Rattle.larch_term.specs.Variable.{occurrences}
use Rattle.larch_term.specs.Sorts.{sort_of, IsKnown, IsTermOver}
use Rattle.larch_term.specs.Statement.{IsStatementOver, IsWellSortedTheory, statement_zero}
use Rattle.larch_term.specs.declared.variable.Variable.{Variable}
use Rattle.larch_term.specs.declared.statement.Statement.{Statement}
use Rattle.larch_term.specs.declared.statement.Statement.TheVariants.{Equation, Generated, Partitioned}
use Rattle.larch_term.specs.declared.statement.Theory.{Theory}
use Rattle.larch_renaming.specs.Renaming.{Renaming, rename_tree, renamed_variable, renamed_entry, renamed_statement}
use Rattle.larch_renaming.specs.Renaming.{FitsSignatures, Carries}
use Rattle.larch_calculus.specs.Formula.{constant, apply_one, falsity}
use Rattle.larch_calculus.specs.Theories.{IsIncluded, AreNew, AreConstants, extend, with_statements}
use Rattle.larch_calculus.specs.Observation.{Observation, observer_term, observations_of, observations, other_variables}
use Rattle.larch_calculus.specs.Generation.{place_name, generation_hypotheses, constant_terms, equation_at}
use Rattle.larch_calculus.specs.Generation.{induction_hypotheses}
use Rattle.larch_calculus.specs.Induction.{Derived, IsClosed, by_rules}
use Rattle.larch_calculus.specs.Derivable.{Derivable, AreArguments, AreApart, axiom_, reflexive, symmetric, replace}
use Rattle.larch_calculus.specs.Derivable.{instance, equal, weaken, fresh, cases, induct, observe, generated}
use Rattle.larch_calculus.specs.Derivable.{partitioned}
use Rattle.larch_calculus.specs.Derivable as rule
use Rattle.larch_calculus.specs.Renaming.{KeepsSortsApart, IsFaithful, IsTranslation}
use Rattle.larch_calculus.specs.Freed.{free_constants}
use Rattle.larch_calculus.proofs.Names.{next_box}
use Rattle.larch_renaming.proofs.Renamed.{renamed_sort, renamed_term_over, renamed_put, renamed_occurrences}
use Rattle.larch_renaming.proofs.Renamed.{renamed_alike_over}
use Rattle.larch_renaming.proofs.RenamedStatements.{renamed_statement_over, zero_renamed, statement_alike_over}
use Rattle.larch_renaming.proofs.RenamedSubstitutions.{renamed_fits, renamed_entries_over}
use Rattle.larch_calculus.proofs.Renamed.{renamed_at, renamed_substituted, variable_back, operators_alike}
use Rattle.larch_calculus.proofs.RenamedHypotheses.{truth_renamed, falsity_renamed, equality_renamed, identity_renamed}
use Rattle.larch_calculus.proofs.RenamedHypotheses.{renamed_observation, observed_renamed, others_renamed}
use Rattle.larch_calculus.proofs.RenamedHypotheses.{observations_of_renamed, observations_renamed, generation_renamed}
use Rattle.larch_calculus.proofs.RenamedHypotheses.{constants_renamed, equation_renamed, induction_renamed}
use Rattle.larch_calculus.proofs.Sorted.{knows_more, knows_last, knows_included, known_cases, extended_well_sorted}
use Rattle.larch_calculus.proofs.Sorted.{with_statements_well_sorted, included_more, included_with, zero_over}
use Rattle.larch_calculus.proofs.Sorted.{truth_over, falsity_over, generation_over, suppositions_over}
use Rattle.larch_calculus.proofs.Observed.{partition_over}
use Rattle.larch_calculus.proofs.Extension.{with_box, Extends, box_extends, freed_renamed}
use Rattle.larch_calculus.proofs.WellSorted.{well_sorted}

-- a statement of the larger theory's own is derivable there
own : (u : Theory) (hs : List Statement) (s : Statement) → Contains hs s → IsStatementOver u.operators s
    → Derivable (with_statements u hs) s
own u hs s c w = axiom_ (contains_later statement_zero s (u.statements ++ hs) (contains_right u.statements hs s c)) w

-- a translation, with new constants and hypotheses on both sides
pub further_translation : (r further : Renaming) (t u : Theory) (cs : List PlainOperator) (hs : List Statement)
    → IsTranslation r t u
    → Extends r further t u cs → All (IsStatementOver (t.operators ++ cs)) hs
    → IsTranslation further (extend t cs hs)
    (extend u (map further.operator cs) (map (renamed_statement further) hs))
further_translation r further t u cs hs x e w =
    let ds = map further.operator cs in
    let ks = map (renamed_statement further) hs in
    let known : Carries further (t.operators ++ cs) (u.operators ++ ds) =
    λ f k. elim (known_cases t.operators cs f k) [
      | inl a ↦ subst (λ g. IsKnown (u.operators ++ ds) g) (sym (e.alike.operators f a))
          (knows_more u.operators ds (r.operator f) (x.operators f a))
      | inr c ↦ knows_last u.operators ds (further.operator f) (contains_map further.operator cs f c)
    ] in
    let over : All (IsStatementOver (u.operators ++ ds)) ks =
    All-map (IsStatementOver (u.operators ++ ds)) (renamed_statement further) hs
    (All-weaker (IsStatementOver (t.operators ++ cs))
    (λ s. IsStatementOver (u.operators ++ ds) (renamed_statement further s))
    (renamed_statement_over further (t.operators ++ cs) (u.operators ++ ds) e.faithful.signatures known) hs w) in
    record {
      source = extended_well_sorted t cs hs x.source w;
      target = extended_well_sorted u ds ks x.target over;
      faithful = e.faithful;
      operators = known;
      statements = λ s c. elim (contains_either t.statements hs s c) [
        | inl a ↦ subst (Derivable (extend u ds ks))
            (sym (statement_alike_over further r t.operators e.alike s
            (All-contains (IsStatementOver t.operators) t.statements s x.source a)))
            (weaken x.target (included_more u ds ks) (x.statements s a))
        | inr b ↦
            let c = contains_map (renamed_statement further) hs s b in
            let k = renamed_statement further s in
            axiom_ (contains_later statement_zero k (u.statements ++ ks) (contains_right u.statements ks k c))
            (All-contains (IsStatementOver (u.operators ++ ds)) ks k over c)
      ];
    }

-- a translation, with one hypothesis on both sides
translation_with : (r : Renaming) (t u : Theory) (h : Statement) → IsTranslation r t u → IsStatementOver t.operators h
    → IsTranslation r (with_statements t (h ∷ [])) (with_statements u (renamed_statement r h ∷ []))
translation_with r t u h x w =
    let k = renamed_statement r h in
    let v = renamed_statement_over r t.operators u.operators x.faithful.signatures x.operators h w in
    let given = All-cons (IsStatementOver t.operators) h [] w (All-nil (IsStatementOver t.operators)) in
    record {
      source = with_statements_well_sorted t (h ∷ []) x.source given;
      target = with_statements_well_sorted u (k ∷ []) x.target
          (All-cons (IsStatementOver u.operators) k [] v (All-nil (IsStatementOver u.operators)));
      faithful = x.faithful;
      operators = x.operators;
      statements = λ s c. elim (contains_either t.statements (h ∷ []) s c) [
        | inl a ↦ weaken x.target (included_with u (k ∷ [])) (x.statements s a)
        | inr b ↦ own u (k ∷ []) (renamed_statement r s) (contains_map (renamed_statement r) (h ∷ []) s b)
            (renamed_statement_over r t.operators u.operators x.faithful.signatures x.operators s
            (All-contains (IsStatementOver t.operators) (h ∷ []) s given b))
      ];
    }

-- a translation from a theory is one from each smaller well sorted theory
smaller_translation : (r : Renaming) (t larger u : Theory) → IsWellSortedTheory t → IsIncluded t larger
    → IsTranslation r larger u → IsTranslation r t u
smaller_translation r t larger u g i x =
    record {
      source = g;
      target = x.target;
      faithful = x.faithful;
      operators = λ f k. x.operators f (knows_included t larger i f k);
      statements = λ s c. x.statements s (i.statements s c);
    }

renamed_constants : (r : Renaming) → FitsSignatures r → (cs : List PlainOperator) → AreConstants cs
    → AreConstants (map r.operator cs)
renamed_constants r h cs k =
    All-map (λ f. f.domain ≡ []) r.operator cs
    (All-weaker (λ f. f.domain ≡ []) (λ f. (r.operator f).domain ≡ []) (λ f e. h.domain f ∙ ap (map r.sort) e) cs k)

renamed_ranges : (r : Renaming) → FitsSignatures r → (cs : List PlainOperator)
    → map (λ c. c.range) (map r.operator cs) ≡ map r.sort (map (λ c. c.range) cs)
renamed_ranges r h cs =
    map_map (λ c. c.range) r.operator cs
    ∙ map_by (λ c. (r.operator c).range) (λ c. r.sort c.range) cs (λ c _. h.range c)
    ∙ sym (map_map r.sort (λ c. c.range) cs)

-- what is asked of an induction's constants holds of them as they become
renamed_arguments : (r further : Renaming) (t u : Theory) (f g : PlainOperator) (cs : List PlainOperator)
    → Extends r further t u cs
    → further.operator f ≡ g → AreArguments t f cs → AreArguments u g (map further.operator cs)
renamed_arguments r further t u f g cs e i a =
    let h = e.faithful.signatures in
    record {
      new = e.names;
      constants = renamed_constants further h cs a.constants;
      sorts = renamed_ranges further h cs ∙ ap (map further.sort) a.sorts ∙ sym (h.domain f) ∙ ap (λ o. o.domain) i;
    }

-- the equation of an induction's case
renamed_case : (r further : Renaming) (t u : Theory) (x s : List ℕ) (a b : Tree) (f g : PlainOperator)
    (cs : List PlainOperator)
    → Extends r further t u cs → IsStatementOver t.operators (Equation a b) → further.operator f ≡ g
    → renamed_statement further (equation_at x s a b (app f (constant_terms cs)))
    ≡ equation_at x (r.sort s) (rename_tree r a) (rename_tree r b) (app g (constant_terms (map further.operator cs)))
renamed_case r further t u x s a b f g cs e w i =
    equation_renamed further e.faithful.apart x s a b (app f (constant_terms cs))
    ∙ (λ j. equation_at x (e.alike.sorts s j) (renamed_alike_over further r t.operators e.alike a w.0.1 j)
    (renamed_alike_over further r t.operators e.alike b w.1.1 j) (app (i j) (constants_renamed further cs j)))

renamed_suppositions : (r further : Renaming) (t u : Theory) (x s : List ℕ) (a b : Tree) (cs : List PlainOperator)
    → Extends r further t u cs → IsStatementOver t.operators (Equation a b)
    → map (renamed_statement further) (induction_hypotheses x s a b cs)
    ≡ induction_hypotheses x (r.sort s) (rename_tree r a) (rename_tree r b) (map further.operator cs)
renamed_suppositions r further t u x s a b cs e w =
    induction_renamed further e.faithful x s a b cs
    ∙ (λ j. induction_hypotheses x (e.alike.sorts s j) (renamed_alike_over further r t.operators e.alike a w.0.1 j)
    (renamed_alike_over further r t.operators e.alike b w.1.1 j) (map further.operator cs))

-- a variable that doesn't occur becomes one that doesn't
renamed_absent : (r : Renaming) → KeepsSortsApart r → (vs : List Variable) (a : Tree)
    → All (λ v. Contains (occurrences a) v → ⊥) vs
    → All (λ v. Contains (occurrences (rename_tree r a)) v → ⊥) (map (renamed_variable r) vs)
renamed_absent r k vs a h =
    All-map (λ v. Contains (occurrences (rename_tree r a)) v → ⊥) (renamed_variable r) vs
    (All-weaker (λ v. Contains (occurrences a) v → ⊥)
    (λ v. Contains (occurrences (rename_tree r a)) (renamed_variable r v) → ⊥)
    (λ v absent c.
    let p = contained_in_map (renamed_variable r) (occurrences a) (renamed_variable r v)
    (subst (λ us. Contains us (renamed_variable r v)) (renamed_occurrences r a) c) in
    absent (subst (Contains (occurrences a)) (variable_back r k p.0 v p.2) p.1)) vs h)

renamed_apart : (r : Renaming) → KeepsSortsApart r → (vs : List Variable) (a b : Tree) → AreApart vs a b
    → AreApart (map (renamed_variable r) vs) (rename_tree r a) (rename_tree r b)
renamed_apart r k vs a b h =
    record {
      different =
          pairs_map (λ v w. v ≢ w) (λ v w. v ≢ w) (renamed_variable r) vs
          (λ v w _ _ n e. n (variable_back r k v w e)) h.different;
      left = renamed_absent r k vs a h.left;
      right = renamed_absent r k vs b h.right;
    }

got_observation : (r : Renaming) → IsFaithful r → (s : List ℕ) (os : List PlainOperator) (i : ℕ) (w : Observation)
    → slice_get (observations_of (r.sort s) (map r.operator os)) i ≡ Some w
    → (v : Observation) × (slice_get (observations_of s os) i ≡ Some v) × (renamed_observation r v ≡ w)
got_observation r h s os i w e =
    got_in_map (renamed_observation r) (observations_of s os) i w
    (ap (λ ws. slice_get ws i) (sym (observations_of_renamed r h s os)) ∙ e)

-- what is stated is derivable, as it becomes, from each theory that its own is translated to
abbrev IsCarried : Theory → Statement → Type 0
IsCarried t s = (r : Renaming) (u : Theory) → IsTranslation r t u → Derivable u (renamed_statement r s)

stated_carried : (t : Theory) (s : Statement) → Contains (statement_zero ∷ t.statements) s → IsCarried t s
stated_carried t s c r u x =
    elim (contains_cases statement_zero s t.statements c) [
      | inl e ↦ subst (Derivable u) (sym (zero_renamed r x.faithful.built_in) ∙ ap (renamed_statement r) e)
          (axiom_ (contains_here statement_zero u.statements) (zero_over u.operators))
      | inr d ↦ x.statements s d
    ]

fresh_carried : (t : Theory) (a b c d : Tree) (cs : List PlainOperator) (vs : List Variable) → AreNew t cs
    → AreConstants cs
    → map (λ f. f.range) cs ≡ map (λ v. v.sort) vs → Derived IsCarried (extend t cs []) (Equation a b)
    → c ≡ free_constants cs vs a → d ≡ free_constants cs vs b → IsCarried t (Equation c d)
fresh_carried t a b c d cs vs n k e y p q r u x =
    let further = with_box r cs (next_box u.operators) in
    let z = box_extends r t u cs x.faithful x.operators n in
    let w = well_sorted y.0 in
    let us = map (renamed_variable r) vs in
    let sorts : map (λ f. f.range) (map further.operator cs) ≡ map (λ v. v.sort) us =
    renamed_ranges further z.faithful.signatures cs ∙ ap (map r.sort) e ∙ map_map r.sort (λ v. v.sort) vs
    ∙ sym (map_map (λ v. v.sort) (renamed_variable r) vs) in
    fresh (map further.operator cs) us z.names (renamed_constants further z.faithful.signatures cs k) sorts
    (y.1 further (extend u (map further.operator cs) [])
    (further_translation r further t u cs [] x z (All-nil (IsStatementOver (t.operators ++ cs)))))
    (ap (rename_tree r) p ∙ freed_renamed r further t u cs vs z n e a w.0.1)
    (ap (rename_tree r) q ∙ freed_renamed r further t u cs vs z n e b w.1.1)

cases_carried : (t : Theory) (a b f : Tree) → IsTermOver t.operators f → sort_of f ≡ bool_sort → occurrences f ≡ []
    → Derived IsCarried (with_statements t (Equation f truth ∷ [])) (Equation a b)
    → Derived IsCarried (with_statements t (Equation f falsity ∷ [])) (Equation a b) → IsCarried t (Equation a b)
cases_carried t a b f w s o d e r u x =
    let h = x.faithful in
    let g = rename_tree r f in
    let goal : Tree → Type 0 =
    λ z. Derivable (with_statements u (Equation g z ∷ [])) (Equation (rename_tree r a) (rename_tree r b)) in
    cases g (renamed_term_over r t.operators u.operators h.signatures x.operators f w)
    (renamed_sort r h.signatures f ∙ ap r.sort s ∙ h.built_in.truth_values)
    (renamed_occurrences r f ∙ ap (map (renamed_variable r)) o)
    (subst goal (truth_renamed r h.built_in)
    (d.1 r (with_statements u (renamed_statement r (Equation f truth) ∷ []))
    (translation_with r t u (Equation f truth) x (w, (truth_over t.operators).0, s))))
    (subst goal (falsity_renamed r h.built_in)
    (e.1 r (with_statements u (renamed_statement r (Equation f falsity) ∷ []))
    (translation_with r t u (Equation f falsity) x (w, (falsity_over t.operators).0, s))))

induction_carried : (t : Theory) (a b : Tree) (x s : List ℕ) (fs : List PlainOperator) (cs : ℕ → List PlainOperator)
    → Derived IsCarried t (Generated s fs) → IsStatementOver t.operators (Equation a b)
    → ((i : ℕ) (f : PlainOperator) → slice_get fs i ≡ Some f → AreArguments t f (cs i))
    → ((i : ℕ) (f : PlainOperator) → slice_get fs i ≡ Some f
    → Derived IsCarried (extend t (cs i) (induction_hypotheses x s a b (cs i)))
    (equation_at x s a b (app f (constant_terms (cs i)))))
    → IsCarried t (Equation a b)
induction_carried t a b x s fs cs d w k h r u tr =
    let further : ℕ → Renaming = λ i. with_box r (cs i) (next_box u.operators) in
    let ds : ℕ → List PlainOperator = λ i. map (further i).operator (cs i) in
    let got : (i : ℕ) (g : PlainOperator) → slice_get (map r.operator fs) i ≡ Some g
    → (f : PlainOperator) × (slice_get fs i ≡ Some f) × (r.operator f ≡ g) =
    λ i g e. got_in_map r.operator fs i g e in
    let more : (i : ℕ) (f : PlainOperator) → slice_get fs i ≡ Some f → Extends r (further i) t u (cs i) =
    λ i f e. box_extends r t u (cs i) tr.faithful tr.operators (k i f e).new in
    let becomes : (i : ℕ) (f g : PlainOperator) → slice_get fs i ≡ Some f → r.operator f ≡ g
    → (further i).operator f ≡ g =
    λ i f g e j.
    (more i f e).alike.operators f
    (All-contains (λ g. IsKnown t.operators g × (g.range ≡ s)) fs f (well_sorted d.0) (got_contains fs i f e)).0
    ∙ j in
    induct x (r.sort s) (map r.operator fs) ds (d.1 r u tr)
    (renamed_statement_over r t.operators u.operators tr.faithful.signatures tr.operators (Equation a b) w)
    (λ i g e.
    let p = got i g e in
    renamed_arguments r (further i) t u p.0 g (cs i) (more i p.0 p.1) (becomes i p.0 g p.1 p.2) (k i p.0 p.1))
    (λ i g e.
    let p = got i g e in
    let y = more i p.0 p.1 in
    let hs = induction_hypotheses x s a b (cs i) in
    let ks = map (renamed_statement (further i)) hs in
    subst (λ z. Derivable (extend u (ds i) z)
    (equation_at x (r.sort s) (rename_tree r a) (rename_tree r b) (app g (constant_terms (ds i)))))
    (renamed_suppositions r (further i) t u x s a b (cs i) y w)
    (subst (Derivable (extend u (ds i) ks))
    (renamed_case r (further i) t u x s a b p.0 g (cs i) y w (becomes i p.0 g p.1 p.2))
    ((h i p.0 p.1).1 (further i) (extend u (ds i) ks)
    (further_translation r (further i) t u (cs i) hs tr y
    (suppositions_over t x s a b (cs i) w (k i p.0 p.1).constants)))))

observation_carried : (t : Theory) (a b : Tree) (s : List ℕ) (os : List PlainOperator) (names : ℕ → ℕ → List ℕ)
    → Derived IsCarried t (Partitioned s os) → IsStatementOver t.operators (Equation a b) → sort_of a ≡ s
    →
    ((i : ℕ) (w : Observation) → slice_get (observations_of s os) i ≡ Some w
    → AreApart (other_variables (names i) w) a b)
    → ((i : ℕ) (w : Observation) → slice_get (observations_of s os) i ≡ Some w
    → Derived IsCarried t (Equation (observer_term (names i) w a) (observer_term (names i) w b)))
    → IsCarried t (Equation a b)
observation_carried t a b s os names d w e k h r u x =
    let f = x.faithful in
    observe (r.sort s) (map r.operator os) names (d.1 r u x)
    (renamed_statement_over r t.operators u.operators f.signatures x.operators (Equation a b) w)
    (renamed_sort r f.signatures a ∙ ap r.sort e)
    (λ i v c.
    let p = got_observation r f s os i v c in
    subst (λ z. AreApart (other_variables (names i) z) (rename_tree r a) (rename_tree r b)) p.2
    (subst (λ vs. AreApart vs (rename_tree r a) (rename_tree r b)) (sym (others_renamed r f.signatures (names i) p.0))
    (renamed_apart r f.apart (other_variables (names i) p.0) a b (k i p.0 p.1))))
    (λ i v c.
    let p = got_observation r f s os i v c in
    subst
    (λ z. Derivable u (Equation (observer_term (names i) z (rename_tree r a))
    (observer_term (names i) z (rename_tree r b)))) p.2
    (subst (Derivable u)
    (λ j. Equation (observed_renamed r f.signatures (names i) p.0 a j)
    (observed_renamed r f.signatures (names i) p.0 b j))
    ((h i p.0 p.1).1 r u x)))

generation_carried : (t : Theory) (s : List ℕ) (fs : List PlainOperator) (p : PlainOperator) (x : List ℕ)
    → IsStatementOver t.operators (Generated s fs) → AreNew t (p ∷ []) → p.domain ≡ s ∷ [] → p.range ≡ bool_sort
    → Derived IsCarried (extend t (p ∷ []) (generation_hypotheses p s fs)) (Equation (apply_one p (var x s)) truth)
    → IsCarried t (Generated s fs)
generation_carried t s fs p x w n d e h r u tr =
    let cs = p ∷ [] in
    let further = with_box r cs (next_box u.operators) in
    let y = box_extends r t u cs tr.faithful tr.operators n in
    let f = y.faithful in
    let q = further.operator p in
    let hs = generation_hypotheses p s fs in
    let ks = map (renamed_statement further) hs in
    let known : (g : PlainOperator) → Contains fs g → IsKnown t.operators g =
    λ g c. (All-contains (λ g. IsKnown t.operators g × (g.range ≡ s)) fs g w c).0 in
    let renaming : ks ≡ generation_hypotheses q (r.sort s) (map r.operator fs) =
    generation_renamed further f p s fs
    ∙ ap (generation_hypotheses q (r.sort s)) (operators_alike further r t.operators y.alike fs known) in
    generated q x
    (renamed_statement_over r t.operators u.operators tr.faithful.signatures tr.operators (Generated s fs) w) y.names
    (f.signatures.domain p ∙ ap (map r.sort) d) (f.signatures.range p ∙ ap r.sort e ∙ f.built_in.truth_values)
    (subst (λ z. Derivable (extend u (q ∷ []) z) (Equation (apply_one q (var x (r.sort s))) truth)) renaming
    (subst (λ z. Derivable (extend u (q ∷ []) ks) (Equation (apply_one q (var x (r.sort s))) z))
    (truth_renamed further f.built_in)
    (h.1 further (extend u (q ∷ []) ks)
    (further_translation r further t u cs hs tr y (generation_over t p s fs w d e)))))

partition_carried : (t : Theory) (s : List ℕ) (os : List PlainOperator) (c d : PlainOperator)
    → IsStatementOver t.operators (Partitioned s os) → AreNew t (c ∷ d ∷ []) → AreConstants (c ∷ d ∷ [])
    → c.range ≡ s → d.range ≡ s
    → Derived IsCarried (extend t (c ∷ d ∷ []) (observations place_name s os (constant c) (constant d)))
    (Equation (constant c) (constant d))
    → IsCarried t (Partitioned s os)
partition_carried t s os c d w n k e f h r u x =
    let cs = c ∷ d ∷ [] in
    let further = with_box r cs (next_box u.operators) in
    let y = box_extends r t u cs x.faithful x.operators n in
    let g = y.faithful in
    let p = further.operator c in
    let q = further.operator d in
    let hs = observations place_name s os (constant c) (constant d) in
    let ks = map (renamed_statement further) hs in
    let known : (o : PlainOperator) → Contains os o → IsKnown t.operators o =
    λ o i. (All-contains (λ g. IsKnown t.operators g × Contains g.domain s) os o w i).0 in
    let renaming : ks ≡ observations place_name (r.sort s) (map r.operator os) (constant p) (constant q) =
    observations_renamed further g place_name s os (constant c) (constant d)
    ∙ ap (λ gs. observations place_name (r.sort s) gs (constant p) (constant q))
    (operators_alike further r t.operators y.alike os known) in
    partitioned p q
    (renamed_statement_over r t.operators u.operators x.faithful.signatures x.operators (Partitioned s os) w) y.names
    (renamed_constants further g.signatures cs k) (g.signatures.range c ∙ ap r.sort e)
    (g.signatures.range d ∙ ap r.sort f)
    (subst (λ z. Derivable (extend u (p ∷ q ∷ []) z) (Equation (constant p) (constant q))) renaming
    (h.1 further (extend u (p ∷ q ∷ []) ks)
    (further_translation r further t u cs hs x y (partition_over t place_name s os c d w k e f))))

-- each rule is one of what its statements become
rules_carried : IsClosed IsCarried
rules_carried =
    record {
      axiom_ = λ t s c w. stated_carried t s c;
      identity = λ t a b i r u x. rule.identity (identity_renamed r x.faithful.built_in i);
      reflexive =
          λ t a w r u x. reflexive (renamed_term_over r t.operators u.operators x.faithful.signatures x.operators a w);
      symmetric = λ t a b d r u x. symmetric (d.1 r u x);
      replace = λ t a b c v w p d e h i r u x.
          replace p (d.1 r u x) (e.1 r u x) (renamed_at r b p v h) (ap (rename_tree r) i ∙ renamed_put r b p w);
      instance = λ t a b c d es f o e p q r u x.
          instance (map (renamed_entry r) es) (renamed_fits r x.faithful.signatures es f)
          (renamed_entries_over r t.operators u.operators x.operators es o) (e.1 r u x)
          (ap (rename_tree r) p ∙ renamed_substituted r x.faithful.apart es a)
          (ap (rename_tree r) q ∙ renamed_substituted r x.faithful.apart es b);
      equal = λ t a b s d r u x.
          let k = x.faithful.built_in in
          equal (r.sort s) (subst (Derivable u) (λ i. Equation (equality_renamed r k s a b i) (truth_renamed r k i))
          (d.1 r u x));
      weaken = λ t v s g i d r u x. d.1 r u (smaller_translation r v t u g i x);
      fresh = fresh_carried;
      cases = cases_carried;
      induct = induction_carried;
      observe = observation_carried;
      generated = generation_carried;
      partitioned = partition_carried;
    }

-- what is derivable from a theory is derivable, as it becomes, from the one that it is translated to
pub translated : {t : Theory} {s : Statement} → Derivable t s → (r : Renaming) (u : Theory) → IsTranslation r t u
    → Derivable u (renamed_statement r s)
translated d = by_rules IsCarried rules_carried d
