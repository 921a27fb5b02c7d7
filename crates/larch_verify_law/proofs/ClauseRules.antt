-- What rules say of clauses is derivable: observe, generated, partitioned.
use Rattle.std.proofs.Common.{◌≡◌, ℕ, zero, suc, true, false, ◌&&◌, inl, List, [], ◌∷◌, All, Contains, Some, bytes_eq}
use Rattle.std.proofs.Common.{refl, sym, subst}
use Rattle.std.specs.List.{slice_get, list_all, list_any}
use Rattle.std.specs.Option.{option_map_or}
use Rattle.std.proofs.lemmas.List.Elements.{All-contains}
use Rattle.std.proofs.lemmas.Option.{cond_some}
use Rattle.larch_base.proofs.Bools.{and_left, and_right}
use Rattle.larch_base.proofs.Lists.{all_from}
use Rattle.larch_base.proofs.Options.{some_inj}
use Rattle.larch_term.specs.Equality.{same_statement}
use Rattle.larch_term.specs.Operator.{PlainOperator}
use Rattle.larch_term.specs.Sorts.{sort_of, IsKnown}
use Rattle.larch_term.specs.Statement.{IsStatementOver}
use Rattle.larch_term.specs.Tree.{Tree, var}
use Rattle.larch_term.specs.Truth.{truth}
use Rattle.larch_term.specs.declared.statement.Statement.{Statement}
use Rattle.larch_term.specs.declared.statement.Statement.TheVariants.{Equation, Generated, Partitioned}
use Rattle.larch_term.specs.declared.statement.Theory.{Theory}
use Rattle.larch_verify_meaning.specs.CalculusDerivable.{Derivable, AreApart, observe, generated, partitioned}
use Rattle.larch_verify_meaning.specs.CalculusFormula.{constant, apply_one}
use Rattle.larch_verify_meaning.specs.CalculusGeneration.{place_name, generation_hypotheses}
use Rattle.larch_verify_meaning.specs.CalculusObservation.{Observation, observations_of, observer_term}
use Rattle.larch_verify_meaning.specs.CalculusObservation.{other_variables, observations}
use Rattle.larch_verify_meaning.specs.CalculusTheories.{extend, AreNew}
use Rattle.larch_verify_meaning.specs.ClauseRules.{shows_same, show_same, observed_equal, holds_of_variable}
use Rattle.larch_verify_meaning.specs.ClauseRules.{shows_generated, generated_by, shows_partitioned, partitioned_by}
use Rattle.larch_verify_meaning.specs.Context.{find_line}
use Rattle.larch_verify_meaning.specs.Events.{box_constant, box_predicate, PlainBox, operators_of, Event}
use Rattle.larch_verify_meaning.specs.Matching.{same_statements, are_apart, argument_name, has_constants}
use Rattle.larch_verify_meaning.specs.Matching.{is_predicate_on}
use Rattle.larch_verify_law.proofs.BoxRules.{box_constants, with_hypotheses}
use Rattle.larch_verify_law.proofs.Contexts.{Shows}
use Rattle.larch_verify_law.proofs.Told.{map_or_true, all_told, bytes_told, contains_told, statement_told}
use Rattle.larch_verify_law.proofs.Told.{statements_told, constants_told, predicate_told, apart_told}

-- an observer shows the same of two terms
record ShowsSame (t : Theory) (l r : Tree) (w : Observation) (names : ℕ → List ℕ) : Type 0 where
  apart : AreApart (other_variables names w) l r
  derivable : Derivable t (Equation (observer_term names w l) (observer_term names w r))

-- the names of the arguments of an equation's left side
abbrev names_in : Statement → ℕ → List ℕ
names_in (Equation a b) = argument_name a
names_in (Generated s fs) = λ k. []
names_in (Partitioned s fs) = λ k. []

same_told : (t : Theory) (l r : Tree) (w : Observation) (s : Statement) → Derivable t s → shows_same l r w s ≡ true
    → ShowsSame t l r w (names_in s)
same_told t l r w (Equation a b) d e =
    let names = argument_name a in
    let goal = Equation (observer_term names w l) (observer_term names w r) in
    let apart = are_apart (other_variables names w) l r in
    record {
      apart = apart_told (other_variables names w) l r (and_right (same_statement (Equation a b) goal) apart e);
      derivable = subst (Derivable t)
          (statement_told (Equation a b) goal (and_left (same_statement (Equation a b) goal) apart e)) d;
    }
same_told t l r w (Generated s fs) d e = cc
same_told t l r w (Partitioned s fs) d e = cc

-- the names in the line at a place of a list
abbrev names_at : List Event → List ℕ → ℕ → ℕ → List ℕ
names_at h [] i = λ k. []
names_at h (n ∷ ns) zero = option_map_or names_in (find_line h n) (λ k. [])
names_at h (n ∷ ns) (suc i) = names_at h ns i

-- where lines that can be named are derivable, each observer shows the same
all_same : (t : Theory) (h : List Event) → ((m : ℕ) (s : Statement) → find_line h m ≡ Some s → Derivable t s)
    → (l r : Tree) (ws : List Observation) (ns : List ℕ) → show_same h l r ws ns ≡ true
    → (i : ℕ) (w : Observation) → slice_get ws i ≡ Some w → ShowsSame t l r w (names_at h ns i)
all_same t h k l r [] ns e i w g = cc
all_same t h k l r (w ∷ ws) [] e i v g = cc
all_same t h k l r (w ∷ ws) (n ∷ ns) e zero v g =
    let first = option_map_or (shows_same l r w) (find_line h n) false in
    map_or_true (shows_same l r w) (find_line h n) (and_left first (show_same h l r ws ns) e)
    (λ s p q. subst (λ o. ShowsSame t l r v (option_map_or names_in o (λ k. []))) (sym p)
    (subst (λ x. ShowsSame t l r x (names_in s)) (some_inj g) (same_told t l r w s (k n s p) q)))
all_same t h k l r (w ∷ ws) (n ∷ ns) e (suc i) v g =
    let first = option_map_or (shows_same l r w) (find_line h n) false in
    all_same t h k l r ws ns (and_right first (show_same h l r ws ns) e) i v g

-- observe
pub observed_derivable : (t : Theory) (h : List Event)
    → ((m : ℕ) (s : Statement) → find_line h m ≡ Some s → Derivable t s) → (ns : List ℕ) (g c q : Statement)
    → IsStatementOver t.operators g → Derivable t c → observed_equal h ns g c ≡ Some q → Derivable t q
observed_derivable t h k ns (Equation l r) (Partitioned s os) q w d e =
    let shown = show_same h l r (observations_of s os) ns in
    let c = cond_some (bytes_eq (sort_of l) s && shown) (Equation l r) q e in
    let sort = bytes_told (sort_of l) s (and_left (bytes_eq (sort_of l) s) shown c.0) in
    let all = all_same t h k l r (observations_of s os) ns (and_right (bytes_eq (sort_of l) s) shown c.0) in
    subst (Derivable t) c.1
    (observe s os (names_at h ns) d w sort (λ i v p. (all i v p).apart) (λ i v p. (all i v p).derivable))
observed_derivable t h k ns (Equation l r) (Equation a b) q w d e = cc
observed_derivable t h k ns (Equation l r) (Generated s fs) q w d e = cc
observed_derivable t h k ns (Generated s fs) c q w d e = cc
observed_derivable t h k ns (Partitioned s fs) c q w d e = cc

holds_told : (t : Theory) (p : PlainOperator) (s : List ℕ) (r : Statement) {P : Type 0} → Derivable t r
    → holds_of_variable p s r ≡ true → ((x : List ℕ) → Derivable t (Equation (apply_one p (var x s)) truth) → P) → P
holds_told t p s (Equation a b) d e k =
    let goal = Equation (apply_one p (var (argument_name a 1) s)) truth in
    k (argument_name a 1) (subst (Derivable t) (statement_told (Equation a b) goal e) d)
holds_told t p s (Generated z fs) d e k = cc
holds_told t p s (Partitioned z fs) d e k = cc

generation_shown : (t : Theory) (s : List ℕ) (fs : List PlainOperator) (b : PlainBox) (r : Statement)
    → IsStatementOver t.operators (Generated s fs) → Shows t b r → shows_generated s fs b r ≡ true
    → Derivable t (Generated s fs)
generation_shown t s fs b r w shows e =
    let p = box_predicate b.number 1 s in
    let hs = generation_hypotheses p s fs in
    let tests = same_statements b.hypotheses hs && holds_of_variable p s r in
    let parts = predicate_told b s (and_left (is_predicate_on s b.parts) tests e) in
    let others = and_right (is_predicate_on s b.parts) tests e in
    let supposed =
    statements_told b.hypotheses hs (and_left (same_statements b.hypotheses hs) (holds_of_variable p s r) others) in
    let holds = and_right (same_statements b.hypotheses hs) (holds_of_variable p s r) others in
    let inner : Derivable (extend t (p ∷ []) hs) r =
    subst (λ cs. Derivable (extend t cs hs) r) parts (with_hypotheses t b hs r supposed shows.derivable) in
    holds_told (extend t (p ∷ []) hs) p s r inner holds
    (λ x d. generated p x w (subst (AreNew t) parts shows.proper.new) refl refl d)

-- generated: of operators that are known
pub generated_derivable : (t : Theory) (s : List ℕ) (c : PlainBox × Statement) (fs : List PlainOperator) (q : Statement)
    → All (λ f. Contains t.operators f) fs → Shows t c.0 c.1 → generated_by s c fs ≡ Some q → Derivable t q
generated_derivable t s c fs q own shows e =
    let ranges = list_all (λ f. bytes_eq f.range s) fs in
    let h = cond_some (ranges && shows_generated s fs c.0 c.1) (Generated s fs) q e in
    let all = all_told (λ f. bytes_eq f.range s) (λ f. f.range ≡ s) (λ f p. bytes_told f.range s p) fs
    (and_left ranges (shows_generated s fs c.0 c.1) h.0) in
    let over : IsStatementOver t.operators (Generated s fs) =
    all_from (λ g. IsKnown t.operators g × (g.range ≡ s)) fs
    (λ f m. (inl (All-contains (λ f. Contains t.operators f) fs f own m), All-contains (λ f. f.range ≡ s) fs f all m))
    in
    subst (Derivable t) h.1
    (generation_shown t s fs c.0 c.1 over shows (and_right ranges (shows_generated s fs c.0 c.1) h.0))

partition_shown : (t : Theory) (s : List ℕ) (os : List PlainOperator) (b : PlainBox) (r : Statement)
    → IsStatementOver t.operators (Partitioned s os) → Shows t b r → shows_partitioned s os b r ≡ true
    → Derivable t (Partitioned s os)
partition_shown t s os b r w shows e =
    let c = box_constant b.number 1 s in
    let d = box_constant b.number 2 s in
    let hs = observations place_name s os (constant c) (constant d) in
    let goal = Equation (constant c) (constant d) in
    let two = has_constants b (s ∷ s ∷ []) in
    let tests = same_statements b.hypotheses hs && same_statement r goal in
    let parts : operators_of b ≡ c ∷ d ∷ [] = constants_told b (s ∷ s ∷ []) (and_left two tests e) in
    let others = and_right two tests e in
    let supposed =
    statements_told b.hypotheses hs (and_left (same_statements b.hypotheses hs) (same_statement r goal) others) in
    let equal = statement_told r goal (and_right (same_statements b.hypotheses hs) (same_statement r goal) others) in
    let inner : Derivable (extend t (c ∷ d ∷ []) hs) goal =
    subst (Derivable (extend t (c ∷ d ∷ []) hs)) equal
    (subst (λ cs. Derivable (extend t cs hs) r) parts (with_hypotheses t b hs r supposed shows.derivable)) in
    partitioned c d w (subst (AreNew t) parts shows.proper.new)
    (subst (λ cs. All (λ f. f.domain ≡ []) cs) parts (box_constants b (s ∷ s ∷ []) (and_left two tests e)))
    refl refl inner

-- partitioned: by operators that are known
pub partitioned_derivable : (t : Theory) (s : List ℕ) (c : PlainBox × Statement) (os : List PlainOperator)
    (q : Statement) → All (λ f. Contains t.operators f) os → Shows t c.0 c.1 → partitioned_by s c os ≡ Some q
    → Derivable t q
partitioned_derivable t s c os q own shows e =
    let domains = list_all (λ o. list_any (bytes_eq s) o.domain) os in
    let h = cond_some (domains && shows_partitioned s os c.0 c.1) (Partitioned s os) q e in
    let all = all_told (λ o. list_any (bytes_eq s) o.domain) (λ o. Contains o.domain s)
    (λ o p. contains_told s o.domain p) os (and_left domains (shows_partitioned s os c.0 c.1) h.0) in
    let over : IsStatementOver t.operators (Partitioned s os) =
    all_from (λ g. IsKnown t.operators g × Contains g.domain s) os
    (λ o m. (
      inl (All-contains (λ f. Contains t.operators f) os o own m),
      All-contains (λ o. Contains o.domain s) os o all m,
    )) in
    subst (Derivable t) h.1
    (partition_shown t s os c.0 c.1 over shows (and_right domains (shows_partitioned s os c.0 c.1) h.0))
