-- Built-in terms, identities, observations and hypotheses by a renaming.
use Rattle.std.proofs.Common.{◌≡◌, ℕ, suc, ◌==◌, cond, List, [], ◌∷◌, ◌++◌, map, bytes_eq, refl, sym, ◌∙◌, ap}
use Rattle.std.proofs.lemmas.List.{map-append}
use Rattle.larch_term.proofs.BaseLists.{map_map, map_by}
use Rattle.larch_term.proofs.BaseOptions.{map_cond, cond_by}
use Rattle.larch_term.specs.Operator.{PlainOperator}
use Rattle.larch_term.specs.Tree.{Tree, var, app, none, more}
use Rattle.larch_term.specs.Truth.{truth}
use Rattle.larch_term.specs.declared.built_in.BuiltIn.TheVariants.{True, False, Not, And, Or, Implies, Iff, Equal}
use Rattle.larch_term.specs.declared.built_in.BuiltIn.TheVariants.{Unequal, If}
use Rattle.larch_term.specs.declared.variable.Variable.{Variable}
use Rattle.larch_term.specs.declared.statement.Statement.{Statement}
use Rattle.larch_term.specs.declared.statement.Statement.TheVariants.{Equation}
use Rattle.larch_renaming.specs.Renaming.{Renaming, rename_tree, renamed_all, renamed_variable, renamed_statement}
use Rattle.larch_renaming.specs.Renaming.{FitsSignatures, KeepsBuiltIns}
use Rattle.larch_calculus.specs.Formula.{constant, apply_one, apply_two, falsity, conjunction, equality}
use Rattle.larch_calculus.specs.Identity.{Proposition, letter, always, never, denied, both, either, implied, equivalent}
use Rattle.larch_calculus.specs.Identity.{equal, unequal, chosen, term_of, IsIdentity, propositional, equal_itself}
use Rattle.larch_calculus.specs.Identity.{equal_exchanged, unequal_denied, chosen_first, chosen_second, chosen_same}
use Rattle.larch_calculus.specs.Observation.{Observation, arguments_with, observer_term, observations_of, observations}
use Rattle.larch_calculus.specs.Observation.{other_variables, variables_beside, places_of_sort}
use Rattle.larch_calculus.specs.Generation.{place_name, variables_from, variable_terms, holding, conjunction_from}
use Rattle.larch_calculus.specs.Generation.{implied_by, generation_formula, generation_hypotheses, only, constant_terms}
use Rattle.larch_calculus.specs.Generation.{equation_at, induction_hypotheses}
use Rattle.larch_calculus.specs.Renaming.{KeepsSortsApart, IsFaithful}
use Rattle.larch_calculus.proofs.Renamed.{built_in_kept, renamed_substituted, sort_test}

pub truth_renamed : (r : Renaming) → KeepsBuiltIns r → rename_tree r truth ≡ truth
truth_renamed r k = λ i. constant (built_in_kept r k True i)

pub falsity_renamed : (r : Renaming) → KeepsBuiltIns r → rename_tree r falsity ≡ falsity
falsity_renamed r k = λ i. constant (built_in_kept r k False i)

pub equality_renamed : (r : Renaming) → KeepsBuiltIns r → (s : List ℕ) (t u : Tree)
    → rename_tree r (equality s t u) ≡ equality (r.sort s) (rename_tree r t) (rename_tree r u)
equality_renamed r k s t u = λ i. apply_two (k.operators Equal s i) (rename_tree r t) (rename_tree r u)

proposition_renamed : (r : Renaming) → KeepsBuiltIns r → (p : Proposition) → rename_tree r (term_of p) ≡ term_of p
proposition_renamed r k (letter n) = ap (var n) k.truth_values
proposition_renamed r k always = truth_renamed r k
proposition_renamed r k never = falsity_renamed r k
proposition_renamed r k (denied p) = λ i. apply_one (built_in_kept r k Not i) (proposition_renamed r k p i)
proposition_renamed r k (both p q) =
    λ i. apply_two (built_in_kept r k And i) (proposition_renamed r k p i) (proposition_renamed r k q i)
proposition_renamed r k (either p q) =
    λ i. apply_two (built_in_kept r k Or i) (proposition_renamed r k p i) (proposition_renamed r k q i)
proposition_renamed r k (implied p q) =
    λ i. apply_two (built_in_kept r k Implies i) (proposition_renamed r k p i) (proposition_renamed r k q i)
proposition_renamed r k (equivalent p q) =
    λ i. apply_two (built_in_kept r k Iff i) (proposition_renamed r k p i) (proposition_renamed r k q i)
proposition_renamed r k (equal p q) =
    λ i. apply_two (built_in_kept r k Equal i) (proposition_renamed r k p i) (proposition_renamed r k q i)
proposition_renamed r k (unequal p q) =
    λ i. apply_two (built_in_kept r k Unequal i) (proposition_renamed r k p i) (proposition_renamed r k q i)
proposition_renamed r k (chosen p q o) =
    λ i. app (built_in_kept r k If i)
    (more (proposition_renamed r k p i) (more (proposition_renamed r k q i) (more (proposition_renamed r k o i) none)))

-- an identity is one at the other sorts
pub identity_renamed : (r : Renaming) → KeepsBuiltIns r → {a b : Tree} → IsIdentity a b
    → IsIdentity (rename_tree r a) (rename_tree r b)
identity_renamed r k (propositional p q e f v) =
    propositional p q (ap (rename_tree r) e ∙ proposition_renamed r k p)
    (ap (rename_tree r) f ∙ proposition_renamed r k q) v
identity_renamed r k (equal_itself s x e f) =
    equal_itself (r.sort s) x (ap (rename_tree r) e ∙ equality_renamed r k s (var x s) (var x s))
    (ap (rename_tree r) f ∙ truth_renamed r k)
identity_renamed r k (equal_exchanged s x y e f) =
    equal_exchanged (r.sort s) x y (ap (rename_tree r) e ∙ equality_renamed r k s (var x s) (var y s))
    (ap (rename_tree r) f ∙ equality_renamed r k s (var y s) (var x s))
identity_renamed r k (unequal_denied s x y e f) =
    unequal_denied (r.sort s) x y
    (ap (rename_tree r) e ∙ (λ i. apply_two (k.operators Unequal s i) (var x (r.sort s)) (var y (r.sort s))))
    (ap (rename_tree r) f ∙ (λ i. apply_one (built_in_kept r k Not i) (equality_renamed r k s (var x s) (var y s) i)))
identity_renamed r k (chosen_first s x y e f) =
    chosen_first (r.sort s) x y
    (ap (rename_tree r) e ∙ (λ i. app (k.operators If s i)
    (more (truth_renamed r k i) (more (var x (r.sort s)) (more (var y (r.sort s)) none)))))
    (ap (rename_tree r) f)
identity_renamed r k (chosen_second s x y e f) =
    chosen_second (r.sort s) x y
    (ap (rename_tree r) e ∙ (λ i. app (k.operators If s i)
    (more (falsity_renamed r k i) (more (var x (r.sort s)) (more (var y (r.sort s)) none)))))
    (ap (rename_tree r) f)
identity_renamed r k (chosen_same s c x e f) =
    chosen_same (r.sort s) c x
    (ap (rename_tree r) e
    ∙ (λ i. app (k.operators If s i)
    (more (var c (k.truth_values i)) (more (var x (r.sort s)) (more (var x (r.sort s)) none)))))
    (ap (rename_tree r) f)

-- the observation of the observer as it becomes
abbrev pub renamed_observation : Renaming → Observation → Observation
renamed_observation r w = record { observer = r.operator w.observer; place = w.place }

arguments_renamed : (r : Renaming) (names : ℕ → List ℕ) (place : ℕ) (t : Tree) (k : ℕ) (ss : List (List ℕ))
    → renamed_all r (arguments_with names place t k ss) ≡ arguments_with names place (rename_tree r t) k (map r.sort ss)
arguments_renamed r names place t k [] = refl
arguments_renamed r names place t k (s ∷ ss) =
    λ i. more (map_cond (rename_tree r) (k == place) t (var (names k) s) i)
    (arguments_renamed r names place t (suc k) ss i)

pub observed_renamed : (r : Renaming) → FitsSignatures r → (names : ℕ → List ℕ) (w : Observation) (t : Tree)
    → rename_tree r (observer_term names w t) ≡ observer_term names (renamed_observation r w) (rename_tree r t)
observed_renamed r h names w t =
    ap (app (r.operator w.observer))
    (arguments_renamed r names w.place t 1 w.observer.domain
    ∙ ap (arguments_with names w.place (rename_tree r t) 1) (sym (h.domain w.observer)))

beside_renamed : (r : Renaming) (names : ℕ → List ℕ) (place k : ℕ) (ss : List (List ℕ))
    → variables_beside names place k (map r.sort ss) ≡ map (renamed_variable r) (variables_beside names place k ss)
beside_renamed r names place k [] = refl
beside_renamed r names place k (s ∷ ss) =
    let v : Variable = record { name = names k; sort = s } in
    let vs = variables_beside names place (suc k) ss in
    let rest = beside_renamed r names place (suc k) ss in
    cond_by (k == place) (variables_beside names place (suc k) (map r.sort ss))
    (renamed_variable r v ∷ variables_beside names place (suc k) (map r.sort ss)) (map (renamed_variable r) vs)
    (map (renamed_variable r) (v ∷ vs))
    rest (ap (λ us. renamed_variable r v ∷ us) rest)
    ∙ sym (map_cond (map (renamed_variable r)) (k == place) vs (v ∷ vs))

-- the other arguments of an observation, at the other sorts
pub others_renamed : (r : Renaming) → FitsSignatures r → (names : ℕ → List ℕ) (w : Observation)
    → other_variables names (renamed_observation r w) ≡ map (renamed_variable r) (other_variables names w)
others_renamed r h names w =
    ap (variables_beside names w.place 1) (h.domain w.observer) ∙ beside_renamed r names w.place 1 w.observer.domain

places_renamed : (r : Renaming) → KeepsSortsApart r → (s : List ℕ) (k : ℕ) (ss : List (List ℕ))
    → places_of_sort (r.sort s) k (map r.sort ss) ≡ places_of_sort s k ss
places_renamed r a s k [] = refl
places_renamed r a s k (q ∷ ss) =
    λ i. cond (sort_test r a q s i) (k ∷ places_renamed r a s (suc k) ss i) (places_renamed r a s (suc k) ss i)

pub observations_of_renamed : (r : Renaming) → IsFaithful r → (s : List ℕ) (os : List PlainOperator)
    → observations_of (r.sort s) (map r.operator os) ≡ map (renamed_observation r) (observations_of s os)
observations_of_renamed r h s [] = refl
observations_of_renamed r h s (o ∷ os) =
    let ks = places_of_sort s 1 o.domain in
    let at_old : ℕ → Observation = λ k. record { observer = o; place = k } in
    let at_new : ℕ → Observation = λ k. record { observer = r.operator o; place = k } in
    let places : places_of_sort (r.sort s) 1 (r.operator o).domain ≡ ks =
    ap (places_of_sort (r.sort s) 1) (h.signatures.domain o) ∙ places_renamed r h.apart s 1 o.domain in
    (λ i. map at_new (places i) ++ observations_of_renamed r h s os i)
    ∙ ap (λ ws. ws ++ map (renamed_observation r) (observations_of s os))
    (sym (map_map (renamed_observation r) at_old ks))
    ∙ sym (map-append (renamed_observation r) (map at_old ks) (observations_of s os))

pub observations_renamed : (r : Renaming) → IsFaithful r
    → (names : ℕ → List ℕ) (s : List ℕ) (os : List PlainOperator) (t u : Tree)
    → map (renamed_statement r) (observations names s os t u)
    ≡ observations names (r.sort s) (map r.operator os) (rename_tree r t) (rename_tree r u)
observations_renamed r h names s os t u =
    let before : Observation → Statement = λ w. Equation (observer_term names w t) (observer_term names w u) in
    let behind : Observation → Statement =
    λ w. Equation (observer_term names w (rename_tree r t)) (observer_term names w (rename_tree r u)) in
    map_map (renamed_statement r) before (observations_of s os)
    ∙ map_by (λ w. renamed_statement r (before w)) (λ w. behind (renamed_observation r w)) (observations_of s os)
    (λ w c i. Equation (observed_renamed r h.signatures names w t i) (observed_renamed r h.signatures names w u i))
    ∙ sym (map_map behind (renamed_observation r) (observations_of s os))
    ∙ ap (map behind) (sym (observations_of_renamed r h s os))

holding_renamed : (r : Renaming) → KeepsSortsApart r → (p : PlainOperator) (s : List ℕ) (vs : List Variable)
    → map (rename_tree r) (holding p s vs) ≡ holding (r.operator p) (r.sort s) (map (renamed_variable r) vs)
holding_renamed r a p s [] = refl
holding_renamed r a p s (v ∷ vs) =
    let rest = holding_renamed r a p s vs in
    map_cond (map (rename_tree r)) (bytes_eq v.sort s) (apply_one p (var v.name v.sort) ∷ holding p s vs)
    (holding p s vs)
    ∙ (λ i. cond (sym (sort_test r a v.sort s) i)
    (apply_one (r.operator p) (var v.name (r.sort v.sort)) ∷ rest i) (rest i))

conjoined_renamed : (r : Renaming) → KeepsBuiltIns r → (t : Tree) (us : List Tree)
    → rename_tree r (conjunction_from t us) ≡ conjunction_from (rename_tree r t) (map (rename_tree r) us)
conjoined_renamed r k t [] = refl
conjoined_renamed r k t (u ∷ us) =
    conjoined_renamed r k (conjunction t u) us
    ∙ ap (λ x. conjunction_from x (map (rename_tree r) us))
    (λ i. apply_two (built_in_kept r k And i) (rename_tree r t) (rename_tree r u))

implied_renamed : (r : Renaming) → KeepsBuiltIns r → (us : List Tree) (t : Tree)
    → rename_tree r (implied_by us t) ≡ implied_by (map (rename_tree r) us) (rename_tree r t)
implied_renamed r k [] t = refl
implied_renamed r k (u ∷ us) t =
    λ i. apply_two (built_in_kept r k Implies i) (conjoined_renamed r k u us i) (rename_tree r t)

variables_renamed : (r : Renaming) (vs : List Variable)
    → renamed_all r (variable_terms vs) ≡ variable_terms (map (renamed_variable r) vs)
variables_renamed r [] = refl
variables_renamed r (v ∷ vs) = ap (more (var v.name (r.sort v.sort))) (variables_renamed r vs)

numbered_renamed : (r : Renaming) (k : ℕ) (ss : List (List ℕ))
    → variables_from k (map r.sort ss) ≡ map (renamed_variable r) (variables_from k ss)
numbered_renamed r k [] = refl
numbered_renamed r k (s ∷ ss) =
    ap (λ vs. record { name = place_name k; sort = r.sort s } ∷ vs) (numbered_renamed r (suc k) ss)

formula_renamed : (r : Renaming) → IsFaithful r → (p : PlainOperator) (s : List ℕ) (f : PlainOperator)
    → rename_tree r (generation_formula p s f) ≡ generation_formula (r.operator p) (r.sort s) (r.operator f)
formula_renamed r h p s f =
    let vs = variables_from 1 f.domain in
    let us : map (renamed_variable r) vs ≡ variables_from 1 (r.operator f).domain =
    sym (ap (variables_from 1) (h.signatures.domain f) ∙ numbered_renamed r 1 f.domain) in
    implied_renamed r h.built_in (holding p s vs) (apply_one p (app f (variable_terms vs)))
    ∙ (λ i. implied_by (holding_renamed r h.apart p s vs i)
    (apply_one (r.operator p) (app (r.operator f) (variables_renamed r vs i))))
    ∙ ap (λ ws. implied_by (holding (r.operator p) (r.sort s) ws)
    (apply_one (r.operator p) (app (r.operator f) (variable_terms ws)))) us

pub generation_renamed : (r : Renaming) → IsFaithful r → (p : PlainOperator) (s : List ℕ) (fs : List PlainOperator)
    → map (renamed_statement r) (generation_hypotheses p s fs)
    ≡ generation_hypotheses (r.operator p) (r.sort s) (map r.operator fs)
generation_renamed r h p s fs =
    let before : PlainOperator → Statement = λ f. Equation (generation_formula p s f) truth in
    let behind : PlainOperator → Statement = λ f. Equation (generation_formula (r.operator p) (r.sort s) f) truth in
    map_map (renamed_statement r) before fs
    ∙ map_by (λ f. renamed_statement r (before f)) (λ f. behind (r.operator f)) fs
    (λ f c i. Equation (formula_renamed r h p s f i) (truth_renamed r h.built_in i))
    ∙ sym (map_map behind r.operator fs)

pub constants_renamed : (r : Renaming) (cs : List PlainOperator)
    → renamed_all r (constant_terms cs) ≡ constant_terms (map r.operator cs)
constants_renamed r [] = refl
constants_renamed r (c ∷ cs) = ap (more (constant (r.operator c))) (constants_renamed r cs)

pub equation_renamed : (r : Renaming) → KeepsSortsApart r → (x s : List ℕ) (a b t : Tree)
    → renamed_statement r (equation_at x s a b t)
    ≡ equation_at x (r.sort s) (rename_tree r a) (rename_tree r b) (rename_tree r t)
equation_renamed r k x s a b t =
    λ i. Equation (renamed_substituted r k (only x s t) a i) (renamed_substituted r k (only x s t) b i)

pub induction_renamed : (r : Renaming) → IsFaithful r → (x s : List ℕ) (a b : Tree) (cs : List PlainOperator)
    → map (renamed_statement r) (induction_hypotheses x s a b cs)
    ≡ induction_hypotheses x (r.sort s) (rename_tree r a) (rename_tree r b) (map r.operator cs)
induction_renamed r h x s a b [] = refl
induction_renamed r h x s a b (c ∷ cs) =
    let rest = induction_renamed r h x s a b cs in
    let test : bytes_eq c.range s ≡ bytes_eq (r.operator c).range (r.sort s) =
    sym (ap (λ q. bytes_eq q (r.sort s)) (h.signatures.range c) ∙ sort_test r h.apart c.range s) in
    map_cond (map (renamed_statement r)) (bytes_eq c.range s)
    (equation_at x s a b (constant c) ∷ induction_hypotheses x s a b cs) (induction_hypotheses x s a b cs)
    ∙ (λ i. cond (test i) (equation_renamed r h.apart x s a b (constant c) i ∷ rest i) (rest i))
