-- Interpretations with new tables for new names, and the one lemma on them: a model stays one.
use Rattle.std.proofs.Common.{◌≡◌, ◌≢◌, ◌≤◌, ℕ, zero, suc, inl, inr, List, [], ◌∷◌, map, Option, Some, None, option_map}
use Rattle.std.proofs.Common.{option_and_then, Contains, refl, sym, ◌∙◌, ap, subst}
use Rattle.std.specs.List.{slice_get, AllPairs}
use Rattle.std.proofs.lemmas.List.Elements.{All-contains}
use Rattle.larch_base.proofs.Members.{contains_either, contains_got}
use Rattle.larch_base.proofs.Options.{some_inj}
use Rattle.larch_term.specs.Operator.{OperatorName, PlainOperator}
use Rattle.larch_term.specs.BuiltIn.{built_in}
use Rattle.larch_term.specs.Sorts.{IsKnown}
use Rattle.larch_term.specs.Statement.{IsStatementOver, IsWellSortedTheory}
use Rattle.larch_term.specs.declared.statement.Statement.{Statement}
use Rattle.larch_term.specs.declared.statement.Statement.TheVariants.{Equation, Generated, Partitioned}
use Rattle.larch_term.specs.declared.statement.Theory.{Theory}
use Rattle.larch_calculus.specs.Freed.{place_of}
use Rattle.larch_calculus.specs.Generation.{constant_terms}
use Rattle.larch_calculus.specs.Observation.{Observation, observations_of}
use Rattle.larch_calculus.specs.Theories.{extend, AreNew}
use Rattle.larch_calculus.proofs.Freeing.{known_not_placed}
use Rattle.larch_calculus.proofs.Names.{placed_at}
use Rattle.larch_calculus.proofs.Observed.{observation_is}
use Rattle.larch_models_meaning.specs.Interpretation.{Interpretation, Assignment, values_of, Within}
use Rattle.larch_models_meaning.specs.Models.{with_value, Holds, IsModel}
use Rattle.larch_soundness.proofs.Values.{SameTables, value_same}

-- a new table where there is one
abbrev pub taken : Option (List ℕ → ℕ) → (List ℕ → ℕ) → List ℕ → ℕ
taken None g vs = g vs
taken (Some h) g vs = h vs

-- the interpretation with new tables for some names
abbrev pub changed : (OperatorName → Option (List ℕ → ℕ)) → Interpretation → Interpretation
changed new m = record { last = m.last; table = λ f vs. taken (new f.name) (m.table f) vs }

-- no known operator has a name with a new table
abbrev pub Spares : (OperatorName → Option (List ℕ → ℕ)) → List PlainOperator → Type 0
Spares new fs = (f : PlainOperator) → IsKnown fs f → new f.name ≡ None

pub same_tables : (new : OperatorName → Option (List ℕ → ℕ)) (m : Interpretation) (fs : List PlainOperator)
    → Spares new fs → SameTables (changed new m) m fs
same_tables new m fs h f k vs = ap (λ o. taken o (m.table f) vs) (h f k)

abbrev Tables : Type 0
Tables = PlainOperator → List ℕ → ℕ

-- an interpretation by its parts
abbrev by_tables : (List ℕ → ℕ) → Tables → Interpretation
by_tables last t = record { last = last; table = t }

pub known_observer : (fs : List PlainOperator) (s : List ℕ) (os : List PlainOperator)
    → IsStatementOver fs (Partitioned s os) → (w : Observation) → Contains (observations_of s os) w
    → IsKnown fs w.observer
known_observer fs s os h w c =
    (All-contains (λ g. IsKnown fs g × Contains g.domain s) os w.observer h (observation_is s os w c).0).0

-- only the tables of a statement's operators matter for its truth
holds_same : (last : List ℕ → ℕ) (t u : Tables) (fs : List PlainOperator)
    → SameTables (by_tables last t) (by_tables last u) fs → (s : Statement) → IsStatementOver fs s
    → Holds (by_tables last t) s → Holds (by_tables last u) s
holds_same last t u fs e (Equation l r) w h =
    λ a g. sym (value_same (by_tables last t) (by_tables last u) fs e a l w.0.1) ∙ h a g
    ∙ value_same (by_tables last t) (by_tables last u) fs e a r w.1.1
holds_same last t u fs e (Generated s gs) w h =
    λ p c v le. h p (λ f k vs i d.
    ap p (e f (All-contains (λ g. IsKnown fs g × (g.range ≡ s)) gs f w k).0 vs) ∙ c f k vs i d) v le
holds_same last t u fs e (Partitioned s os) w h =
    λ x y p q k. h x y p q (λ o i vs d.
    let known = known_observer fs s os w o i in
    e o.observer known (with_value o.place x 1 vs) ∙ k o i vs d ∙ sym (e o.observer known (with_value o.place y 1 vs)))

holds_changed : (new : OperatorName → Option (List ℕ → ℕ)) (m : Interpretation) (fs : List PlainOperator)
    → Spares new fs → (s : Statement) → IsStatementOver fs s → Holds m s → Holds (changed new m) s
holds_changed new m fs h s w k =
    holds_same m.last m.table (changed new m).table fs (λ f c vs. sym (same_tables new m fs h f c vs)) s w k

-- a model with new tables for new operators is a model of the theory with these operators and with hypotheses that hold
pub extended_model : (new : OperatorName → Option (List ℕ → ℕ)) (m : Interpretation) (t : Theory)
    (cs : List PlainOperator) (hs : List Statement) → IsWellSortedTheory t → IsModel m t → Spares new t.operators
    → ((c : PlainOperator) → Contains cs c → (vs : List ℕ) → Within m.last c.domain vs
    → (changed new m).table c vs ≤ m.last c.range)
    → ((s : Statement) → Contains hs s → Holds (changed new m) s) → IsModel (changed new m) (extend t cs hs)
extended_model new m t cs hs w k h r d =
    let i = k.interpretation in
    let same = same_tables new m t.operators h in
    record {
      interpretation = record {
        two_truth_values = i.two_truth_values;
        meanings = λ b s vs. same (built_in b s) (inr (b, (s, refl))) vs ∙ i.meanings b s vs;
        within = λ f c vs v. elim (contains_either t.operators cs f c) [
          | inl a ↦ subst (λ n. n ≤ m.last f.range) (sym (same f (inl a) vs)) (i.within f a vs v)
          | inr b ↦ r f b vs v
        ];
      };
      statements = λ s c. elim (contains_either t.statements hs s c) [
        | inl a ↦ holds_changed new m t.operators h s (All-contains (IsStatementOver t.operators) t.statements s w a)
            (k.statements s a)
        | inr b ↦ d s b
      ];
    }

-- the table of a constant with this value
abbrev pub always : ℕ → List ℕ → ℕ
always v vs = v

-- values for constants, by the constants' names
abbrev pub given_by : List PlainOperator → List ℕ → OperatorName → Option (List ℕ → ℕ)
given_by cs xs n = option_map always (option_and_then (slice_get xs) (place_of cs n))

pub given_spares : (t : Theory) (cs : List PlainOperator) (xs : List ℕ) → AreNew t cs
    → Spares (given_by cs xs) t.operators
given_spares t cs xs n f k =
    ap (λ o. option_map always (option_and_then (slice_get xs) o)) (known_not_placed t cs n f k)

-- the constants have different names
abbrev pub DifferentNames : List PlainOperator → Type 0
DifferentNames cs = AllPairs (λ f g. f.name ≢ g.name) cs

given_table : (m : Interpretation) (cs : List PlainOperator) (xs : List ℕ) (k : ℕ) (c : PlainOperator) (x : ℕ)
    (vs : List ℕ) → DifferentNames cs → slice_get cs k ≡ Some c → slice_get xs k ≡ Some x
    → (changed (given_by cs xs) m).table c vs ≡ x
given_table m cs xs k c x vs d e h =
    ap (λ o. taken (option_map always (option_and_then (slice_get xs) o)) (m.table c) vs) (placed_at cs k c d e)
    ∙ ap (λ o. taken (option_map always o) (m.table c) vs) h

value_at : (last : List ℕ → ℕ) (cs : List PlainOperator) (xs : List ℕ) (k : ℕ) (c : PlainOperator)
    → Within last (map (λ c. c.range) cs) xs → slice_get cs k ≡ Some c
    → (x : ℕ) × (slice_get xs k ≡ Some x) × (x ≤ last c.range)
value_at last [] xs k c w e = cc
value_at last (b ∷ cs) [] k c w e = absurd w
value_at last (b ∷ cs) (x ∷ xs) zero c w e = (x, refl, subst (λ g. x ≤ last g.range) (some_inj e) w.0)
value_at last (b ∷ cs) (x ∷ xs) (suc k) c w e = value_at last cs xs k c w.1 e

pub given_within : (m : Interpretation) (cs : List PlainOperator) (xs : List ℕ) → DifferentNames cs
    → Within m.last (map (λ c. c.range) cs) xs → (c : PlainOperator) → Contains cs c → (vs : List ℕ)
    → Within m.last c.domain vs → (changed (given_by cs xs) m).table c vs ≤ m.last c.range
given_within m cs xs d w c h vs v =
    let p = contains_got cs c h in
    let x = value_at m.last cs xs p.0 c w p.1 in
    subst (λ n. n ≤ m.last c.range) (sym (given_table m cs xs p.0 c x.0 vs d p.1 x.1)) x.2

-- each constant has its value
abbrev pub Gives : Interpretation → List PlainOperator → List ℕ → Type 0
Gives m cs xs =
    (k : ℕ) (c : PlainOperator) (x : ℕ) → slice_get cs k ≡ Some c → slice_get xs k ≡ Some x → m.table c [] ≡ x

pub given_gives : (m : Interpretation) (cs : List PlainOperator) (xs : List ℕ) → DifferentNames cs
    → Gives (changed (given_by cs xs) m) cs xs
given_gives m cs xs d k c x e h = given_table m cs xs k c x [] d e h

pub constant_values : (m : Interpretation) (a : Assignment) (cs : List PlainOperator) (xs : List ℕ)
    → Within m.last (map (λ c. c.range) cs) xs → Gives m cs xs → values_of m a (constant_terms cs) ≡ xs
constant_values m a [] [] w h = refl
constant_values m a [] (x ∷ xs) w h = absurd w
constant_values m a (c ∷ cs) [] w h = absurd w
constant_values m a (c ∷ cs) (x ∷ xs) w h =
    λ i. h 0 c x refl refl i ∷ constant_values m a cs xs w.1 (λ k d y e g. h (suc k) d y e g) i
