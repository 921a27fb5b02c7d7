-- What a proof opens with, by its facts alone.
use Rattle.std.specs.Prelude.{◌≡◌, ℕ, suc, List, [], ◌∷◌, Result, Ok, Err, refl}
use Rattle.std.proofs.Common.{ap, ◌∙◌}
use Rattle.larch_base.specs.declared.code.Code.{Code}
use Rattle.larch_base.specs.declared.fact_name.FactLetter.{FactLetter}
use Rattle.larch_base.specs.declared.fact_name.FactLetter.TheVariants.{Axiom, Lemma}
use Rattle.larch_prove_adding.specs.ProveMeaningFacts.{Facts, whole_name}
use Rattle.larch_prove_adding.specs.ProveMeaningLevels.{EarlierDuty, Next, Proof, normal_goal, settle_goal, with_facts}
use Rattle.larch_prove_adding.specs.ProveMeaningReplays.{duty_opened, each_added, goal_made, lemmas_added, theory_added}
use Rattle.larch_prove_opening.specs.FirstFacts.{facts_with, facts_with_axioms, facts_with_each, facts_with_lemmas}
use Rattle.larch_prove_opening.specs.FirstFacts.{first_facts}
use Rattle.larch_rewrite_meaning.specs.Sides.{Sides, sides_of}
use Rattle.larch_term.specs.declared.statement.Statement.{Statement}
use Rattle.larch_base_meaning.specs.Steps.{after}

-- a step changes the facts of a proof alone
abbrev IsByFacts : (Facts → Result Facts Code) → Next → Proof → Type 0
IsByFacts by step p = step p ≡ after (by p.current.facts) (λ facts. Ok (with_facts facts p))

-- a step behind other facts
then_by : (by : Facts → Result Facts Code) (step : Next) (p : Proof)
    → ((facts : Facts) → IsByFacts by step (with_facts facts p)) → (made : Result Facts Code)
    → after (after made (λ facts. Ok (with_facts facts p))) step
    ≡ after (after made by) (λ facts. Ok (with_facts facts p))
then_by by step p h (Ok facts) = h facts
then_by by step p h (Err code) = refl

pub each_by : (letter : FactLetter) (k : ℕ) (es : List Sides) (p : Proof)
    → IsByFacts (facts_with_each p.ranks p.limit letter k es) (each_added letter k es) p
each_by letter k [] p = refl
each_by letter k (e ∷ es) p =
    then_by (facts_with_each p.ranks p.limit letter k es) (each_added letter k es) p
    (λ facts. each_by letter k es (with_facts facts p))
    (facts_with p.ranks p.limit (whole_name letter k) e p.current.facts)

pub axioms_by : (k : ℕ) (ss : List Statement) (p : Proof)
    → IsByFacts (facts_with_axioms p.ranks p.limit k ss) (theory_added k ss) p
axioms_by k [] p = refl
axioms_by k (s ∷ ss) p =
    ap (λ made. after made (theory_added (suc k) ss)) (each_by Axiom k (sides_of s) p)
    ∙ then_by (facts_with_axioms p.ranks p.limit (suc k) ss) (theory_added (suc k) ss) p
    (λ facts. axioms_by (suc k) ss (with_facts facts p))
    (facts_with_each p.ranks p.limit Axiom k (sides_of s) p.current.facts)

pub lemmas_by : (ls : List EarlierDuty) (p : Proof)
    → IsByFacts (facts_with_lemmas p.ranks p.limit ls) (lemmas_added ls) p
lemmas_by [] p = refl
lemmas_by (l ∷ ls) p =
    ap (λ made. after made (lemmas_added ls)) (each_by Lemma l.number (sides_of l.statement) p)
    ∙ then_by (facts_with_lemmas p.ranks p.limit ls) (lemmas_added ls) p
    (λ facts. lemmas_by ls (with_facts facts p))
    (facts_with_each p.ranks p.limit Lemma l.number (sides_of l.statement) p.current.facts)

abbrev goes_on : Statement → Next
goes_on s p = after (goal_made s p) (λ g. after (normal_goal g) settle_goal)

-- what comes behind facts
then_goes : (p : Proof) (step : Next) (made : Result Facts Code)
    → after (after made (λ facts. Ok (with_facts facts p))) step ≡ after made (λ facts. step (with_facts facts p))
then_goes p step (Ok facts) = refl
then_goes p step (Err code) = refl

pub facts_by : (p : Proof)
    → after (theory_added 1 p.theory.statements p) (λ q. lemmas_added q.lemmas q)
    ≡ after (first_facts p.ranks p.limit p.theory.statements p.lemmas p.current.facts)
    (λ facts. Ok (with_facts facts p))
facts_by p =
    ap (λ made. after made (λ q. lemmas_added q.lemmas q)) (axioms_by 1 p.theory.statements p)
    ∙ then_by (facts_with_lemmas p.ranks p.limit p.lemmas) (λ q. lemmas_added q.lemmas q) p
    (λ facts. lemmas_by p.lemmas (with_facts facts p))
    (facts_with_axioms p.ranks p.limit 1 p.theory.statements p.current.facts)

-- steps one behind the other, grouped otherwise
after_twice : {A B C : Type 0} (made : Result A Code) (f : A → Result B Code) (g : B → Result C Code)
    → after made (λ x. after (f x) g) ≡ after (after made f) g
after_twice (Ok x) f g = refl
after_twice (Err code) f g = refl

pub opening_by : (s : Statement) (p : Proof)
    → duty_opened s p
    ≡ after (first_facts p.ranks p.limit p.theory.statements p.lemmas p.current.facts)
    (λ facts. after (goal_made s (with_facts facts p)) (λ g. after (normal_goal g) settle_goal))
unfolding duty_opened
opening_by s p =
    after_twice (theory_added 1 p.theory.statements p) (λ q. lemmas_added q.lemmas q) (goes_on s)
    ∙ ap (λ made. after made (goes_on s)) (facts_by p)
    ∙ then_goes p (goes_on s) (first_facts p.ranks p.limit p.theory.statements p.lemmas p.current.facts)
