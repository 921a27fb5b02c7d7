-- The facts with which a proof opens, without the proof.
use Rattle.std.specs.Prelude.{ℕ, suc, List, [], ◌∷◌, Result, Ok}
use Rattle.larch_base.specs.declared.code.Code.{Code}
use Rattle.larch_base.specs.declared.fact_name.FactLetter.{FactLetter}
use Rattle.larch_base.specs.declared.fact_name.FactLetter.TheVariants.{Axiom, Lemma}
use Rattle.larch_base.specs.declared.fact_name.FactName.{FactName}
use Rattle.larch_order.specs.declared.precedence.Ranked.{Ranked}
use Rattle.larch_prove_adding.specs.Turns.{manner_of}
use Rattle.larch_prove_adding.specs.ProveMeaningFacts.{Facts, add, whole_name}
use Rattle.larch_prove_adding.specs.ProveMeaningLevels.{EarlierDuty, work_result}
use Rattle.larch_rewrite_meaning.specs.Sides.{Sides, sides_of}
use Rattle.larch_term.specs.declared.statement.Statement.{Statement}
use Rattle.larch_base_meaning.specs.Steps.{after}

-- the facts with an equation more
abbrev pub facts_with : List Ranked → ℕ → FactName → Sides → Facts → Result Facts Code
facts_with ranks limit name e facts =
    work_result (add (manner_of ranks name) e facts limit)

-- with several, in order, under the name of what they come from
abbrev pub facts_with_each : List Ranked → ℕ → FactLetter → ℕ → List Sides → Facts → Result Facts Code
facts_with_each ranks limit letter k [] facts = Ok facts
facts_with_each ranks limit letter k (e ∷ es) facts =
    after (facts_with ranks limit (whole_name letter k) e facts)
    (λ more. facts_with_each ranks limit letter k es more)

-- with the equations among a theory's statements, all of which are counted, from a number
abbrev pub facts_with_axioms : List Ranked → ℕ → ℕ → List Statement → Facts → Result Facts Code
facts_with_axioms ranks limit k [] facts = Ok facts
facts_with_axioms ranks limit k (s ∷ ss) facts =
    after (facts_with_each ranks limit Axiom k (sides_of s) facts)
    (λ more. facts_with_axioms ranks limit (suc k) ss more)

-- with the equations among lemmas
abbrev pub facts_with_lemmas : List Ranked → ℕ → List EarlierDuty → Facts → Result Facts Code
facts_with_lemmas ranks limit [] facts = Ok facts
facts_with_lemmas ranks limit (l ∷ ls) facts =
    after (facts_with_each ranks limit Lemma l.number (sides_of l.statement) facts)
    (λ more. facts_with_lemmas ranks limit ls more)

-- with both, those of the theory first
abbrev pub first_facts : List Ranked → ℕ → List Statement → List EarlierDuty → Facts → Result Facts Code
first_facts ranks limit ss ls facts =
    after (facts_with_axioms ranks limit 1 ss facts) (λ more. facts_with_lemmas ranks limit ls more)
