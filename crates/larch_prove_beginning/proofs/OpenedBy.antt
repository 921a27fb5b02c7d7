-- How a duty opens, by its facts, its goal and its hypotheses.
use Rattle.std.specs.Prelude.{◌≡◌, ℕ, Bool, List, [], ◌∷◌, ◌++◌, codes, map, Result, Ok, Err, refl}
use Rattle.std.specs.List.{flat_map}
use Rattle.std.proofs.Common.{ap, ◌∙◌}
use Rattle.std.proofs.lemmas.List.{append-nil}
use Rattle.larch_base.specs.declared.code.Code.{Code}
use Rattle.larch_calculus.specs.Formula.{apply_one, constant, equality}
use Rattle.larch_calculus.specs.Generation.{generation_formula, generation_hypotheses, place_name}
use Rattle.larch_calculus.specs.Observation.{observations}
use Rattle.larch_order.specs.declared.precedence.Ranked.{Ranked}
use Rattle.larch_prove_beginning.specs.Beginning.{unopened_proof}
use Rattle.larch_prove_beginning.specs.Goal.{Posed, goal_of, taken_by}
use Rattle.larch_prove_beginning.specs.Opening.{first_opened, first_proof, opened_with, posed_in, proof_with}
use Rattle.larch_prove_beginning.specs.Opening.{ranks_with}
use Rattle.larch_prove_settling.proofs.ProveLevelsOpening.{all_supposed_by}
use Rattle.larch_prove_settling.specs.ProveLevelsOpened.{normal_by, with_supposed}
use Rattle.larch_prove_settling.specs.ProveLevelsSupposing.{Supposed, with_hypotheses}
use Rattle.larch_prove_meaning.specs.Facts.{Facts, no_facts, rules_of}
use Rattle.larch_prove_meaning.specs.Levels.{Next, Proof, all_supposed, normal_goal, settle_goal, with_constants}
use Rattle.larch_prove_meaning.specs.Levels.{with_facts, with_goal, work_result}
use Rattle.larch_prove_meaning.specs.NewNames.{constant_named, free_name}
use Rattle.larch_prove_meaning.specs.Plans.{holds}
use Rattle.larch_prove_meaning.specs.Replays.{Duty, duty_opened, goal_made}
use Rattle.larch_prove_opening.proofs.ByFacts.{opening_by}
use Rattle.larch_prove_opening.specs.FirstFacts.{first_facts}
use Rattle.larch_prove_opening.specs.ProvePlansClauseGoals.{predicate_named}
use Rattle.larch_rewrite_meaning.specs.NormalForm.{normal}
use Rattle.larch_rewrite_meaning.specs.Sides.{sides_of}
use Rattle.larch_sorts_meaning.specs.Scope.{Variables}
use Rattle.larch_term.specs.Operator.{PlainOperator, name_bytes}
use Rattle.larch_term.specs.Tree.{Tree, var}
use Rattle.larch_term.specs.declared.statement.Statement.{Statement}
use Rattle.larch_term.specs.declared.statement.Statement.TheVariants.{Equation, Generated, Partitioned}
use Rattle.larch_base_meaning.specs.Steps.{after}

-- the proof in which a goal stands, before anything is supposed for it
abbrev goal_proof : Proof → Facts → Posed → Proof
goal_proof p facts g = record p {
  current = record p.current { facts = facts; goal = g.goal };
  scope = g.scope;
  constants = g.constants;
  ranks = ranks_with p.ranks g;
}

-- what is supposed for it
abbrev supposed_by : List Ranked → ℕ → Facts → Posed → Result Supposed Code
supposed_by ranks limit facts g =
    with_hypotheses (ranks_with ranks g) limit g.supposed (record { facts = facts; next = 1 })

-- ---- the goals of clauses

same_hypotheses : (p : PlainOperator) (s : List ℕ) (fs : List PlainOperator)
    → map (λ f. holds (generation_formula p s f)) fs ≡ flat_map sides_of (generation_hypotheses p s fs)
same_hypotheses p s [] = refl
same_hypotheses p s (f ∷ fs) =
    ap (λ es. holds (generation_formula p s f) ∷ es) (same_hypotheses p s fs)

-- a generation clause and a partition clause are opened so, where some names are taken
abbrev generation_at : List (List ℕ) → List ℕ → List PlainOperator → Next
generation_at taken s fs p =
    let gen = predicate_named (free_name taken (codes "gen")) s in
    all_supposed (map (λ f. holds (generation_formula gen s f)) fs)
    (with_constants (gen ∷ []) (with_goal (apply_one gen (var (codes "x") s)) p))

abbrev partition_at : List (List ℕ) → List ℕ → List PlainOperator → Next
partition_at taken s os p =
    let l = free_name taken (codes "lc") in
    let c = constant_named l s in
    let d = constant_named (free_name (l ∷ taken) (codes "rc")) s in
    all_supposed (flat_map sides_of (observations place_name s os (constant c) (constant d)))
    (with_constants (c ∷ d ∷ []) (with_goal (equality s (constant c) (constant d)) p))

module _ (duty : Duty) (scope : Variables) (ranks : List Ranked) (limit : ℕ) (checking : Bool) (facts : Facts) where
  names_same : map (λ (f : PlainOperator). name_bytes f.name) (duty.theory.operators ++ []) ++ map (λ v. v.0) scope
      ≡ taken_by duty.theory scope
  names_same =
      ap (λ fs. map (λ (f : PlainOperator). name_bytes f.name) fs ++ map (λ v. v.0) scope)
      (append-nil duty.theory.operators)

  -- a goal is made by what is posed
  made_by : (s : Statement)
      → goal_made s (with_facts facts (unopened_proof duty scope ranks limit checking))
      ≡ after (supposed_by ranks limit facts (goal_of s (taken_by duty.theory scope) scope))
      (λ so. Ok (with_supposed so (goal_proof (unopened_proof duty scope ranks limit checking) facts
      (goal_of s (taken_by duty.theory scope) scope))))
  made_by (Equation l r) = refl
  made_by (Generated s fs) =
      let p = with_facts facts (unopened_proof duty scope ranks limit checking) in
      let gen = predicate_named (free_name (taken_by duty.theory scope) (codes "gen")) s in
      ap (λ taken. generation_at taken s fs p) names_same
      ∙ (ap (λ es. all_supposed es (with_constants (gen ∷ []) (with_goal (apply_one gen (var (codes "x") s)) p)))
      (same_hypotheses gen s fs)
      ∙ all_supposed_by (flat_map sides_of (generation_hypotheses gen s fs))
      (with_constants (gen ∷ []) (with_goal (apply_one gen (var (codes "x") s)) p)))
  made_by (Partitioned s os) =
      let p = with_facts facts (unopened_proof duty scope ranks limit checking) in
      let taken = taken_by duty.theory scope in
      let l = free_name taken (codes "lc") in
      let c = constant_named l s in
      let d = constant_named (free_name (l ∷ taken) (codes "rc")) s in
      ap (λ names. partition_at names s os p) names_same
      ∙ all_supposed_by (flat_map sides_of (observations place_name s os (constant c) (constant d)))
      (with_constants (c ∷ d ∷ []) (with_goal (equality s (constant c) (constant d)) p))

  -- and then it gets its normal form
  normal_so : (g : Posed) (so : Supposed) (w : Result Tree Code)
      → after (after w (λ t. Ok (with_goal t (with_supposed so
      (goal_proof (unopened_proof duty scope ranks limit checking) facts g))))) settle_goal
      ≡ after (after w (λ t. Ok (record { supposed = so; goal = t })))
      (λ o. settle_goal (proof_with (unopened_proof duty scope ranks limit checking) g o))
  normal_so g so (Ok t) = refl
  normal_so g so (Err code) = refl

  goes_on : (g : Posed) (w : Result Supposed Code)
      → after (after w (λ so. Ok (with_supposed so
      (goal_proof (unopened_proof duty scope ranks limit checking) facts g))))
      (λ q. after (normal_goal q) settle_goal)
      ≡ after (after w (normal_by limit g.goal))
      (λ o. settle_goal (proof_with (unopened_proof duty scope ranks limit checking) g o))
  goes_on g (Ok so) = normal_so g so (work_result (normal (rules_of so.facts.rules) g.goal limit))
  goes_on g (Err code) = refl

  opened_by_goal : (s : Statement)
      → after (goal_made s (with_facts facts (unopened_proof duty scope ranks limit checking)))
      (λ q. after (normal_goal q) settle_goal)
      ≡ after (opened_with ranks limit (goal_of s (taken_by duty.theory scope) scope) facts)
      (λ o. settle_goal (proof_with (unopened_proof duty scope ranks limit checking)
      (goal_of s (taken_by duty.theory scope) scope) o))
  opened_by_goal s =
      ap (λ made. after made (λ q. after (normal_goal q) settle_goal)) (made_by s)
      ∙ goes_on (goal_of s (taken_by duty.theory scope) scope)
      (supposed_by ranks limit facts (goal_of s (taken_by duty.theory scope) scope))

after_each : {A B C : Type 0} (w : Result A Code) (f : A → Result C Code) (g : A → Result B Code)
    (h : B → Result C Code) → ((x : A) → f x ≡ after (g x) h) → after w f ≡ after (after w g) h
after_each (Ok x) f g h e = e x
after_each (Err code) f g h e = refl

-- a duty opens with its level, and then it is looked at whether its goal is proved
pub opened_so : (duty : Duty) (scope : Variables) (ranks : List Ranked) (limit : ℕ) (checking : Bool)
    → duty_opened duty.statement (unopened_proof duty scope ranks limit checking)
    ≡ after (first_opened duty scope ranks limit) (λ o. settle_goal (first_proof duty scope ranks limit checking o))
opened_so duty scope ranks limit checking =
    opening_by duty.statement (unopened_proof duty scope ranks limit checking)
    ∙ after_each (first_facts ranks limit duty.theory.statements duty.lemmas no_facts)
    (λ facts. after (goal_made duty.statement (with_facts facts (unopened_proof duty scope ranks limit checking)))
    (λ q. after (normal_goal q) settle_goal))
    (opened_with ranks limit (posed_in duty scope))
    (λ o. settle_goal (first_proof duty scope ranks limit checking o))
    (λ facts. opened_by_goal duty scope ranks limit checking facts duty.statement)
