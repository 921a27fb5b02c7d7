-- The hypotheses of a subgoal are supposed, and its goal gets its normal form.
use Rattle.std.specs.Prelude.{◌≡◌, ℕ, suc, IsTrue, List, [], ◌∷◌, map, All, length, Result, Ok, refl}
use Rattle.std.specs.List.{AllZip}
use Rattle.std.proofs.Common.{ap, ap₂, subst, sym, ◌∙◌}
use Rattle.std.proofs.lemmas.List.Elements.{All-cons, All-nil}
use Rattle.larch_base.specs.declared.code.Code.{Code}
use Rattle.larch_derive.specs.Predicates.{HasEquation}
use Rattle.larch_derive.specs.declared.builder.Builder.{Builder}
use Rattle.larch_prove_draft.specs.OrderPrecedenceRanked.{Ranked}
use Rattle.larch_prove_draft.specs.ProveAddingEquation.{IsSaid, sides_in}
use Rattle.larch_prove_draft.specs.ProveAddingKeptFacts.{AreSaid, KeptFacts, facts_of, lines_of}
use Rattle.larch_prove_draft.specs.ProveAddingEquationSaidEquation.{SaidEquation}
use Rattle.larch_prove_draft.specs.ProveBoxesEntering.{IsEntrance}
use Rattle.larch_prove_draft.specs.ProveBoxesEnteringEntrance.{Entrance}
use Rattle.larch_prove_draft.proofs.ProveInvariantHeld.{current_said, says_through}
use Rattle.larch_prove_draft.specs.ProveInvariantBook.{Kept, Running}
use Rattle.larch_prove_draft.specs.ProveInvariantHolding.{HasAbsurd, HasFacts, Says}
use Rattle.larch_prove_draft.proofs.ProveLevelsTelling.{tells_first, tells_next, tells_same}
use Rattle.larch_prove_draft.specs.ProveLevelsOpened.{normal_by, opened_by}
use Rattle.larch_prove_draft.specs.ProveLevelsSupposing.{Supposed, TellsCode, with_hypotheses}
use Rattle.larch_prove_draft.specs.ProveLevelsLevelLevel.{Level}
use Rattle.larch_prove_draft.specs.ProveMeaningFacts.{Facts, rules_of}
use Rattle.larch_prove_draft.specs.ProveMeaningLevels as defined
use Rattle.larch_prove_draft.specs.ProveMeaningLevels.{work_result}
use Rattle.larch_prove_draft.specs.ProveMeaningPlans.{Subgoal}
use Rattle.larch_prove_draft.specs.ProvePlansPlanning.{equate}
use Rattle.larch_prove_draft.specs.ProvePlansSubgoalsMethod.{Method}
use Rattle.larch_prove_draft.specs.ProvePlansSubgoalsSubgoal as stated
use Rattle.larch_prove_settling.specs.Entered.{Awaits, IsEquation, equation_of}
use Rattle.larch_prove_draft.specs.RewriteRefusalRewriteRefusal.{RewriteRefusal}
use Rattle.larch_prove_draft.specs.RewriteMeaningNormalForm.{normal}
use Rattle.larch_prove_draft.specs.RewriteMeaningSides.{Sides}
use Rattle.larch_term.specs.Operator.{PlainOperator}
use Rattle.larch_term.specs.Tree.{Tree}
use Rattle.larch_term.specs.declared.statement.Statement.{Statement}
use Rattle.larch_term.specs.declared.statement.Statement.TheVariants.{Equation}
use Rattle.larch_term.specs.declared.statement.Theory.{Theory}
use Rattle.larch_base_meaning.specs.Steps.{after}

-- ---- equations with their lines

pub all_equations : (hs : List Sides) → All IsEquation (map equate hs)
all_equations [] = All-nil IsEquation
all_equations (h ∷ hs) = All-cons IsEquation (equate h) (map equate hs) tt (all_equations hs)

lefts_same : (a b c d : Tree) → Equation a b ≡ Equation c d → a ≡ c
lefts_same a b c d e = cc

rights_same : (a b c d : Tree) → Equation a b ≡ Equation c d → b ≡ d
rights_same a b c d e = cc

heads_same : (x y : Statement) (xs ys : List Statement) → x ∷ xs ≡ y ∷ ys → x ≡ y
heads_same x y xs ys e = cc

tails_same : (x y : Statement) (xs ys : List Statement) → x ∷ xs ≡ y ∷ ys → xs ≡ ys
tails_same x y xs ys e = cc

pub sides_said : (es : List SaidEquation) (hs : List Sides) → map equation_of es ≡ map equate hs
    → map sides_in es ≡ hs
sides_said [] [] e = refl
sides_said [] (h ∷ hs) e = absurd (cc)
sides_said (x ∷ es) [] e = absurd (cc)
sides_said (x ∷ es) (h ∷ hs) e =
    let one = heads_same (equation_of x) (equate h) (map equation_of es) (map equate hs) e in
    ap₂ (λ (y : Sides) (ys : List Sides). y ∷ ys)
    (ap₂ (λ l r. record { left = l; right = r }) (lefts_same x.left x.right h.left h.right one)
    (rights_same x.left x.right h.left h.right one))
    (sides_said es hs (tails_same (equation_of x) (equate h) (map equation_of es) (map equate hs) e))

lines_head : (n m : ℕ) (ns ms : List ℕ) → n ∷ ns ≡ m ∷ ms → n ≡ m
lines_head n m ns ms e = cc

lines_tail : (n m : ℕ) (ns ms : List ℕ) → n ∷ ns ≡ m ∷ ms → ns ≡ ms
lines_tail n m ns ms e = cc

pub equations_said : (b : Builder) (es : List SaidEquation) (hs : List Sides) (ns : List ℕ)
    → map sides_in es ≡ hs → map (λ e. e.line) es ≡ ns
    → AllZip (λ h n. HasEquation b n h.left h.right) hs ns → All (IsSaid b) es
equations_said b [] hs ns e d z = All-nil (IsSaid b)
equations_said b (x ∷ es) hs ns e d z =
    let w = subst (λ ms. AllZip (λ (h : Sides) n. HasEquation b n h.left h.right) (map sides_in (x ∷ es)) ms) (sym d)
    (subst (λ gs. AllZip (λ (h : Sides) n. HasEquation b n h.left h.right) gs ns) (sym e) z) in
    All-cons (IsSaid b) x es w.0 (equations_said b es (map sides_in es) (map (λ y. y.line) es) refl refl w.1)

pub zip_lengths : (b : Builder) (hs : List Sides) (ns : List ℕ)
    → AllZip (λ h n. HasEquation b n h.left h.right) hs ns → length ns ≡ length hs
zip_lengths b [] [] z = refl
zip_lengths b [] (n ∷ ns) z = absurd z
zip_lengths b (h ∷ hs) [] z = absurd z
zip_lengths b (h ∷ hs) (n ∷ ns) z = ap suc (zip_lengths b hs ns z.1)

-- ---- facts inside of a subgoal's box

module _ (t : Theory) (s : Statement) (cs : List PlainOperator) (levels : List defined.Level) (k : Kept)
    (ks : List Kept) (r : Running) (a : Builder) (parent : Level) (method : Method) (subgoal : stated.Subgoal)
    (w : Awaits t s cs levels k ks r a parent method subgoal) (b : Builder) (e : Entrance)
    (i : IsEntrance a b r.method r.now e) where
  says_inside : Says b k
  says_inside = says_through a b k i.boxes i.through (current_said t s a k ks w.held.held)

  pub facts_said_inside : (copied : KeptFacts)
      → ((c : Builder) → HasFacts c (facts_of parent.facts).rules (lines_of parent.facts)
      → (IsTrue (facts_of parent.facts).contradictory → HasAbsurd c parent.facts.absurd) → AreSaid c copied)
      → AreSaid b copied
  facts_said_inside copied said =
      said b
      (subst (λ (facts : Facts). HasFacts b facts.rules (lines_of parent.facts)) w.kept.0.facts
      (subst (HasFacts b k.level.facts.rules) w.kept.0.lines says_inside.facts))
      (λ c. subst (HasAbsurd b) w.kept.0.absurd
      (says_inside.absurd (subst (λ (facts : Facts). IsTrue facts.contradictory) (sym w.kept.0.facts) c)))

-- ---- what opening comes to

module _ (ranks : List Ranked) (limit : ℕ) (g : Subgoal) (old copied made : Facts) (next more : ℕ) (es : List Sides)
    (same : copied ≡ old) (hypotheses : es ≡ g.hypotheses) where
  supposed_as : (answer : Result Supposed Code)
      → with_hypotheses ranks limit es (record { facts = copied; next = next }) ≡ answer
      → with_hypotheses ranks limit g.hypotheses (record { facts = old; next = next }) ≡ answer
  supposed_as answer h =
      ap₂ (λ hs facts. with_hypotheses ranks limit hs (record { facts = facts; next = next })) (sym hypotheses)
      (sym same)
      ∙ h

  pub hypotheses_refused : (x : RewriteRefusal)
      → TellsCode (with_hypotheses ranks limit es (record { facts = copied; next = next })) x
      → TellsCode (opened_by ranks limit g (record { facts = old; next = next })) x
  hypotheses_refused x h =
      tells_first (with_hypotheses ranks limit g.hypotheses (record { facts = old; next = next }))
      (normal_by limit g.goal) x (tells_same _ _ x (supposed_as _ refl) h)

  module _ (made_is : with_hypotheses ranks limit es (record { facts = copied; next = next })
      ≡ Ok (record { facts = made; next = more })) (goal : Tree) (goal_is : goal ≡ g.goal) where
    pub goal_refused : (x : RewriteRefusal) → TellsCode (work_result (normal (rules_of made.rules) goal limit)) x
        → TellsCode (opened_by ranks limit g (record { facts = old; next = next })) x
    goal_refused x h =
        tells_next (with_hypotheses ranks limit g.hypotheses (record { facts = old; next = next }))
        (record { facts = made; next = more }) (normal_by limit g.goal) x (supposed_as _ made_is)
        (tells_first (work_result (normal (rules_of made.rules) g.goal limit)) _ x
        (subst (λ t. TellsCode (work_result (normal (rules_of made.rules) t limit)) x) goal_is h))

    pub opened_as : (new : Facts) (u : Tree) → work_result (normal (rules_of made.rules) goal limit) ≡ Ok u
        → new ≡ made
        → opened_by ranks limit g (record { facts = old; next = next })
        ≡ Ok (record { supposed = record { facts = new; next = more }; goal = u })
    opened_as new u h e =
        ap (λ r. after r (normal_by limit g.goal)) (supposed_as _ made_is)
        ∙ ap (λ r. after r (λ v. Ok (record { supposed = record { facts = made; next = more }; goal = v })))
        (ap (λ t. work_result (normal (rules_of made.rules) t limit)) (sym goal_is) ∙ h)
        ∙ ap (λ facts. Ok (record { supposed = record { facts = facts; next = more }; goal = u })) (sym e)
