-- Closed boxes of a plan's subgoals, and lines in the boxes of clauses, show what the ends of methods take.
use Rattle.std.specs.Prelude.{◌≡◌, ℕ, true, false, List, [], ◌∷◌, ◌++◌, map, bytes_eq, codes, find, All, Contains, None}
use Rattle.std.specs.Prelude.{Some, Ok, refl}
use Rattle.std.specs.List.{AllZip}
use Rattle.std.proofs.Common.{ap, sym, subst, ◌∙◌}
use Rattle.std.proofs.lemmas.List.Elements.{All-contains, All-head, All-tail, All-weaker}
use Rattle.larch_base.proofs.Lists.{all_from}
use Rattle.larch_term.specs.BuiltIn.{is_built_in_as}
use Rattle.larch_term.specs.Operator.{PlainOperator}
use Rattle.larch_term.specs.Sorts.{sort_of, IsKnown}
use Rattle.larch_term.specs.Statement.{IsStatementOver}
use Rattle.larch_term.specs.Tree.{Tree, app}
use Rattle.larch_term.specs.Truth.{truth}
use Rattle.larch_term.specs.Variable.{variables_of}
use Rattle.larch_term.specs.declared.built_in.BuiltIn.TheVariants.{Equal}
use Rattle.larch_term.specs.declared.statement.Statement.TheVariants.{Equation, Generated, Partitioned}
use Rattle.larch_term.specs.declared.variable.Variable.{Variable}
use Rattle.larch_calculus.specs.Formula.{falsity, formula, implication}
use Rattle.larch_calculus.specs.Generation.{constant_terms, equation_at, induction_hypotheses}
use Rattle.larch_calculus.specs.Observation.{Observation, observations_of, observer_term}
use Rattle.larch_calculus.proofs.Observed.{observation_is}
use Rattle.larch_derive.specs.Builder.{boxes_in, theory_in}
use Rattle.larch_derive.specs.OpenBox.{constant_of}
use Rattle.larch_derive.specs.Predicates.{Grows, HasEquation, Known}
use Rattle.larch_derive.specs.declared.builder.Builder.{Builder}
use Rattle.larch_derive.specs.declared.open_box.OpenBox.{OpenBox}
use Rattle.larch_derive_clauses.specs.DeriveBoxesBoxes.{AreOwnConstants, HasResult}
use Rattle.larch_derive_clauses.proofs.DeriveBoxesClosing.{grown_result}
use Rattle.larch_derive_clauses.specs.Showing.{ShowCases, ShowsCase}
use Rattle.larch_prove_plans.specs.RewriteMeaningSides.{Sides}
use Rattle.larch_prove_plans.specs.ClauseGoals.{generation_goal, partition_goal, predicate_named}
use Rattle.larch_prove_plans.specs.Planning.{equate}
use Rattle.larch_prove_plans.specs.ProveMeaningNewNames.{constant_named, new_constants}
use Rattle.larch_prove_plans.specs.ProveMeaningPlans.{Cases, Conjunction, Contradiction, Implication}
use Rattle.larch_prove_plans.specs.ProveMeaningPlans.{Induction, Partition, Plan}
use Rattle.larch_prove_plans.specs.ProveMeaningPlans.{Setting, Subgoal, a_variable}
use Rattle.larch_prove_plans.specs.ProveMeaningPlans.{argument_variables, closed_by, conjuncts}
use Rattle.larch_prove_plans.specs.ProveMeaningPlans.{constants_of, fails, generators}
use Rattle.larch_prove_plans.specs.ProveMeaningPlans.{goal_at, holds, induction_subgoals}
use Rattle.larch_prove_plans.specs.ProveMeaningPlans.{names_of, observers, other_sorts}
use Rattle.larch_prove_plans.specs.ProveMeaningPlans.{partition_subgoals, plan, shared_subgoal}
use Rattle.larch_prove_plans.specs.ProveMeaningPlans.{shown, supposed_of, taken_beside, two_arguments}
use Rattle.larch_methods.specs.Clauses.{ByConstants, ByPredicate, IsSupposing}
use Rattle.larch_methods.specs.Conjuncts.{AreTrue}
use Rattle.larch_methods.specs.Inside.{IsInside, ShowsUnder, closed_in, written_variable}
use Rattle.larch_methods.specs.Methods.{ByCases, ByContradiction, ByImplication, ByInduction, IsKnownFormula, IsStated}
use Rattle.larch_methods.specs.Observers.{ByObservers, ShowsObservation}
use Rattle.larch_methods.specs.Opening.{HasOwnConstants, IsShownIn}
use Rattle.larch_methods.proofs.Opened.{closed_known, observed_known}
use Rattle.larch_derive.proofs.Growth.{known_stands}
use Rattle.larch_methods.proofs.Worded.{found_holds, variables_worded}
use Rattle.larch_derive_lines.proofs.Stated.{stated_worded}
use Rattle.larch_derive.proofs.Words.{known_worded, theory_worded}
use Rattle.larch_derive.specs.Words.{IsWordedOperator}
use Rattle.larch_derive.specs.CertificateTextLineText.{IsWord}
use Rattle.larch_methods.proofs.Planned.{argument_sorts, cases_planned, conjunction_planned, contradiction_planned}
use Rattle.larch_methods.proofs.Planned.{implication_planned, induction_planned, new_sorts, other_are}
use Rattle.larch_methods.proofs.Planned.{partition_planned, supposed_as}

pub shown_stays : (a b : Builder) (s : Subgoal) (said : Sides) (x : OpenBox) → Grows a b → IsShownIn a s said x
    → IsShownIn b s said x
shown_stays a b s said x g h =
    record {
      constants = h.constants;
      result = grown_result a b x (map equate s.hypotheses) (equate said) g h.result;
    }

-- ---- boxes that suppose one formula

-- with the shared box's constants in place of the plan's
shows_under : (b : Builder) (cs ds : List PlainOperator) (f g u : Tree) (x : OpenBox) → cs ≡ ds
    → IsShownIn b (shared_subgoal (holds (closed_by f ds f) ∷ []) u) (holds (closed_by f ds g)) x
    → ShowsUnder b (closed_by f cs f) true (closed_by f cs g) x.number
shows_under b cs ds f g u x e h =
    record {
      box = x;
      number_is = refl;
      bare = h.constants;
      result = subst (λ es. HasResult b x (Equation (closed_by f es f) truth ∷ []) (Equation (closed_by f es g) truth))
          (sym e) h.result;
    }

shows_denied : (b : Builder) (cs ds : List PlainOperator) (f g u : Tree) (x : OpenBox) → cs ≡ ds
    → IsShownIn b (shared_subgoal (fails (closed_by f ds f) ∷ []) u) (holds (closed_by f ds g)) x
    → ShowsUnder b (closed_by f cs f) false (closed_by f cs g) x.number
shows_denied b cs ds f g u x e h =
    record {
      box = x;
      number_is = refl;
      bare = h.constants;
      result =
          subst (λ es. HasResult b x (Equation (closed_by f es f) falsity ∷ []) (Equation (closed_by f es g) truth))
          (sym e) h.result;
    }

pub cases_left : (a b : Builder) (x first second : OpenBox) (setting : Setting) (goal f : Tree) (made : Plan)
    → plan setting goal (Cases f) ≡ Ok made → x.constants ≡ made.constants → IsInside a b x (variables_of f)
    → AllZip (λ s y. IsShownIn b s (holds s.goal) y) made.subgoals (first ∷ second ∷ []) → IsKnownFormula a goal
    → ByCases a b f goal x.number first.number second.number
cases_left a b x first second setting goal f made h e i z k =
    let p = cases_planned setting goal f made h in
    let cs = constants_of setting.taken goal f in
    let c : x.constants ≡ cs = e ∙ ap (λ (m : Plan). m.constants) p in
    let w = subst (λ (m : Plan). AllZip (λ s y. IsShownIn b s (holds s.goal) y) m.subgoals (first ∷ second ∷ [])) p z in
    record {
      box = x;
      number_is = refl;
      inside = i;
      positive = shows_under b x.constants cs f goal (closed_by f cs goal) first c w.0;
      negative = shows_denied b x.constants cs f goal (closed_by f cs goal) second c w.1.0;
      formula = k;
    }

pub contradiction_left : (a b : Builder) (x y : OpenBox) (setting : Setting) (goal : Tree) (made : Plan)
    → plan setting goal Contradiction ≡ Ok made → x.constants ≡ made.constants → IsInside a b x (variables_of goal)
    → AllZip (λ s z. IsShownIn b s (holds (closed_by goal x.constants goal)) z) made.subgoals (y ∷ [])
    → IsKnownFormula a goal → ByContradiction a b goal (closed_by goal x.constants goal) x.number y.number
contradiction_left a b x y setting goal made h e i z k =
    let p = contradiction_planned setting goal made h in
    let cs = constants_of setting.taken goal goal in
    let c : x.constants ≡ cs = e ∙ ap (λ (m : Plan). m.constants) p in
    let w = subst (λ (m : Plan). AllZip (λ s z. IsShownIn b s (holds (closed_by goal x.constants goal)) z) m.subgoals
    (y ∷ [])) p z in
    let there = subst (λ ds. IsShownIn b (shared_subgoal (fails (closed_by goal cs goal) ∷ []) falsity)
    (holds (closed_by goal ds goal)) y) c w.0 in
    record {
      box = x;
      number_is = refl;
      inside = i;
      closed_is = refl;
      closed_known = closed_known a b x (variables_of goal) goal i k;
      shows = shows_denied b x.constants cs goal goal falsity y c there;
      formula = k;
    }

pub implication_left : (a b : Builder) (x y : OpenBox) (setting : Setting) (goal p q : Tree) (made : Plan)
    → goal ≡ implication p q → plan setting goal Implication ≡ Ok made → x.constants ≡ made.constants
    → IsInside a b x (variables_of p)
    → AllZip (λ s z. IsShownIn b s (holds (closed_by p x.constants goal)) z) made.subgoals (y ∷ [])
    → IsKnownFormula a goal → ByImplication a b p q (closed_by p x.constants goal) x.number y.number
implication_left a b x y setting goal p q made g h e i z k =
    let m = implication_planned setting goal p q made g h in
    let cs = constants_of setting.taken goal p in
    let c : x.constants ≡ cs = e ∙ ap (λ (m : Plan). m.constants) m in
    let w = subst (λ (m : Plan). AllZip (λ s z. IsShownIn b s (holds (closed_by p x.constants goal)) z) m.subgoals
    (y ∷ [])) m z in
    let there = subst (λ ds. IsShownIn b (shared_subgoal (holds (closed_by p cs p) ∷ []) (closed_by p cs q))
    (holds (closed_by p ds goal)) y) c w.0 in
    record {
      box = x;
      number_is = refl;
      inside = i;
      closed_is = ap (closed_in (variables_of p) x) g;
      closed_known = closed_known a b x (variables_of p) goal i k;
      shows = shows_under b x.constants cs p goal (closed_by p cs q) y c there;
      formula = subst (IsKnownFormula a) g k;
    }

-- ---- lines of conjuncts

conjuncts_true : (b : Builder) (ts : List Tree) (ns : List ℕ)
    → AllZip (λ (s : Subgoal) n. HasEquation b n s.goal truth) (map (shared_subgoal []) ts) ns → AreTrue b ts ns
conjuncts_true b [] [] h = tt
conjuncts_true b [] (n ∷ ns) h = absurd h
conjuncts_true b (t ∷ ts) [] h = absurd h
conjuncts_true b (t ∷ ts) (n ∷ ns) h = (h.0, conjuncts_true b ts ns h.1)

pub conjunction_left : (b : Builder) (setting : Setting) (goal : Tree) (made : Plan) (lines : List ℕ)
    → plan setting goal Conjunction ≡ Ok made
    → AllZip (λ s n. HasEquation b n s.goal truth) made.subgoals lines → AreTrue b (conjuncts goal) lines
conjunction_left b setting goal made lines h z =
    conjuncts_true b (conjuncts goal) lines
    (subst (λ ss. AllZip (λ (s : Subgoal) n. HasEquation b n s.goal truth) ss lines)
    (conjunction_planned setting goal made h) z)

-- ---- induction

abbrev Own : Builder → Subgoal → Type 0
Own b s = AreOwnConstants (boxes_in b) (record { number = 0; constants = s.constants })

own_as : (b : Builder) (x : OpenBox) (cs : List PlainOperator) → x.constants ≡ cs
    → AreOwnConstants (boxes_in b) (record { number = 0; constants = cs }) → AreOwnConstants (boxes_in b) x
own_as b x cs e h =
    let there = subst (λ ds. AreOwnConstants (boxes_in b) (record { number = 0; constants = ds })) (sym e) h in
    record { constants = there.constants; different = there.different; outer = there.outer }

case_left : (b : Builder) (v : Variable) (g : Tree) (f : PlainOperator) (taken : List (List ℕ)) (x : OpenBox)
    (cs : List PlainOperator) → cs ≡ new_constants taken (argument_variables v f.domain)
    → Own b (record { constants = cs; hypotheses = supposed_of v g cs; goal = goal_at v g (app f (constant_terms cs)) })
    → IsShownIn b (record {
      constants = cs;
      hypotheses = supposed_of v g cs;
      goal = goal_at v g (app f (constant_terms cs));
    }) (holds (goal_at v g (app f (constant_terms cs)))) x
    → ShowsCase b (written_variable v) g truth f x.number
case_left b v g f taken x cs e own h =
    record {
      box = x;
      number = refl;
      own = own_as b x cs h.constants own;
      sorts = ap (map (λ c. c.range)) (h.constants ∙ e)
          ∙ (new_sorts taken (argument_variables v f.domain) ∙ argument_sorts v f.domain);
      shown = subst (λ ds. HasResult b x (induction_hypotheses v.name v.sort g truth ds)
          (equation_at v.name v.sort g truth (app f (constant_terms ds)))) (sym h.constants)
          (subst (λ hs. HasResult b x hs (equation_at v.name v.sort g truth (app f (constant_terms cs))))
          (supposed_as v g cs) h.result);
    }

cases_shown : (b : Builder) (v : Variable) (g : Tree) (taken : List (List ℕ)) (fs : List PlainOperator)
    (xs : List OpenBox) → All (Own b) (induction_subgoals taken v g fs)
    → AllZip (λ (s : Subgoal) y. IsShownIn b s (holds s.goal) y) (induction_subgoals taken v g fs) xs
    → ShowCases b (written_variable v) g truth fs (map (λ y. y.number) xs)
cases_shown b v g taken [] [] own h = tt
cases_shown b v g taken [] (x ∷ xs) own h = absurd h
cases_shown b v g taken (f ∷ fs) [] own h = absurd h
cases_shown b v g taken (f ∷ fs) (x ∷ xs) own h =
    let cs = new_constants taken (argument_variables v f.domain) in
    let first : Subgoal = record {
      constants = cs;
      hypotheses = supposed_of v g cs;
      goal = goal_at v g (app f (constant_terms cs));
    } in
    let rest = induction_subgoals (names_of cs ++ taken) v g fs in (
      case_left b v g f taken x cs refl (All-head (Own b) first rest own) h.0,
      cases_shown b v g (names_of cs ++ taken) fs xs (All-tail (Own b) first rest own) h.1,
    )

pub induction_left : (b : Builder) (setting : Setting) (goal : Tree) (n : List ℕ) (v : Variable)
    (fs : List PlainOperator) (clause : ℕ) (made : Plan) (boxes : List OpenBox)
    → plan setting goal (Induction n) ≡ Ok made → find (λ v. bytes_eq v.name n) (variables_of goal) ≡ Some v
    → generators v.sort setting.clauses ≡ Some fs → IsStated b clause (Generated v.sort fs) → HasOwnConstants b made
    → AllZip (λ s y. IsShownIn b s (holds s.goal) y) made.subgoals boxes → IsKnownFormula b goal
    → ByInduction b clause v goal (map (λ y. y.number) boxes)
induction_left b setting goal n v fs clause made boxes h e g st own z k =
    let p = induction_planned setting goal n v fs made h e g in
    record {
      generators = fs;
      stated = st;
      shown = cases_shown b v goal (taken_beside setting.taken goal) fs boxes (subst (All (Own b)) p own)
          (subst (λ ss. AllZip (λ (s : Subgoal) y. IsShownIn b s (holds s.goal) y) ss boxes) p z);
      name = found_holds (λ (v : Variable). IsWord v.name) (λ (v : Variable). bytes_eq v.name n) (variables_of goal) v
          (variables_worded goal (known_worded b goal k.known)) e;
      formula = k;
    }

-- ---- partition

-- the closed boxes have the constants of subgoals
abbrev HaveConstants : List Subgoal → List OpenBox → Type 0
HaveConstants ss xs = AllZip (λ s y. y.constants ≡ s.constants) ss xs

-- a closed box shows that an observer shows the same of two terms
abbrev ShowsEqual : Builder → Tree → Tree → Observation → OpenBox → Type 0
ShowsEqual b l r w x = HasResult b x [] (Equation (shown w x.constants l) (shown w x.constants r))

-- what an observation shows of two terms is known
abbrev IsKnownSame : Builder → Tree → Tree → Observation → Type 0
IsKnownSame b l r w =
    (names : ℕ → List ℕ) → ((i : ℕ) → IsWord (names i))
    → Known b (observer_term names w l) × Known b (observer_term names w r)

observed_left : (b : Builder) (l r : Tree) (taken : List (List ℕ)) (ws : List Observation) (xs : List OpenBox)
    → All (IsKnownSame b l r) ws
    → All (Own b) (partition_subgoals taken l r ws) → HaveConstants (partition_subgoals taken l r ws) xs
    → AllZip (ShowsEqual b l r) ws xs → AllZip (ShowsObservation b l r) ws xs
observed_left b l r taken [] [] k own c h = tt
observed_left b l r taken [] (x ∷ xs) k own c h = absurd h
observed_left b l r taken (w ∷ ws) [] k own c h = absurd h
observed_left b l r taken (w ∷ ws) (x ∷ xs) k own c h =
    let ss = other_sorts w.place 1 w.observer.domain in
    let cs = new_constants taken (map a_variable ss) in
    let first : Subgoal = record {
      constants = cs;
      hypotheses = [];
      goal = formula (shown w cs l) (shown w cs r);
    } in
    let rest = partition_subgoals (names_of cs ++ taken) l r ws in
    let K : Observation → Type 0 = IsKnownSame b l r in (
      record {
        own = own_as b x cs c.0 (All-head (Own b) first rest own);
        sorts = ap (map (λ f. f.range)) c.0 ∙ (new_sorts taken (map a_variable ss) ∙ other_are ss);
        result = h.0;
        known = All-head K w ws k;
      },
      observed_left b l r (names_of cs ++ taken) ws xs (All-tail K w ws k) (All-tail (Own b) first rest own) c.1 h.1,
    )

pub partition_left : (b : Builder) (setting : Setting) (goal l r : Tree) (os : List PlainOperator) (clause : ℕ)
    (made : Plan) (boxes : List OpenBox) → plan setting goal Partition ≡ Ok made
    → two_arguments (λ f. is_built_in_as f Equal) goal ≡ Some (l, r)
    → observers (sort_of l) setting.clauses ≡ Some os → IsStated b clause (Partitioned (sort_of l) os)
    → HasOwnConstants b made → AllZip (λ s y. y.constants ≡ s.constants) made.subgoals boxes
    → AllZip (λ w y. HasResult b y [] (Equation (shown w y.constants l) (shown w y.constants r)))
    (observations_of (sort_of l) os) boxes → Known b l → Known b r → sort_of l ≡ sort_of r
    → ByObservers b clause l r boxes
partition_left b setting goal l r os clause made boxes h e g st own c z kl kr q =
    let p = partition_planned setting goal l r os made h e g in
    let ws = observations_of (sort_of l) os in
    let words = stated_worded b.theory clause (Partitioned (sort_of l) os)
    (theory_worded b (known_stands b l kl)) st.found in
    let known =
    all_from (IsKnownSame b l r) ws
    (λ w i.
    let o = observation_is (sort_of l) os w i in
    let f =
    (All-contains (λ f. IsKnown (theory_in b).operators f × Contains f.domain (sort_of l)) os w.observer
    st.over o.0).0 in
    let v = All-contains IsWordedOperator os w.observer words.1 o.0 in
    λ names n. (
      observed_known b names (sort_of l) w l f o.1 kl refl n v,
      observed_known b names (sort_of l) w r f o.1 kr (sym q) n v,
    )) in
    record {
      observers = os;
      stated = st;
      shown_by = observed_left b l r (taken_beside setting.taken goal) ws boxes known (subst (All (Own b)) p own)
          (subst (λ ss. HaveConstants ss boxes) p c) z;
      left = kl;
      right = kr;
      sorts = q;
    }

-- ---- clauses

pub generation_left : (a b : Builder) (x : OpenBox) (n s : List ℕ) (fs : List PlainOperator) (line : ℕ)
    → x.constants ≡ (generation_goal n s fs).constants → IsSupposing a b x (generation_goal n s fs).hypotheses
    → constant_of (boxes_in a) (predicate_named n s) ≡ None
    → IsStatementOver (theory_in a).operators (Generated s fs)
    → HasEquation b line (generation_goal n s fs).goal truth → ByPredicate a b s fs x.number line
generation_left a b x n s fs line e i o w h =
    record {
      box = x;
      predicate = predicate_named n s;
      variable = codes "x";
      number_is = refl;
      inside = i;
      alone = e;
      domain = refl;
      range = refl;
      outer = o;
      ranges = All-weaker (λ f. IsKnown (theory_in a).operators f × (f.range ≡ s)) (λ f. f.range ≡ s) (λ f k. k.1) fs w;
      says = h;
    }

pub partition_goal_left : (a b : Builder) (x : OpenBox) (n m s : List ℕ) (os : List PlainOperator) (line : ℕ)
    → x.constants ≡ (partition_goal n m s os).constants → IsSupposing a b x (partition_goal n m s os).hypotheses
    → AreOwnConstants (boxes_in a) x → IsStatementOver (theory_in a).operators (Partitioned s os)
    → HasEquation b line (partition_goal n m s os).goal truth → ByConstants a b s os x.number line
partition_goal_left a b x n m s os line e i o w h =
    record {
      box = x;
      first = constant_named n s;
      second = constant_named m s;
      number_is = refl;
      inside = i;
      two = e;
      own = o;
      first_sort = refl;
      second_sort = refl;
      domains = All-weaker (λ f. IsKnown (theory_in a).operators f × Contains f.domain s) (λ f. Contains f.domain s)
          (λ f k. k.1) os w;
      says = h;
    }
