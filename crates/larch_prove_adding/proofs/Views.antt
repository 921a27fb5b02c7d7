-- Facts as contracts see them, while their parts change.
use Rattle.std.specs.Prelude.{◌≡◌, ◌<◌, ◌≤◌, ◌++◌, ◌∷◌, [], ℕ, All, true, false, List, Option, Result, Ok, Err, IfErr}
use Rattle.std.specs.Prelude.{OnOk, IsTrue, None, Some, is_some, map, refl}
use Rattle.std.proofs.Common.{inl, inr, ap, sym, subst, ◌∙◌}
use Rattle.larch_base.specs.declared.fact_name.FactName.{FactName}
use Rattle.larch_base.specs.declared.limits.TheConstants.{MAX_FACTS, MAX_TERM_NODES}
use Rattle.larch_derive.specs.Predicates.{HasEquation}
use Rattle.larch_derive.specs.declared.builder.Builder.{Builder}
use Rattle.larch_prove_invariant.specs.OrderPrecedenceRanked.{Ranked}
use Rattle.larch_prove_adding.specs.Equation.{waiting_in}
use Rattle.larch_prove_adding.specs.KeptFacts.{AreCounted, AreSaid, KeptFacts, SaysAbsurd, fact_by, facts_of, lines_of}
use Rattle.larch_prove_adding.specs.KeptFacts.{with_one}
use Rattle.larch_prove_adding.specs.Turns.{Course, IsStopped, IsTaken, Leads, MayRefuse, Tells, course_of, manner_of}
use Rattle.larch_prove_adding.specs.declared.equation.SaidEquation.{SaidEquation}
use Rattle.larch_prove_adding.proofs.FactLists.{full_told, less_told, named_push, named_rules, named_said, room_told}
use Rattle.larch_prove_adding.proofs.FactLists.{said_named}
use Rattle.larch_prove_adding.proofs.Turning.{all_serving}
use Rattle.larch_prove_invariant.specs.Holding.{HasAbsurd, HasFacts}
use Rattle.larch_prove_invariant.specs.ProveMeaningFacts.{Facts, is_full, normal_sides, rules_of, serving, treatment}
use Rattle.larch_prove_invariant.specs.ProveMeaningFacts.{with_contradiction}
use Rattle.larch_rewrite.specs.Refusal.{IsMade, TellsEvent, from_store}
use Rattle.larch_rewrite.specs.RuleSet.{BelongsTo, IsSaid, RuleSet, Serves, rule_by, sides_in}
use Rattle.larch_rewrite.specs.declared.refusal.RewriteRefusal.{RewriteRefusal}
use Rattle.larch_rewrite.proofs.RewriteLawTurns.{begins_large}
use Rattle.larch_rewrite_meaning.specs.NormalForm.{normal}
use Rattle.larch_rewrite_meaning.specs.Sides.{Sides}
use Rattle.larch_rewrite_meaning.specs.Work.{Made}
use Rattle.larch_store.specs.Numbered.{Numbered}
use Rattle.larch_store.specs.Refusal.{MayRefuse as MayStoreRefuse}
use Rattle.larch_store.specs.declared.refusal.StoreRefusal.{StoreRefusal}
use Rattle.larch_store.specs.declared.refusal.StoreRefusal.TheVariants.{TooLarge as store_too_large}
use Rattle.larch_store.specs.declared.refusal.StoreRefusal.TheVariants.{Memory as store_memory}
use Rattle.larch_term.specs.Tree.{Tree, nodes}

-- rules and the line of true and false are seen so
abbrev AreSeen : RuleSet → Option ℕ → KeptFacts → Type 0
AreSeen rules absurd k = record { rules = rules; absurd = absurd } ≡ k

pub rules_now : (k : KeptFacts) (rules : RuleSet) (absurd : Option ℕ) (count : ℕ)
    → record { rules = rules; absurd = absurd } ≡ k → AreCounted rules count
    → sides_in rules.rules ≡ rules_of (facts_of k).rules
rules_now k rules absurd count e h =
    sym (named_rules rules.rules) ∙ ap (λ (j : KeptFacts). rules_of (facts_of j).rules) e

pub tells_now : (k : KeptFacts) (rules : RuleSet) (absurd : Option ℕ) (count : ℕ) (t : Tree) (b : ℕ)
    (x : RewriteRefusal) → record { rules = rules; absurd = absurd } ≡ k → AreCounted rules count
    → TellsEvent (normal (sides_in rules.rules) t b) x → TellsEvent (normal (rules_of (facts_of k).rules) t b) x
tells_now k rules absurd count t b x e h w =
    subst (λ rs. TellsEvent (normal rs t b) x) (rules_now k rules absurd count e h) w

pub made_now : (k : KeptFacts) (rules : RuleSet) (absurd : Option ℕ) (count : ℕ) (t u : Tree) (b n : ℕ)
    → record { rules = rules; absurd = absurd } ≡ k → AreCounted rules count
    → IsMade b n u (normal (sides_in rules.rules) t b) → IsMade b n u (normal (rules_of (facts_of k).rules) t b)
made_now k rules absurd count t u b n e h w =
    subst (λ rs. IsMade b n u (normal rs t b)) (rules_now k rules absurd count e h) w

pub said_now : (b : Builder) (k : KeptFacts) (rules : RuleSet) (absurd : Option ℕ)
    → record { rules = rules; absurd = absurd } ≡ k → AreSaid b k
    → AreSaid b (record { rules = rules; absurd = absurd })
said_now b k rules absurd e h = subst (AreSaid b) (sym e) h

pub facts_said : (b : Builder) (k : KeptFacts) (rules : RuleSet) (absurd : Option ℕ) (count : ℕ)
    → record { rules = rules; absurd = absurd } ≡ k → AreCounted rules count → AreSaid b k
    → HasFacts b (facts_of k).rules (lines_of k)
facts_said b k rules absurd count e h s =
    subst (λ (j : KeptFacts). HasFacts b (facts_of j).rules (lines_of j)) e
    (named_said b rules.rules (said_now b k rules absurd e s).0.0)

absurd_again : (b : Builder) (o : Option ℕ) → (IsTrue (is_some o) → HasAbsurd b o) → SaysAbsurd b o
absurd_again b None h = tt
absurd_again b (Some n) h = h refl

-- facts that lines say are said once more
pub copy_said : (b : Builder) (k : KeptFacts) (rules copied : RuleSet) (absurd : Option ℕ)
    → record { rules = rules; absurd = absurd } ≡ k
    → ((d : Builder) → All (IsSaid d) rules.rules → Serves [] d copied) → HasFacts b (facts_of k).rules (lines_of k)
    → (IsTrue (is_some k.absurd) → HasAbsurd b k.absurd) → AreSaid b (record { rules = copied; absurd = absurd })
copy_said b k rules copied absurd e w g s =
    let h = subst (λ (j : KeptFacts). HasFacts b (facts_of j).rules (lines_of j)) (sym e) g in
    let o = subst (λ (j : KeptFacts). IsTrue (is_some j.absurd) → HasAbsurd b j.absurd) (sym e) s in
    let v = w b (said_named b rules.rules h) in
    ((v.said, v.led), absurd_again b absurd o)

pub full_now : (k : KeptFacts) (rules : RuleSet) (absurd : Option ℕ) (count : ℕ)
    → record { rules = rules; absurd = absurd } ≡ k → AreCounted rules count → MAX_FACTS ≤ count
    → is_full (facts_of k) ≡ true
full_now k rules absurd count e h l =
    subst (λ (j : KeptFacts). is_full (facts_of j) ≡ true) e
    (full_told rules.rules (is_some absurd) count h l)

pub room_now : (k : KeptFacts) (rules : RuleSet) (absurd : Option ℕ) (count : ℕ)
    → record { rules = rules; absurd = absurd } ≡ k → AreCounted rules count → count < MAX_FACTS
    → is_full (facts_of k) ≡ false
room_now k rules absurd count e h l =
    subst (λ (j : KeptFacts). is_full (facts_of j) ≡ false) e
    (room_told rules.rules (is_some absurd) count h l)

pub put_now : (k : KeptFacts) (rules more : RuleSet) (absurd : Option ℕ) (name : FactName) (l r : Tree) (n : ℕ)
    → record { rules = rules; absurd = absurd } ≡ k → more.rules ≡ rules.rules ++ rule_by name l r n ∷ []
    → facts_of (record { rules = more; absurd = absurd })
    ≡ with_one name (record { left = l; right = r }) (facts_of k)
put_now k rules more absurd name l r n e p =
    by_list (ap (map fact_by) p ∙ named_push rules.rules (rule_by name l r n))
    ∙ ap (λ (j : KeptFacts). with_one name (record { left = l; right = r }) (facts_of j)) e
  where
    by_list : map fact_by more.rules
        ≡ map fact_by rules.rules ++ record { name = name; sides = record { left = l; right = r } } ∷ []
        → facts_of (record { rules = more; absurd = absurd })
        ≡ with_one name (record { left = l; right = r }) (facts_of (record { rules = rules; absurd = absurd }))
    by_list q = λ i. record { rules = q i; contradictory = is_some absurd }

-- the rules of facts that are said serve
pub serving_now : (s : List Numbered) (b : Builder) (k : KeptFacts) (rules : RuleSet) (absurd : Option ℕ)
    → record { rules = rules; absurd = absurd } ≡ k → BelongsTo s k.rules → AreSaid b k → Serves s b rules
serving_now s b k rules absurd e m h =
    let g = said_now b k rules absurd e h in
    record {
      said = g.0.0;
      belongs = subst (λ (j : KeptFacts). BelongsTo s j.rules) (sym e) m;
      led = g.0.1;
    }

-- with a fact more that its line says
pub fact_said : (s u : List Numbered) (b : Builder) (k : KeptFacts) (rules more : RuleSet) (absurd : Option ℕ)
    (l r : Tree) (n : ℕ) → record { rules = rules; absurd = absurd } ≡ k
    → ((d : Builder) → Serves s d rules → HasEquation d n l r → Serves u d more) → BelongsTo s k.rules → AreSaid b k
    → HasEquation b n l r → AreSaid b (record { rules = more; absurd = absurd })
fact_said s u b k rules more absurd l r n e w m h q =
    let g = w b (serving_now s b k rules absurd e m h) q in
    ((g.said, g.led), (said_now b k rules absurd e h).1)

pub contradicted : (k j : KeptFacts) → j.rules ≡ k.rules → (facts_of j).contradictory ≡ true
    → facts_of j ≡ with_contradiction (facts_of k)
contradicted k j p q = λ i. record { rules = map fact_by (p i).rules; contradictory = q i }

-- ---- starts that a store doesn't take

pub start_tells : (rules : List Sides) (t : Tree) (b : ℕ) (given : StoreRefusal) → MayStoreRefuse (nodes t) given
    → TellsEvent (normal rules t b) (from_store given)
start_tells rules t b store_too_large h = begins_large rules t b (less_told MAX_TERM_NODES (nodes t) h)
start_tells rules t b store_memory h = tt

-- ---- what is taken

serving_all : (ranks : List Ranked) (name : FactName) (facts : Facts)
    → serving (manner_of ranks name) facts ≡ rules_of facts.rules
serving_all ranks name facts = ap rules_of (all_serving facts.rules)

pub stopped_first : (ranks : List Ranked) (name : FactName) (e : Sides) (b : ℕ) (facts : Facts) (x : RewriteRefusal)
    → Tells (normal_sides (rules_of facts.rules) e b) x → IsStopped (manner_of ranks name) e b facts x
stopped_first ranks name e b facts x h =
    inl (subst (λ rs. Tells (normal_sides rs e b) x) (sym (serving_all ranks name facts)) h)

found_now : (ranks : List Ranked) (name : FactName) (e found : Sides) (b c : ℕ) (facts : Facts)
    → normal_sides (rules_of facts.rules) e b ≡ Made found c
    → normal_sides (serving (manner_of ranks name) facts) e b ≡ Made found c
found_now ranks name e found b c facts h = ap (λ rs. normal_sides rs e b) (serving_all ranks name facts) ∙ h

pub stopped_second : (ranks : List Ranked) (name : FactName) (e found : Sides) (b c : ℕ) (old mid : KeptFacts)
    (x : RewriteRefusal) → normal_sides (rules_of (facts_of old).rules) e b ≡ Made found c
    → facts_of mid ≡ facts_of old → MayRefuse (treatment ranks found) (facts_of mid) x
    → IsStopped (manner_of ranks name) e b (facts_of old) x
stopped_second ranks name e found b c old mid x h f m =
    inr (
      found,
      (
        c,
        (
          found_now ranks name e found b c (facts_of old) h,
          subst (λ fs. MayRefuse (treatment ranks found) fs x) f m,
        ),
      ),
    )

pub taken_now : (ranks : List Ranked) (name : FactName) (e found : Sides) (b c r : ℕ) (made : ℕ)
    (waiting : List SaidEquation) (old mid : KeptFacts) (new : Course)
    → normal_sides (rules_of (facts_of old).rules) e b ≡ Made found c → facts_of mid ≡ facts_of old → r ≡ c
    → Leads (treatment ranks found) name (course_of made waiting mid) new
    → IsTaken (manner_of ranks name) e b r (course_of made waiting old) new
taken_now ranks name e found b c r made waiting old mid new h f q l = record {
  found = found;
  normal = found_now ranks name e found b c (facts_of old) h ∙ ap (λ m. Made found m) (sym q);
  leads = subst
      (λ fs. Leads (treatment ranks found) name (record { made = made; waiting = waiting_in waiting; facts = fs }) new)
      f l;
}

-- what holds of an answer, from what holds of it
pub on_ok : {A E : Type 0} (P Q : Type 0) (r : Result A E) → OnOk r P → (P → Q) → OnOk r Q
on_ok P Q (Ok x) h f = f h
on_ok P Q (Err e) h f = tt

pub if_err : {A E : Type 0} (P Q : E → Type 0) (r : Result A E) → IfErr r P → ((e : E) → P e → Q e) → IfErr r Q
if_err P Q (Ok x) h f = tt
if_err P Q (Err e) h f = f e h
