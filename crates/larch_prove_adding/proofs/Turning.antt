-- How an adding goes on, one equation after the other.
use Rattle.std.specs.Prelude.{◌≡◌, ◌⊎◌, ◌+◌, ◌*◌, ◌<◌, ◌≤◌, ◌||◌, ℕ, zero, suc, List, []}
use Rattle.std.specs.Prelude.{◌∷◌, ◌++◌, filter, Ok, refl}
use Rattle.std.proofs.Common.{inl, inr, ap, arith, sym, subst, ◌∙◌}
use Rattle.std.proofs.lemmas.List.{append-nil}
use Rattle.larch_base.specs.declared.fact_name.FactName.{FactName}
use Rattle.larch_base.specs.declared.limits.TheConstants.{MAX_TERM_NODES}
use Rattle.larch_prove_invariant.specs.OrderPrecedenceRanked.{Ranked}
use Rattle.larch_prove_adding.specs.Turns.{Course, IsStopped, IsTaken, Leads, MayRefuse, Tells}
use Rattle.larch_prove_adding.proofs.FactLists.{more_told}
use Rattle.larch_prove_invariant.specs.ProveMeaningFacts.{Contradict, Drop, Fact, Facts, Keep}
use Rattle.larch_prove_invariant.specs.ProveMeaningFacts.{Manner, Replace, Treatment, add}
use Rattle.larch_prove_invariant.specs.ProveMeaningFacts.{add_waiting, by_treatment, is_full}
use Rattle.larch_prove_invariant.specs.ProveMeaningFacts.{max_fact_number, most_taken}
use Rattle.larch_prove_invariant.specs.ProveMeaningFacts.{normal_sides, serving, treatment}
use Rattle.larch_prove_invariant.specs.ProveMeaningFacts.{with_contradiction, with_rule}
use Rattle.larch_prove_invariant.specs.ProveMeaningLevels.{all_serve, work_result}
use Rattle.larch_prove_invariant.specs.ProveMeaningTaking.{enough}
use Rattle.larch_prove_invariant.proofs.ProveMeaningNormalSides.{sides_found}
use Rattle.larch_prove_invariant.proofs.ProveMeaningTaking.{first_enough, goes_on, lighter, lighter_instead, starts}
use Rattle.larch_rewrite.specs.declared.refusal.RewriteRefusal.{RewriteRefusal}
use Rattle.larch_rewrite.specs.declared.refusal.RewriteRefusal.TheVariants.{Limit, TooLarge, Memory}
use Rattle.larch_rewrite_meaning.specs.Sides.{Sides}
use Rattle.larch_rewrite_meaning.specs.Work.{Made, Work, is_large, then_work, within_size}

-- ---- facts that all serve

pub all_serving : (facts : List Fact) → filter all_serve facts ≡ facts
all_serving [] = refl
all_serving (fact ∷ facts) = ap (λ fs. fact ∷ fs) (all_serving facts)

-- ---- one turn

abbrev Adds : Type 0
Adds = ℕ → List Sides → Facts → ℕ → Work Facts

-- adding goes on by what becomes of the equation
abbrev arm : Adds → FactName → Course → ℕ → Treatment → Work Facts
arm next name c b t = elim t [
  | Drop ↦ next c.made c.waiting c.facts b
  | Contradict ↦ next c.made c.waiting (with_contradiction c.facts) b
  | Replace others ↦ next c.made (others ++ c.waiting) c.facts b
  | Keep rule ↦ within_size (is_large rule.left || is_full c.facts)
      (next (suc c.made) c.waiting (with_rule name (suc c.made) rule c.facts) b)
]

moved : (next : Adds) (k m : ℕ) (es ds : List Sides) (fs gs : Facts) (b : ℕ) → m ≡ k → ds ≡ es → gs ≡ fs
    → next k es fs b ≡ next m ds gs b
moved next k m es ds fs gs b p q r = λ i. next ((sym p) i) ((sym q) i) ((sym r) i) b

led : (next : Adds) (name : FactName) (old new : Course) (b : ℕ) (t : Treatment) → Leads t name old new
    → arm next name old b t ≡ next new.made new.waiting new.facts b
led next name old new b Drop h = moved next _ _ _ _ _ _ b h.0 h.1 h.2
led next name old new b Contradict h = moved next _ _ _ _ _ _ b h.0 h.1 h.2
led next name old new b (Replace others) h = moved next _ _ _ _ _ _ b h.0 h.1 h.2
led next name old new b (Keep rule) h =
    let f = next (suc old.made) old.waiting (with_rule name (suc old.made) rule old.facts) b in
    ap (λ q. within_size q f) h.0 ∙ moved next _ _ _ _ _ _ b h.1.0 h.1.1 h.1.2

-- ---- what needs a number that falls

no_more : (a b c n : ℕ) → c ≤ b → 0 + (4 * MAX_TERM_NODES * c + 1) ≤ (4 * MAX_TERM_NODES + 4) * (b + 1)
no_more a b c n h = omega (arith, h)

lessened : (rules : List Sides) (ranks : List Ranked) (name : FactName) (e d : Sides) (b c : ℕ) (old new : Course)
    (t : Treatment) → normal_sides rules e b ≡ Made d c → treatment ranks d ≡ t → Leads t name old new
    → enough new.waiting c < enough (e ∷ old.waiting) b
lessened rules ranks name e d b c old new Drop h k l =
    subst (λ es. enough es c < enough (e ∷ old.waiting) b) (sym l.1) (lighter rules e d b c old.waiting h)
lessened rules ranks name e d b c old new Contradict h k l =
    subst (λ es. enough es c < enough (e ∷ old.waiting) b) (sym l.1) (lighter rules e d b c old.waiting h)
lessened rules ranks name e d b c old new (Replace others) h k l =
    subst (λ es. enough es c < enough (e ∷ old.waiting) b) (sym l.1)
    (lighter_instead rules ranks e d b c others old.waiting h k)
lessened rules ranks name e d b c old new (Keep rule) h k l =
    subst (λ es. enough es c < enough (e ∷ old.waiting) b) (sym l.1.1) (lighter rules e d b c old.waiting h)

-- behind the first equation the number is enough
first_bounded : (rules : List Sides) (ranks : List Ranked) (name : FactName) (e d : Sides) (b c : ℕ)
    (old new : Course) (t : Treatment) → old.waiting ≡ [] → normal_sides rules e b ≡ Made d c → treatment ranks d ≡ t
    → Leads t name old new → enough new.waiting c ≤ most_taken b
first_bounded rules ranks name e d b c old new Drop n h k l =
    subst (λ es. enough es c ≤ most_taken b) (sym (l.1 ∙ n)) (no_more 0 b c 0 (sides_found rules e d b c h).left)
first_bounded rules ranks name e d b c old new Contradict n h k l =
    subst (λ es. enough es c ≤ most_taken b) (sym (l.1 ∙ n)) (no_more 0 b c 0 (sides_found rules e d b c h).left)
first_bounded rules ranks name e d b c old new (Replace others) n h k l =
    subst (λ es. enough es c ≤ most_taken b)
    (sym (l.1 ∙ ap (λ es. others ++ es) n ∙ append-nil others)) (first_enough rules ranks e d b c others h k)
first_bounded rules ranks name e d b c old new (Keep rule) n h k l =
    subst (λ es. enough es c ≤ most_taken b) (sym (l.1.1 ∙ n)) (no_more 0 b c 0 (sides_found rules e d b c h).left)

-- ---- turn by turn

-- nothing was taken yet
abbrev IsFirst : Sides → ℕ → Course → ℕ → Type 0
IsFirst e b c left = (c.made ≡ 0) × (c.waiting ≡ e ∷ []) × (left ≡ b)

-- what is left to add comes to what the whole adding does; and the number is enough
pub record Goes (manner : Manner) (e : Sides) (facts : Facts) (b : ℕ) (c : Course) (left : ℕ) : Type 0 where
  pub same : add_waiting (most_taken b) manner c.made c.waiting c.facts left
      ≡ add_waiting (most_taken b) manner 0 (e ∷ []) facts b
  pub bounded : IsFirst e b c left ⊎ (enough c.waiting left ≤ most_taken b)

pub goes_first : (manner : Manner) (e : Sides) (facts : Facts) (b : ℕ) (c : Course) → c.made ≡ 0
    → c.waiting ≡ e ∷ [] → c.facts ≡ facts → Goes manner e facts b c b
goes_first manner e facts b c p q r = record {
  same = moved (λ k es fs n. add_waiting (most_taken b) manner k es fs n) _ _ _ _ _ _ b (sym p) (sym q) (sym r);
  bounded = inl (p, q, refl);
}

-- the work of a turn
abbrev turn : ℕ → Manner → ℕ → Sides → List Sides → Facts → ℕ → Work Facts
turn n manner made d rest facts left =
    then_work (normal_sides (serving manner facts) d left)
    (λ found c. by_treatment (λ k es fs r. add_waiting n manner k es fs r) manner made rest facts found c)

-- an adding that waits takes the first equation
abbrev Turns : ℕ → Manner → ℕ → Sides → List Sides → Facts → ℕ → Type 0
Turns n manner made d rest facts left =
    add_waiting n manner made (d ∷ rest) facts left ≡ turn n manner made d rest facts left

same_head : (d e : Sides) (ds es : List Sides) → d ∷ ds ≡ e ∷ es → d ≡ e
same_head d e ds es p = cc

same_rest : (d e : Sides) (ds es : List Sides) → d ∷ ds ≡ e ∷ es → ds ≡ es
same_rest d e ds es p = cc

turns_first : (manner : Manner) (e d : Sides) (facts : Facts) (b left made : ℕ) (rest : List Sides) → made ≡ 0
    → d ∷ rest ≡ e ∷ [] → left ≡ b → Turns (most_taken b) manner made d rest facts left
turns_first manner e d facts b left made rest p q r =
    let n = most_taken b in
    subst (λ k. Turns n manner k d rest facts left) (sym p)
    (subst (λ f. Turns n manner 0 f rest facts left) (sym (same_head d e rest [] q))
    (subst (λ es. Turns n manner 0 e es facts left) (sym (same_rest d e rest [] q))
    (subst (λ m. Turns n manner 0 e [] facts m) (sym r) (starts n manner e facts b (omega arith)))))

turns : (manner : Manner) (e d : Sides) (facts : Facts) (b : ℕ) (c : Course) (left : ℕ) (rest : List Sides)
    → Goes manner e facts b c left → c.waiting ≡ d ∷ rest
    → Turns (most_taken b) manner c.made d rest c.facts left
turns manner e d facts b c left rest g p = by_bound g.bounded
  where
    by_bound : IsFirst e b c left ⊎ (enough c.waiting left ≤ most_taken b)
        → Turns (most_taken b) manner c.made d rest c.facts left
    by_bound (inl f) = turns_first manner e d c.facts b left c.made rest f.0 (sym p ∙ f.1) f.2
    by_bound (inr k) =
        goes_on (most_taken b) manner c.made d rest c.facts left
        (subst (λ es. enough es left ≤ most_taken b) p k)

-- what is left waits from then on
abbrev behind : Course → List Sides → Course
behind c rest = record c { waiting = rest }

turned_bound : (manner : Manner) (e d : Sides) (facts : Facts) (b : ℕ) (c new : Course) (left r : ℕ)
    (rest : List Sides) → Goes manner e facts b c left → c.waiting ≡ d ∷ rest
    → IsTaken manner d left r (behind c rest) new → enough new.waiting r ≤ most_taken b
turned_bound manner e d facts b c new left r rest g p t = by_bound g.bounded
  where
    by_bound : IsFirst e b c left ⊎ (enough c.waiting left ≤ most_taken b) → enough new.waiting r ≤ most_taken b
    by_bound (inl f) =
        let q : d ∷ rest ≡ e ∷ [] = sym p ∙ f.1 in
        subst (λ m. enough new.waiting r ≤ most_taken m) f.2
        (first_bounded (serving manner c.facts) manner.ranks manner.name d t.found left r (behind c rest) new
        (treatment manner.ranks t.found) (same_rest d e rest [] q) t.normal refl t.leads)
    by_bound (inr k) =
        let l =
        lessened (serving manner c.facts) manner.ranks manner.name d t.found left r (behind c rest) new
        (treatment manner.ranks t.found) t.normal refl t.leads in
        let m : enough (d ∷ rest) left ≤ most_taken b = subst (λ es. enough es left ≤ most_taken b) p k in
        omega (arith, l, m)

-- an equation that is taken lets the adding go on
pub goes_turn : (manner : Manner) (e d : Sides) (facts : Facts) (b : ℕ) (c new : Course) (left r : ℕ)
    (rest : List Sides) → Goes manner e facts b c left → c.waiting ≡ d ∷ rest
    → IsTaken manner d left r (behind c rest) new → Goes manner e facts b new r
goes_turn manner e d facts b c new left r rest g p t = record {
  same =
      let next : Adds = λ k es fs q. add_waiting (most_taken b) manner k es fs q in
      sym (ap (λ w. then_work w (λ found q. by_treatment next manner c.made rest c.facts found q)) t.normal
      ∙ led next manner.name (behind c rest) new r (treatment manner.ranks t.found) t.leads)
      ∙ (sym (turns manner e d facts b c left rest g p)
      ∙ (ap (λ es. add_waiting (most_taken b) manner c.made es c.facts left) (sym p) ∙ g.same));
  bounded = inr (turned_bound manner e d facts b c new left r rest g p t);
}

-- and there is less to do
pub turn_lessens : (manner : Manner) (d : Sides) (c new : Course) (left r : ℕ) (rest : List Sides)
    → c.waiting ≡ d ∷ rest → IsTaken manner d left r (behind c rest) new
    → enough new.waiting r < enough c.waiting left
turn_lessens manner d c new left r rest p t =
    subst (λ es. enough new.waiting r < enough es left) (sym p)
    (lessened (serving manner c.facts) manner.ranks manner.name d t.found left r (behind c rest) new
    (treatment manner.ranks t.found) t.normal refl t.leads)

-- ---- the end

done_by : (n : ℕ) (manner : Manner) (made : ℕ) (facts : Facts) (b : ℕ) → 1 ≤ n
    → add_waiting n manner made [] facts b ≡ Made facts b
done_by zero manner made facts b h = absurd (omega (arith, h))
done_by (suc n) manner made facts b h = refl

pub goes_done : (manner : Manner) (e : Sides) (facts : Facts) (b : ℕ) (c : Course) (left : ℕ)
    → Goes manner e facts b c left → c.waiting ≡ []
    → add_waiting (most_taken b) manner 0 (e ∷ []) facts b ≡ Made c.facts left
goes_done manner e facts b c left g p =
    sym g.same ∙ ap (λ es. add_waiting (most_taken b) manner c.made es c.facts left) p
    ∙ done_by (most_taken b) manner c.made c.facts left (omega arith)

-- an event of the first part of work is one of the whole
first_tells : {A B : Type 0} (w : Work A) (next : A → ℕ → Work B) (x : RewriteRefusal) → Tells w x
    → Tells (then_work w next) x
first_tells w next Limit h = ap (λ v. then_work v next) h
first_tells w next TooLarge h = ap (λ v. then_work v next) h
first_tells w next Memory h = tt

arm_tells : (next : Adds) (name : FactName) (c : Course) (b : ℕ) (t : Treatment) (x : RewriteRefusal)
    → MayRefuse t c.facts x → Tells (arm next name c b t) x
arm_tells next name c b t Memory h = tt
arm_tells next name c b t Limit h = absurd h
arm_tells next name c b Drop TooLarge h = absurd h
arm_tells next name c b Contradict TooLarge h = absurd h
arm_tells next name c b (Replace others) TooLarge h = absurd h
arm_tells next name c b (Keep rule) TooLarge h =
    ap (λ q. within_size q (next (suc c.made) c.waiting (with_rule name (suc c.made) rule c.facts) b)) h

pub goes_stopped : (manner : Manner) (e d : Sides) (facts : Facts) (b : ℕ) (c : Course) (left : ℕ)
    (rest : List Sides) (x : RewriteRefusal) → Goes manner e facts b c left → c.waiting ≡ d ∷ rest
    → IsStopped manner d left c.facts x → Tells (add_waiting (most_taken b) manner 0 (e ∷ []) facts b) x
goes_stopped manner e d facts b c left rest x g p s =
    let next : Adds = λ k es fs q. add_waiting (most_taken b) manner k es fs q in
    subst (λ w. Tells w x)
    (sym (turns manner e d facts b c left rest g p)
    ∙ (ap (λ es. add_waiting (most_taken b) manner c.made es c.facts left) (sym p) ∙ g.same))
    (by_part s)
  where
    by_part : IsStopped manner d left c.facts x
        → Tells (turn (most_taken b) manner c.made d rest c.facts left) x
    by_part (inl h) =
        first_tells (normal_sides (serving manner c.facts) d left)
        (λ found q. by_treatment (λ k es fs r. add_waiting (most_taken b) manner k es fs r) manner c.made rest c.facts
        found q) x h
    by_part (inr (found, (r, (h, m)))) =
        subst
        (λ w. Tells (then_work w (λ found q. by_treatment (λ k es fs r. add_waiting (most_taken b) manner k es fs r)
        manner c.made rest c.facts found q)) x) (sym h)
        (arm_tells (λ k es fs r. add_waiting (most_taken b) manner k es fs r) manner.name (behind c rest) r
        (treatment manner.ranks found) x m)

-- where the name's number is one, the adding is that
pub add_is : (manner : Manner) (e : Sides) (facts : Facts) (b : ℕ) → manner.name.number ≤ max_fact_number
    → add manner e facts b ≡ add_waiting (most_taken b) manner 0 (e ∷ []) facts b
unfolding add
add_is manner e facts b h =
    ap (λ q. within_size q (add_waiting (most_taken b) manner 0 (e ∷ []) facts b))
    (more_told max_fact_number manner.name.number h)

-- so is what it ends in
pub add_stopped : (manner : Manner) (e : Sides) (facts : Facts) (b : ℕ) (x : RewriteRefusal)
    → manner.name.number ≤ max_fact_number → Tells (add_waiting (most_taken b) manner 0 (e ∷ []) facts b) x
    → Tells (add manner e facts b) x
add_stopped manner e facts b x h t = subst (λ w. Tells w x) (sym (add_is manner e facts b h)) t

pub add_done : (manner : Manner) (e : Sides) (facts made : Facts) (b r : ℕ) → manner.name.number ≤ max_fact_number
    → add_waiting (most_taken b) manner 0 (e ∷ []) facts b ≡ Made made r
    → work_result (add manner e facts b) ≡ Ok made
add_done manner e facts made b r h d = ap work_result (add_is manner e facts b h ∙ d)
