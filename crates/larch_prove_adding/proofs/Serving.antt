-- A turn by the facts that serve is a turn of all facts.
use Rattle.std.specs.Prelude.{◌≡◌, ◌⊎◌, ◌+◌, ◌<◌, ◌≤◌, ◌||◌, ℕ, zero, suc, Bool, true, false, not, cond, nat_lt, List}
use Rattle.std.specs.Prelude.{[], All}
use Rattle.std.specs.Prelude.{◌∷◌, ◌++◌, filter, length, map, Option, None, Some, slice_get, refl}
use Rattle.std.proofs.Common.{inl, inr, ap, ap₂, arith, sym, subst, ◌∙◌, append-nil}
use Rattle.std.proofs.lemmas.Bool.Decides.{leb_tells}
use Rattle.std.proofs.lemmas.List.Elements.{All-contains, filter-append}
use Rattle.larch_base.proofs.Lists.{all_from}
use Rattle.larch_base.proofs.Members.{contains_left}
use Rattle.larch_base.specs.declared.fact_name.FactName.{FactName}
use Rattle.larch_base.specs.declared.limits.TheConstants.{MAX_FACTS}
use Rattle.larch_derive.specs.declared.builder.Builder.{Builder}
use Rattle.larch_prove_invariant.specs.OrderPrecedenceRanked.{Ranked}
use Rattle.larch_prove_adding.specs.Equation.{IsSaid}
use Rattle.larch_prove_adding.specs.declared.equation.SaidEquation.{SaidEquation}
use Rattle.larch_prove_adding.proofs.FactLists.{more_told}
use Rattle.larch_prove_adding.proofs.Turning.{Goes, all_serving, goes_turn}
use Rattle.larch_prove_invariant.specs.ProveMeaningFacts.{Contradict, Drop, Fact, Facts, Keep}
use Rattle.larch_prove_invariant.specs.ProveMeaningFacts.{Manner, Replace, Treatment, is_full}
use Rattle.larch_prove_invariant.specs.ProveMeaningFacts.{normal_sides, rules_of, serving}
use Rattle.larch_prove_invariant.specs.ProveMeaningFacts.{treatment, with_contradiction, with_rule}
use Rattle.larch_prove_invariant.specs.ProveMeaningLevels.{all_serve}
use Rattle.larch_prove_invariant.specs.ProveMeaningSteps.{has_name, serves_beside}
use Rattle.larch_rewrite_meaning.specs.Sides.{Sides}
use Rattle.larch_rewrite_meaning.specs.Work.{Made, Work, is_large}
use Rattle.larch_prove_invariant.proofs.ScriptCommandsDecided.{fact_Decides}
use Rattle.larch_prove_adding.specs.Turns.{Course, IsStopped, IsTaken, Leads, MayRefuse, Tells, manner_of}
use Rattle.larch_rewrite.specs.declared.refusal.RewriteRefusal.{RewriteRefusal}
use Rattle.larch_rewrite.specs.declared.refusal.RewriteRefusal.TheVariants.{Limit, TooLarge, Memory}
use Rattle.larch_prove_adding.specs.Beside.{AreServing, HasNoRoomFor, HasRoomFor, IsApart, facts_without}
use Rattle.larch_prove_adding.specs.Beside.{manner_beside, one_or_none, with_new}

-- ---- facts that serve

-- the rules by which an equation gets its normal sides are the same
rules_serving : (n : FactName) (ranks : List Ranked) (name : FactName) (all some : Facts) → AreServing n all some
    → serving (manner_of ranks name) some ≡ serving (manner_beside n ranks name) all
rules_serving n ranks name all some s = ap rules_of (all_serving some.rules ∙ sym s.rules)

-- what is made under another name serves
unnamed : (b : Bool) → (b ≡ true → ⊥) → b ≡ false
unnamed true h = absurd (h refl)
unnamed false h = refl

new_serves : (n name : FactName) (part : ℕ) (e : Sides) → IsApart n name
    → serves_beside n (record { name = record name { part = part }; sides = e }) ≡ true
new_serves n name part e a =
    let fact : Fact = record { name = record name { part = part }; sides = e } in
    ap not (unnamed (has_name n fact) (λ h.
    let k : n ≡ fact.name = (fact_Decides n fact.name).0 h in
    a (ap (λ (m : FactName). m.letter) k) (ap (λ (m : FactName). m.number) k)))

-- a fact more among all is one more among those that serve
filter_new : (p : Fact → Bool) (fs : List Fact) (f : Fact) → p f ≡ true
    → filter p (fs ++ f ∷ []) ≡ filter p fs ++ f ∷ []
filter_new p fs f h = filter-append p fs (f ∷ []) ∙ ap (λ b. filter p fs ++ cond b (f ∷ []) []) h

-- ---- places

got_none : {X : Type 0} (xs : List X) → slice_get xs (length xs) ≡ None
got_none [] = refl
got_none (x ∷ xs) = got_none xs

got_last : {X : Type 0} (xs : List X) (x : X) → slice_get (xs ++ x ∷ []) (length xs) ≡ Some x
got_last [] x = refl
got_last (y ∷ xs) x = got_last xs x

-- ---- room

fewer : (p : Fact → Bool) (fs : List Fact) → length (filter p fs) ≤ length fs
fewer p [] = omega arith
fewer p (f ∷ fs) = by_case (p f) (fewer p fs)
  where
    by_case : (b : Bool) → length (filter p fs) ≤ length fs
        → length (cond b (f ∷ filter p fs) (filter p fs)) ≤ suc (length fs)
    by_case true h = omega (arith, h)
    by_case false h = omega (arith, h)

full_is : (n : ℕ) → not (nat_lt n MAX_FACTS) ≡ true → MAX_FACTS ≤ n
full_is n h = elim (leb_tells (suc n) MAX_FACTS) [
  | inl k ↦ absurd (true_false (sym h ∙ ap not k.0))
  | inr k ↦ let l = k.1 in omega (arith, l)
]
  where
    true_false : true ≡ false → ⊥
    true_false e = cc

-- where those that serve are as many as may be, so are all
full_all : (n : FactName) (all some : Facts) → AreServing n all some → is_full some ≡ true → is_full all ≡ true
full_all n all some s h =
    let l = full_is (length some.rules) h in
    let m = fewer (serves_beside n) all.rules in
    let k : length some.rules ≤ length all.rules = subst (λ (fs : List Fact). length fs ≤ length all.rules) s.rules m in
    ap not (more_told (length all.rules) MAX_FACTS (omega (arith, l, k)))

-- ---- one turn

-- the course of all facts
abbrev pub among : Facts → Course → Course
among all c = record c { facts = all }

facts_by : (rules : List Fact) (q : Bool) (all : Facts) → rules ≡ all.rules → q ≡ all.contradictory
    → ◌≡◌ {A = Facts} (record { rules = rules; contradictory = q }) all
facts_by rules q all e h = λ i. record { rules = e i; contradictory = h i }

-- nothing has come
none_new : (n : FactName) (all some new : Facts) → AreServing n all some → new ≡ some
    → with_new new (length some.rules) all ≡ all
none_new n all some new s e =
    ap (λ fs. with_new fs (length some.rules) all) e
    ∙ facts_by (all.rules ++ one_or_none (slice_get some.rules (length some.rules))) some.contradictory all
    (ap (λ o. all.rules ++ one_or_none o) (got_none some.rules) ∙ append-nil all.rules) s.contradictory

-- but that they contradict each other
contradicting : (n : FactName) (all some new : Facts) → AreServing n all some → new ≡ with_contradiction some
    → with_new new (length some.rules) all ≡ with_contradiction all
contradicting n all some new s e =
    ap (λ fs. with_new fs (length some.rules) all) e
    ∙ facts_by (all.rules ++ one_or_none (slice_get some.rules (length some.rules))) true (with_contradiction all)
    (ap (λ o. all.rules ++ one_or_none o) (got_none some.rules) ∙ append-nil all.rules) refl

-- a fact has come
one_new : (n name : FactName) (part : ℕ) (e : Sides) (all some new : Facts) → AreServing n all some
    → new ≡ with_rule name part e some → with_new new (length some.rules) all ≡ with_rule name part e all
one_new n name part e all some new s h =
    let fact : Fact = record { name = record name { part = part }; sides = e } in
    ap (λ fs. with_new fs (length some.rules) all) h
    ∙ facts_by (all.rules ++ one_or_none (slice_get (some.rules ++ fact ∷ []) (length some.rules)))
    some.contradictory (with_rule name part e all)
    (ap (λ o. all.rules ++ one_or_none o) (got_last some.rules fact)) s.contradictory

or_false : (a b c : Bool) → (a || b) ≡ false → c ≡ false → (a || c) ≡ false
or_false true b c h k = h
or_false false b c h k = k

-- what comes where one of these facts is made
comes : (name : FactName) (part : ℕ) (e : Sides) (some new : Facts) → new ≡ with_rule name part e some
    → slice_get new.rules (length some.rules) ≡ Some (record { name = record name { part = part }; sides = e })
comes name part e some new h =
    ap (λ (fs : Facts). slice_get fs.rules (length some.rules)) h
    ∙ got_last some.rules (record { name = record name { part = part }; sides = e })

leads_all : (n name : FactName) (t : Treatment) (all : Facts) (old new : Course) → AreServing n all old.facts
    → HasRoomFor (slice_get new.facts.rules (length old.facts.rules)) all → Leads t name old new
    → Leads t name (among all old) (among (with_new new.facts (length old.facts.rules) all) new)
leads_all n name Drop all old new s r l = (l.0, l.1, none_new n all old.facts new.facts s l.2)
leads_all n name Contradict all old new s r l = (l.0, l.1, contradicting n all old.facts new.facts s l.2)
leads_all n name (Replace others) all old new s r l = (l.0, l.1, none_new n all old.facts new.facts s l.2)
leads_all n name (Keep rule) all old new s r l =
    let room : is_full all ≡ false =
    subst (λ o. HasRoomFor o all) (comes name (suc old.made) rule old.facts new.facts l.1.2) r in (
      or_false (is_large rule.left) (is_full old.facts) (is_full all) l.0 room,
      (l.1.0, l.1.1, one_new n name (suc old.made) rule all old.facts new.facts s l.1.2),
    )

-- an equation that is taken by the facts that serve is taken by all
pub taken_all : (n name : FactName) (ranks : List Ranked) (e : Sides) (b c : ℕ) (all : Facts) (old new : Course)
    → AreServing n all old.facts → HasRoomFor (slice_get new.facts.rules (length old.facts.rules)) all
    → IsTaken (manner_of ranks name) e b c old new
    → IsTaken (manner_beside n ranks name) e b c (among all old)
    (among (with_new new.facts (length old.facts.rules) all) new)
taken_all n name ranks e b c all old new s r t = record {
  found = t.found;
  normal = ap (λ rs. normal_sides rs e b) (sym (rules_serving n ranks name all old.facts s)) ∙ t.normal;
  leads = leads_all n name (treatment ranks t.found) all old new s r t.leads;
}

serving_with : (n name : FactName) (t : Treatment) (all : Facts) (old new : Course) → IsApart n name
    → AreServing n all old.facts → Leads t name old new
    → filter (serves_beside n) (with_new new.facts (length old.facts.rules) all).rules ≡ new.facts.rules
serving_with n name Drop all old new a s l =
    ap (λ (fs : Facts). filter (serves_beside n) fs.rules) (none_new n all old.facts new.facts s l.2)
    ∙ s.rules ∙ ap (λ (fs : Facts). fs.rules) (sym l.2)
serving_with n name Contradict all old new a s l =
    ap (λ (fs : Facts). filter (serves_beside n) fs.rules) (contradicting n all old.facts new.facts s l.2)
    ∙ s.rules ∙ ap (λ (fs : Facts). fs.rules) (sym l.2)
serving_with n name (Replace others) all old new a s l =
    ap (λ (fs : Facts). filter (serves_beside n) fs.rules) (none_new n all old.facts new.facts s l.2)
    ∙ s.rules ∙ ap (λ (fs : Facts). fs.rules) (sym l.2)
serving_with n name (Keep rule) all old new a s l =
    let fact : Fact = record { name = record name { part = suc old.made }; sides = rule } in
    ap (λ (fs : Facts). filter (serves_beside n) fs.rules)
    (one_new n name (suc old.made) rule all old.facts new.facts s l.1.2)
    ∙ filter_new (serves_beside n) all.rules fact (new_serves n name (suc old.made) rule a)
    ∙ ap (λ fs. fs ++ fact ∷ []) s.rules ∙ ap (λ (fs : Facts). fs.rules) (sym l.1.2)

-- and those that serve are so still
pub serving_still : (n name : FactName) (ranks : List Ranked) (e : Sides) (b c : ℕ) (all : Facts) (old new : Course)
    → IsApart n name → AreServing n all old.facts → IsTaken (manner_of ranks name) e b c old new
    → AreServing n (with_new new.facts (length old.facts.rules) all) new.facts
serving_still n name ranks e b c all old new a s t = record {
  rules = serving_with n name (treatment ranks t.found) all old new a s t.leads;
  contradictory = refl;
}

-- ---- what is refused

refuse_all : (n : FactName) (t : Treatment) (all some : Facts) (x : RewriteRefusal) → AreServing n all some
    → MayRefuse t some x → MayRefuse t all x
refuse_all n t all some Memory s h = tt
refuse_all n t all some Limit s h = absurd h
refuse_all n Drop all some TooLarge s h = absurd h
refuse_all n Contradict all some TooLarge s h = absurd h
refuse_all n (Replace others) all some TooLarge s h = absurd h
refuse_all n (Keep rule) all some TooLarge s h =
    or_true (is_large rule.left) (is_full some) (is_full all) (full_all n all some s) h
  where
    or_true : (p q r : Bool) → (q ≡ true → r ≡ true) → (p || q) ≡ true → (p || r) ≡ true
    or_true true q r f g = g
    or_true false q r f g = f g

-- what is refused by the facts that serve is by all
pub stopped_all : (n name : FactName) (ranks : List Ranked) (e : Sides) (b : ℕ) (all some : Facts) (x : RewriteRefusal)
    → AreServing n all some → IsStopped (manner_of ranks name) e b some x
    → IsStopped (manner_beside n ranks name) e b all x
stopped_all n name ranks e b all some x s (inl h) =
    inl (subst (λ rs. Tells (normal_sides rs e b) x) (rules_serving n ranks name all some s) h)
stopped_all n name ranks e b all some x s (inr (found, (c, (h, m)))) =
    inr (
      found,
      (
        c,
        (
          subst (λ rs. normal_sides rs e b ≡ Made found c) (rules_serving n ranks name all some s) h,
          refuse_all n (treatment ranks found) all some x s m,
        ),
      ),
    )

or_last : (a b : Bool) → b ≡ true → (a || b) ≡ true
or_last true b h = refl
or_last false b h = h

nothing_comes : (some more : Facts) → more.rules ≡ some.rules → slice_get more.rules (length some.rules) ≡ None
nothing_comes some more e = ap (λ fs. slice_get fs (length some.rules)) e ∙ got_none some.rules

no_room : (name : FactName) (t : Treatment) (n : FactName) (all : Facts) (old new : Course) (x : RewriteRefusal)
    → AreServing n all old.facts → Leads t name old new
    → HasNoRoomFor (slice_get new.facts.rules (length old.facts.rules)) all x → MayRefuse t all x
no_room name t n all old new Memory s l h = tt
no_room name t n all old new Limit s l h = absurd h
no_room name Drop n all old new TooLarge s l h =
    absurd (subst (λ o. HasNoRoomFor o all TooLarge)
    (nothing_comes old.facts new.facts (ap (λ (fs : Facts). fs.rules) l.2)) h)
no_room name Contradict n all old new TooLarge s l h =
    absurd (subst (λ o. HasNoRoomFor o all TooLarge)
    (nothing_comes old.facts new.facts (ap (λ (fs : Facts). fs.rules) l.2)) h)
no_room name (Replace others) n all old new TooLarge s l h =
    absurd (subst (λ o. HasNoRoomFor o all TooLarge)
    (nothing_comes old.facts new.facts (ap (λ (fs : Facts). fs.rules) l.2)) h)
no_room name (Keep rule) n all old new TooLarge s l h =
    or_last (is_large rule.left) (is_full all)
    (subst (λ o. HasNoRoomFor o all TooLarge) (comes name (suc old.made) rule old.facts new.facts l.1.2) h)

-- where there is no room behind all for what comes, it is refused
pub stopped_full : (n name : FactName) (ranks : List Ranked) (e : Sides) (b c : ℕ) (all : Facts) (old new : Course)
    (x : RewriteRefusal) → AreServing n all old.facts → IsTaken (manner_of ranks name) e b c old new
    → HasNoRoomFor (slice_get new.facts.rules (length old.facts.rules)) all x
    → IsStopped (manner_beside n ranks name) e b all x
stopped_full n name ranks e b c all old new x s t h =
    inr (
      t.found,
      (
        c,
        (
          ap (λ rs. normal_sides rs e b) (sym (rules_serving n ranks name all old.facts s)) ∙ t.normal,
          no_room name (treatment ranks t.found) n all old new x s t.leads h,
        ),
      ),
    )

-- ---- an adding, turn by turn

-- those that wait behind the next one are said
pub front_said : (b : Builder) (es more : List SaidEquation) (e : SaidEquation) → more ≡ es ++ e ∷ []
    → All (IsSaid b) more → All (IsSaid b) es
front_said b es more e p h =
    let g : All (IsSaid b) (es ++ e ∷ []) = subst (All (IsSaid b)) p h in
    all_from (IsSaid b) es (λ d c. All-contains (IsSaid b) (es ++ e ∷ []) d g (contains_left es (e ∷ []) d c))

-- at first the facts without those of a name serve
pub serving_first : (n : FactName) (all some : Facts) → some ≡ facts_without n all → AreServing n all some
serving_first n all some e = record {
  rules = ap (λ (fs : Facts). fs.rules) (sym e);
  contradictory = ap (λ (fs : Facts). fs.contradictory) e;
}

-- what is added to all, with what the facts that serve have got in a turn behind them
later_is : (some later all more : Facts) (place : ℕ) → place ≡ length some.rules → later ≡ with_new more place all
    → later ≡ with_new more (length some.rules) all
later_is some later all more place e h = h ∙ ap (λ i. with_new more i all) e

-- the adding goes on by a turn of the facts that serve
pub goes_beside : (n name : FactName) (ranks : List Ranked) (e d : Sides) (facts all later some : Facts)
    (b left r place made : ℕ) (waits rest : List Sides) (new : Course)
    → Goes (manner_beside n ranks name) e facts b (record { made = made; waiting = waits; facts = all }) left
    → waits ≡ d ∷ rest → AreServing n all some → place ≡ length some.rules → later ≡ with_new new.facts place all
    → HasRoomFor (slice_get new.facts.rules place) all
    → IsTaken (manner_of ranks name) d left r (record { made = made; waiting = rest; facts = some }) new
    → Goes (manner_beside n ranks name) e facts b (among later new) r
goes_beside n name ranks e d facts all later some b left r place made waits rest new g p s q l h t =
    let old : Course = record { made = made; waiting = rest; facts = some } in
    goes_turn (manner_beside n ranks name) e d facts b (record { made = made; waiting = waits; facts = all })
    (among later new) left r rest g p
    (subst (λ fs. IsTaken (manner_beside n ranks name) d left r (among all old) (among fs new))
    (sym (later_is some later all new.facts place q l))
    (taken_all n name ranks d left r all old new s
    (subst (λ i. HasRoomFor (slice_get new.facts.rules i) all) q h) t))

pub serving_beside : (n name : FactName) (ranks : List Ranked) (d : Sides) (all later some : Facts)
    (left r place made : ℕ) (rest : List Sides) (new : Course) → IsApart n name → AreServing n all some
    → place ≡ length some.rules → later ≡ with_new new.facts place all
    → IsTaken (manner_of ranks name) d left r (record { made = made; waiting = rest; facts = some }) new
    → AreServing n later new.facts
serving_beside n name ranks d all later some left r place made rest new a s q l t =
    let old : Course = record { made = made; waiting = rest; facts = some } in
    subst (λ fs. AreServing n fs new.facts) (sym (later_is some later all new.facts place q l))
    (serving_still n name ranks d left r all old new a s t)

-- or it is refused: where a turn is, or where there is no room behind all
pub stopped_beside : (n name : FactName) (ranks : List Ranked) (d : Sides) (all some : Facts) (left r place made : ℕ)
    (rest : List Sides) (new : Course) (x : RewriteRefusal) → AreServing n all some → place ≡ length some.rules
    → IsTaken (manner_of ranks name) d left r (record { made = made; waiting = rest; facts = some }) new
    → HasNoRoomFor (slice_get new.facts.rules place) all x → IsStopped (manner_beside n ranks name) d left all x
stopped_beside n name ranks d all some left r place made rest new x s q t h =
    stopped_full n name ranks d left r all (record { made = made; waiting = rest; facts = some }) new x s t
    (subst (λ i. HasNoRoomFor (slice_get new.facts.rules i) all x) q h)
