-- The critical pairs of a new rule, rule by rule.
use Rattle.std.specs.Prelude.{◌≡◌, ◌+◌, ◌<◌, ◌≤◌, ◌++◌, ◌∷◌, [], true, false, ℕ, List, Ok, Err, drop, get_or}
use Rattle.std.specs.Prelude.{length, map, refl}
use Rattle.std.proofs.Common.{ap, sym, subst, ◌∙◌}
use Rattle.std.proofs.lemmas.List.{append-nil, append_assoc, at_drop_more, drop_all}
use Rattle.larch_complete_meaning.specs.Pairs.{pairs_in, pairs_of_new}
use Rattle.larch_complete_meaning.specs.Steps.{Step, after}
use Rattle.larch_complete_meaning.specs.declared.answer.CompletionAnswer.{CompletionAnswer}
use Rattle.larch_complete_meaning.specs.declared.answer.CompletionAnswer.TheVariants.{TooLarge}
use Rattle.larch_complete_pairs.specs.Said.{Stops, WaitBehind, rule_in, sides_in}
use Rattle.larch_complete_pairs.specs.declared.said.SaidEquation.{SaidEquation}
use Rattle.larch_complete_pairs.specs.declared.said.SaidRule.{SaidRule}
use Rattle.larch_complete_rounds.specs.Certified.{sides_behind}
use Rattle.larch_complete_rounds.specs.declared.certified.CertifiedRule.{CertifiedRule}
use Rattle.larch_pairs.specs.declared.refusal.PairRefusal.{PairRefusal}
use Rattle.larch_pairs.specs.declared.refusal.PairRefusal.TheVariants.{TooLarge as pair_too_large}
use Rattle.larch_pairs.specs.declared.refusal.PairRefusal.TheVariants.{Memory as pair_memory}
use Rattle.larch_rewrite_meaning.specs.Sides.{Sides}

-- what a step comes to, behind others
abbrev behind : List Sides → Step (List Sides) → Step (List Sides)
behind done s = after s (λ es. Ok (done ++ es))

behind_none : (s : Step (List Sides)) → s ≡ behind [] s
behind_none (Ok es) = refl
behind_none (Err answer) = refl

-- the pairs so far wait, and the others are to come
pub record Pairing (rules : List Sides) (new : Sides) (rest old now : List Sides) : Type 0 where
  pub found : List Sides
  pub same : pairs_of_new rules new ≡ behind found (pairs_of_new rest new)
  pub waiting : now ≡ old ++ found

pub pairing_begins : (rules : List Sides) (new : Sides) (old now : List Sides) → now ≡ old ++ []
    → Pairing rules new rules old now
pairing_begins rules new old now e =
    record { found = []; same = behind_none (pairs_of_new rules new); waiting = e }

both_behind : (done a b : List Sides) (s : Step (List Sides))
    → behind done (after s (λ others. Ok (a ++ (b ++ others)))) ≡ behind ((done ++ a) ++ b) s
both_behind done a b (Ok es) =
    ap Ok (sym (append_assoc (done ++ a) b es ∙ append_assoc done a (b ++ es)))
both_behind done a b (Err answer) = refl

pairs_made : (rest : List Sides) (r new : Sides) (a b : List Sides) → pairs_in r new false ≡ Ok a
    → pairs_in new r false ≡ Ok b
    → pairs_of_new (r ∷ rest) new ≡ after (pairs_of_new rest new) (λ others. Ok (a ++ (b ++ others)))
pairs_made rest r new a b p q =
    ap (λ s. after s (λ in_rule. after (pairs_in new r false) (λ in_new. after (pairs_of_new rest new)
    (λ others. Ok (in_rule ++ (in_new ++ others)))))) p
    ∙ ap (λ s. after s (λ in_new. after (pairs_of_new rest new) (λ others. Ok (a ++ (in_new ++ others))))) q

-- one rule further
pub pairing_steps : (rules rest : List Sides) (r new : Sides) (old now half more a b : List Sides)
    → Pairing rules new (r ∷ rest) old now → pairs_in r new false ≡ Ok a → half ≡ now ++ a
    → pairs_in new r false ≡ Ok b → more ≡ half ++ b → Pairing rules new rest old more
pairing_steps rules rest r new old now half more a b h p e q f = record {
  found = (h.found ++ a) ++ b;
  same = h.same ∙ ap (behind h.found) (pairs_made rest r new a b p q) ∙ both_behind h.found a b (pairs_of_new rest new);
  waiting = f ∙ ap (λ xs. xs ++ b) (e ∙ ap (λ xs. xs ++ a) h.waiting ∙ append_assoc old h.found a)
      ∙ append_assoc old (h.found ++ a) b;
}

-- the pairs of a new rule with itself
pub pairing_ends : (rules : List Sides) (new : Sides) (old now more c : List Sides) → Pairing rules new [] old now
    → pairs_in new new true ≡ Ok c → more ≡ now ++ c
    → (es : List Sides) × ((pairs_of_new rules new ≡ Ok es) × (more ≡ old ++ es))
pairing_ends rules new old now more c h p e = (
  h.found ++ c,
  (
    h.same ∙ ap (behind h.found) p,
    e ∙ ap (λ xs. xs ++ c) h.waiting ∙ append_assoc old h.found c,
  ),
)

-- where a part ends it, all ends so
pub pairing_stops_first : (rules rest : List Sides) (r new : Sides) (old now : List Sides) (answer : CompletionAnswer)
    → Pairing rules new (r ∷ rest) old now → pairs_in r new false ≡ Err answer → pairs_of_new rules new ≡ Err answer
pairing_stops_first rules rest r new old now answer h p =
    h.same
    ∙ ap (λ s. behind h.found (after s (λ in_rule. after (pairs_in new r false)
    (λ in_new. after (pairs_of_new rest new) (λ others. Ok (in_rule ++ (in_new ++ others))))))) p

pub pairing_stops_second : (rules rest : List Sides) (r new : Sides) (old now a : List Sides)
    (answer : CompletionAnswer) → Pairing rules new (r ∷ rest) old now → pairs_in r new false ≡ Ok a
    → pairs_in new r false ≡ Err answer → pairs_of_new rules new ≡ Err answer
pairing_stops_second rules rest r new old now a answer h p q =
    h.same
    ∙ ap (λ s. behind h.found (after s (λ in_rule. after (pairs_in new r false)
    (λ in_new. after (pairs_of_new rest new) (λ others. Ok (in_rule ++ (in_new ++ others))))))) p
    ∙ ap (λ s. behind h.found (after s (λ in_new. after (pairs_of_new rest new)
    (λ others. Ok (a ++ (in_new ++ others)))))) q

pub pairing_stops_last : (rules : List Sides) (new : Sides) (old now : List Sides)
    (answer : CompletionAnswer) → Pairing rules new [] old now → pairs_in new new true ≡ Err answer
    → pairs_of_new rules new ≡ Err answer
pairing_stops_last rules new old now answer h p = h.same ∙ ap (behind h.found) p

-- the sides of the rules that are left
pub sides_left : {X : Type 0} (f : X → Sides) (xs : List X) (i : ℕ) (x : X) → i < length xs → x ≡ get_or xs i x
    → map f (drop i xs) ≡ f x ∷ map f (drop (i + 1) xs)
sides_left f xs i x l e =
    at_drop_more (map f) xs i x l ∙ ap (λ y. f y ∷ map f (drop (i + 1) xs)) (sym e)

-- ---- with lines

abbrev Pairs : List CertifiedRule → SaidRule → ℕ → List SaidEquation → List SaidEquation → Type 0
Pairs rules new i old now =
    Pairing (map sides_behind rules) (rule_in new) (map sides_behind (drop i rules)) (map sides_in old)
    (map sides_in now)

pub pairs_begin : (rules : List CertifiedRule) (new : SaidRule) (old : List SaidEquation) → Pairs rules new 0 old old
pairs_begin rules new old =
    pairing_begins (map sides_behind rules) (rule_in new) (map sides_in old) (map sides_in old)
    (sym (append-nil (map sides_in old)))

at_rule : (rules : List CertifiedRule) (new : SaidRule) (i : ℕ) (r : CertifiedRule) (old now : List SaidEquation)
    → i < length rules → r ≡ get_or rules i r → Pairs rules new i old now
    → Pairing (map sides_behind rules) (rule_in new) (sides_behind r ∷ map sides_behind (drop (i + 1) rules))
    (map sides_in old) (map sides_in now)
at_rule rules new i r old now l e h =
    subst (λ rs. Pairing (map sides_behind rules) (rule_in new) rs (map sides_in old) (map sides_in now))
    (sides_left sides_behind rules i r l e) h

pub pairs_step : (rules : List CertifiedRule) (new : SaidRule) (i : ℕ) (r : CertifiedRule)
    (old now half more : List SaidEquation) → i < length rules → r ≡ get_or rules i r → Pairs rules new i old now
    → WaitBehind (pairs_in (sides_behind r) (rule_in new) false) now half
    → WaitBehind (pairs_in (rule_in new) (sides_behind r) false) half more → Pairs rules new (i + 1) old more
pairs_step rules new i r old now half more l e h p q =
    pairing_steps (map sides_behind rules) (map sides_behind (drop (i + 1) rules)) (sides_behind r) (rule_in new)
    (map sides_in old) (map sides_in now) (map sides_in half) (map sides_in more) p.equations q.equations
    (at_rule rules new i r old now l e h) p.comes_to p.waiting q.comes_to q.waiting

pub pairs_stop_first : (rules : List CertifiedRule) (new : SaidRule) (i : ℕ) (r : CertifiedRule)
    (old now : List SaidEquation) (x : PairRefusal) → i < length rules → r ≡ get_or rules i r
    → Pairs rules new i old now → Stops (pairs_in (sides_behind r) (rule_in new) false) x
    → Stops (pairs_of_new (map sides_behind rules) (rule_in new)) x
pairs_stop_first rules new i r old now pair_too_large l e h p =
    pairing_stops_first (map sides_behind rules) (map sides_behind (drop (i + 1) rules)) (sides_behind r) (rule_in new)
    (map sides_in old) (map sides_in now) TooLarge (at_rule rules new i r old now l e h) p
pairs_stop_first rules new i r old now pair_memory l e h p = tt

pub pairs_stop_second : (rules : List CertifiedRule) (new : SaidRule) (i : ℕ) (r : CertifiedRule)
    (old now half : List SaidEquation) (x : PairRefusal) → i < length rules → r ≡ get_or rules i r
    → Pairs rules new i old now → WaitBehind (pairs_in (sides_behind r) (rule_in new) false) now half
    → Stops (pairs_in (rule_in new) (sides_behind r) false) x
    → Stops (pairs_of_new (map sides_behind rules) (rule_in new)) x
pairs_stop_second rules new i r old now half pair_too_large l e h p q =
    pairing_stops_second (map sides_behind rules) (map sides_behind (drop (i + 1) rules)) (sides_behind r)
    (rule_in new) (map sides_in old) (map sides_in now) p.equations TooLarge (at_rule rules new i r old now l e h)
    p.comes_to q
pairs_stop_second rules new i r old now half pair_memory l e h p q = tt

at_end : (rules : List CertifiedRule) (new : SaidRule) (i : ℕ) (old now : List SaidEquation)
    → length rules ≤ i → Pairs rules new i old now
    → Pairing (map sides_behind rules) (rule_in new) [] (map sides_in old) (map sides_in now)
at_end rules new i old now l h =
    subst (λ rs. Pairing (map sides_behind rules) (rule_in new) (map sides_behind rs) (map sides_in old)
    (map sides_in now)) (drop_all i rules l) h

pub pairs_end : (rules : List CertifiedRule) (new : SaidRule) (i : ℕ) (old now more : List SaidEquation)
    → length rules ≤ i → Pairs rules new i old now → WaitBehind (pairs_in (rule_in new) (rule_in new) true) now more
    → WaitBehind (pairs_of_new (map sides_behind rules) (rule_in new)) old more
pairs_end rules new i old now more l h p =
    let w = pairing_ends (map sides_behind rules) (rule_in new) (map sides_in old) (map sides_in now)
    (map sides_in more) p.equations (at_end rules new i old now l h) p.comes_to p.waiting in
    record { equations = w.0; comes_to = w.1.0; waiting = w.1.1 }

pub pairs_stop_last : (rules : List CertifiedRule) (new : SaidRule) (i : ℕ) (old now : List SaidEquation)
    (x : PairRefusal) → length rules ≤ i → Pairs rules new i old now
    → Stops (pairs_in (rule_in new) (rule_in new) true) x
    → Stops (pairs_of_new (map sides_behind rules) (rule_in new)) x
pairs_stop_last rules new i old now pair_too_large l h p =
    pairing_stops_last (map sides_behind rules) (rule_in new) (map sides_in old) (map sides_in now) TooLarge
    (at_end rules new i old now l h) p
pairs_stop_last rules new i old now pair_memory l h p = tt
