-- What tests of equations find, put together.
use Rattle.std.specs.Prelude.{◌≡◌, ◌↔◌, ◌+◌, ◌<◌, ◌≤◌, ◌==◌, ℕ, suc, Bool, true, false, IsTrue, List, [], ◌∷◌, ◌++◌}
use Rattle.std.specs.Prelude.{Option, Some, None, Ok, drop, get_or, length, map, option_map, refl}
use Rattle.std.proofs.Common.{ap, arith, sym, subst, ◌∙◌}
use Rattle.std.proofs.lemmas.List.{append-nil, append_assoc, drop_all}
use Rattle.larch_complete.specs.Tests.{Finds, Halts, IsTold, TellsOf}
use Rattle.larch_complete_meaning.specs.LastTest.{first_apart, first_apart_in, last_test, unless_found}
use Rattle.larch_complete_meaning.specs.Pairs.{pairs_from, pairs_in, pairs_in_each, pairs_of_all}
use Rattle.larch_complete_meaning.specs.Rounds.{Task, reduce}
use Rattle.larch_complete_meaning.specs.Steps.{Step, after}
use Rattle.larch_complete_pairs.specs.Said.{Stops, WaitBehind, sides_in}
use Rattle.larch_complete_pairs.specs.declared.said.SaidEquation.{SaidEquation}
use Rattle.larch_complete_rounds.specs.Certified.{sides_behind}
use Rattle.larch_complete_rounds.specs.Halt.{Tells, from_pairing}
use Rattle.larch_complete_rounds.specs.Task.{task_in}
use Rattle.larch_complete_rounds.specs.declared.certified.CertifiedRule.{CertifiedRule}
use Rattle.larch_complete_rounds.specs.declared.halt.Halt.{Halt}
use Rattle.larch_complete_rounds.specs.declared.halt.Halt.TheVariants.{Ends, Memory}
use Rattle.larch_complete_rounds.specs.declared.task.CompletionTask.{CompletionTask}
use Rattle.larch_complete_rounds.proofs.NewPairs.{sides_left}
use Rattle.larch_pairs.specs.declared.refusal.PairRefusal.{PairRefusal}
use Rattle.larch_pairs.specs.declared.refusal.PairRefusal.TheVariants.{TooLarge as pair_too_large}
use Rattle.larch_pairs.specs.declared.refusal.PairRefusal.TheVariants.{Memory as pair_memory}
use Rattle.larch_rewrite_meaning.specs.Sides.{Sides}
use Rattle.larch_term.specs.Equality.{same_tree}
use Rattle.larch_term.specs.Tree.{Tree}
use Rattle.larch_term.proofs.Decided.{tree_Decides}

-- ---- an equation

same_is : (l r : Tree) (b : Bool) → (IsTrue b ↔ (l ≡ r)) → same_tree l r ≡ b
same_is l r true k = (tree_Decides l r).1 (k.0 refl)
same_is l r false k = by_test (same_tree l r) (tree_Decides l r).0
  where
    by_test : (c : Bool) → (c ≡ true → l ≡ r) → c ≡ false
    by_test true h = let q : false ≡ true = k.1 (h refl) in cc
    by_test false h = refl

pub joins_told : (task : Task) (rules : List Sides) (e found : Sides) (b : Bool) → reduce task rules e ≡ Ok found
    → (IsTrue b ↔ (found.left ≡ found.right)) → IsTold task rules e b
joins_told task rules e found b p k es =
    ap (λ s. after s (λ f. elim (same_tree f.left f.right) [ true ↦ first_apart task rules es | false ↦ Ok (Some e) ]))
    p
    ∙ ap (λ c. elim c [ true ↦ first_apart task rules es | false ↦ Ok (Some e) ]) (same_is found.left found.right b k)

pub joins_halts : (task : Task) (rules : List Sides) (e : Sides) (h : Halt) → Tells (reduce task rules e) h
    → TellsOf task rules e h
joins_halts task rules e (Ends answer) p es =
    ap (λ s. after s (λ f. elim (same_tree f.left f.right) [ true ↦ first_apart task rules es | false ↦ Ok (Some e) ]))
    p
joins_halts task rules e Memory p es = tt

told_true : (task : Task) (rules : List Sides) (e : Sides) (b : Bool) → b ≡ true → IsTold task rules e b
    → IsTold task rules e true
told_true task rules e b q k = subst (IsTold task rules e) q k

told_false : (task : Task) (rules : List Sides) (e : Sides) (b : Bool) → b ≡ false → IsTold task rules e b
    → IsTold task rules e false
told_false task rules e b q k = subst (IsTold task rules e) q k

-- ---- equations, one by one

-- a test goes on to the equations behind one
pub apart_goes : (task : Task) (rules later : List Sides) (start now rest : List SaidEquation) (e : SaidEquation)
    (b : Bool) → now ≡ e ∷ rest → later ≡ rules
    → first_apart task rules (map sides_in now) ≡ first_apart task rules (map sides_in start)
    → b ≡ true → IsTold task later (sides_in e) b
    → first_apart task rules (map sides_in rest) ≡ first_apart task rules (map sides_in start)
apart_goes task rules later start now rest e b n r h t k =
    sym (told_true task rules (sides_in e) b t (subst (λ rs. IsTold task rs (sides_in e) b) r k) (map sides_in rest))
    ∙ sym (ap (λ es. first_apart task rules (map sides_in es)) n) ∙ h

pub apart_found : (task : Task) (rules later : List Sides) (start now rest : List SaidEquation) (e : SaidEquation)
    (b : Bool) → now ≡ e ∷ rest → later ≡ rules
    → first_apart task rules (map sides_in now) ≡ first_apart task rules (map sides_in start)
    → b ≡ false → IsTold task later (sides_in e) b
    → first_apart task rules (map sides_in start) ≡ Ok (Some (sides_in e))
apart_found task rules later start now rest e b n r h t k =
    sym h ∙ ap (λ es. first_apart task rules (map sides_in es)) n
    ∙ told_false task rules (sides_in e) b t (subst (λ rs. IsTold task rs (sides_in e) b) r k) (map sides_in rest)

pub apart_halts : (task : Task) (rules later : List Sides) (start now rest : List SaidEquation) (e : SaidEquation)
    (x : Halt) → now ≡ e ∷ rest → later ≡ rules
    → first_apart task rules (map sides_in now) ≡ first_apart task rules (map sides_in start)
    → TellsOf task later (sides_in e) x → Tells (first_apart task rules (map sides_in start)) x
apart_halts task rules later start now rest e (Ends answer) n r h t =
    sym h ∙ ap (λ es. first_apart task rules (map sides_in es)) n
    ∙ subst (λ rs. TellsOf task rs (sides_in e) (Ends answer)) r t (map sides_in rest)
apart_halts task rules later start now rest e Memory n r h t = tt

pub apart_none : (task : Task) (rules : List Sides) (start now : List SaidEquation) → now ≡ []
    → first_apart task rules (map sides_in now) ≡ first_apart task rules (map sides_in start)
    → first_apart task rules (map sides_in start) ≡ Ok None
apart_none task rules start now n h = sym h ∙ ap (λ es. first_apart task rules (map sides_in es)) n

-- ---- a list of equations

pub group_found : (task : Task) (rules : List Sides) (group : Step (List Sides)) (es : List Sides)
    (found : Option Sides) → group ≡ Ok es → first_apart task rules es ≡ Ok found
    → Finds task rules (group ∷ []) found
group_found task rules group es found g h others =
    ap (λ s. after s (λ ds. after (first_apart task rules ds) (λ f. unless_found (first_apart_in task rules others) f)))
    g
    ∙ ap (λ s. after s (λ f. unless_found (first_apart_in task rules others) f)) h

pub group_halts : (task : Task) (rules : List Sides) (group : Step (List Sides)) (es : List Sides) (x : Halt)
    → group ≡ Ok es → Tells (first_apart task rules es) x → Halts task rules (group ∷ []) x
group_halts task rules group es (Ends answer) g h others =
    ap (λ s. after s (λ ds. after (first_apart task rules ds) (λ f. unless_found (first_apart_in task rules others) f)))
    g
    ∙ ap (λ s. after s (λ f. unless_found (first_apart_in task rules others) f)) h
group_halts task rules group es Memory g h others = tt

pub group_refused : (task : Task) (rules : List Sides) (group : Step (List Sides)) (x : PairRefusal) → Stops group x
    → Halts task rules (group ∷ []) (from_pairing x)
group_refused task rules group pair_too_large h others =
    ap (λ s. after s (λ ds. after (first_apart task rules ds) (λ f. unless_found (first_apart_in task rules others) f)))
    h
group_refused task rules group pair_memory h others = tt

-- pairs that wait behind none
pub pairs_formed : (group : Step (List Sides)) (old now : List SaidEquation) → old ≡ [] → WaitBehind group old now
    → group ≡ Ok (map sides_in now)
pairs_formed group old now n w = w.comes_to ∙ ap Ok (sym (w.waiting ∙ ap (λ es. map sides_in es ++ w.equations) n))

-- ---- lists, one by one

-- a test of the whole goes on with the rest
pub Left : Task → List Sides → List (Step (List Sides)) → List (Step (List Sides)) → Type 0
Left task rules whole rest =
    (others : List (Step (List Sides))) → first_apart_in task rules (whole ++ others)
    ≡ first_apart_in task rules (rest ++ others)

pub all_left : (task : Task) (rules : List Sides) (whole rest : List (Step (List Sides))) → whole ≡ rest
    → Left task rules whole rest
unfolding Left
all_left task rules whole rest e others = ap (λ gs. first_apart_in task rules (gs ++ others)) e

further : (task : Task) (rules : List Sides) (whole now gs rest others : List (Step (List Sides)))
    → Left task rules whole now → now ≡ gs ++ rest
    → first_apart_in task rules (whole ++ others) ≡ first_apart_in task rules (gs ++ (rest ++ others))
unfolding Left
further task rules whole now gs rest others h e =
    h others ∙ ap (λ ks. first_apart_in task rules (ks ++ others)) e
    ∙ ap (first_apart_in task rules) (append_assoc gs rest others)

pub left_steps : (task : Task) (rules : List Sides) (whole now gs rest : List (Step (List Sides)))
    → Left task rules whole now → now ≡ gs ++ rest → Finds task rules gs None → Left task rules whole rest
unfolding Left
left_steps task rules whole now gs rest h e f others =
    further task rules whole now gs rest others h e ∙ f (rest ++ others)

pub left_found : (task : Task) (rules : List Sides) (whole now gs rest : List (Step (List Sides))) (d : Sides)
    → Left task rules whole now → now ≡ gs ++ rest → Finds task rules gs (Some d) → Finds task rules whole (Some d)
left_found task rules whole now gs rest d h e f others =
    further task rules whole now gs rest others h e ∙ f (rest ++ others)

pub left_halts : (task : Task) (rules : List Sides) (whole now gs rest : List (Step (List Sides))) (x : Halt)
    → Left task rules whole now → now ≡ gs ++ rest → Halts task rules gs x → Halts task rules whole x
left_halts task rules whole now gs rest (Ends answer) h e f others =
    further task rules whole now gs rest others h e ∙ f (rest ++ others)
left_halts task rules whole now gs rest Memory h e f others = tt

pub left_none : (task : Task) (rules : List Sides) (whole now : List (Step (List Sides)))
    → Left task rules whole now → now ≡ [] → Finds task rules whole None
unfolding Left
left_none task rules whole now h e others = h others ∙ ap (λ ks. first_apart_in task rules (ks ++ others)) e

-- the rules are the same still, and what is found is seen without its line
pub goes_left : (task : Task) (rules later : List Sides) (whole now gs rest : List (Step (List Sides)))
    (found : Option SaidEquation) → later ≡ rules → Left task rules whole now → now ≡ gs ++ rest → found ≡ None
    → Finds task later gs (option_map sides_in found) → Left task rules whole rest
goes_left task rules later whole now gs rest found r h e n f =
    left_steps task rules whole now gs rest h e
    (subst (λ rs. Finds task rs gs None) r (subst (λ o. Finds task later gs (option_map sides_in o)) n f))

pub finds_left : (task : Task) (rules later : List Sides) (whole now gs rest : List (Step (List Sides)))
    (found : Option SaidEquation) (d : SaidEquation) → later ≡ rules → Left task rules whole now → now ≡ gs ++ rest
    → found ≡ Some d → Finds task later gs (option_map sides_in found)
    → Finds task rules whole (option_map sides_in (Some d))
finds_left task rules later whole now gs rest found d r h e n f =
    left_found task rules whole now gs rest (sides_in d) h e
    (subst (λ rs. Finds task rs gs (Some (sides_in d))) r
    (subst (λ o. Finds task later gs (option_map sides_in o)) n f))

pub halts_left : (task : Task) (rules later : List Sides) (whole now gs rest : List (Step (List Sides))) (x : Halt)
    → later ≡ rules → Left task rules whole now → now ≡ gs ++ rest → Halts task later gs x
    → Halts task rules whole x
halts_left task rules later whole now gs rest x r h e f =
    left_halts task rules whole now gs rest x h e (subst (λ rs. Halts task rs gs x) r f)

-- ---- pairs

-- pairs in a rule, with the rules from one on
abbrev pub row_left : ℕ → Sides → List CertifiedRule → ℕ → List (Step (List Sides))
row_left i r rules j = pairs_from i r j (map sides_behind (drop j rules))

pub row_next : (i : ℕ) (r : Sides) (rules : List CertifiedRule) (j : ℕ) (q : CertifiedRule) → j < length rules
    → q ≡ get_or rules j q
    → row_left i r rules j ≡ (pairs_in r (sides_behind q) (i == j) ∷ []) ++ row_left i r rules (j + 1)
row_next i r rules j q l e =
    let n : suc j ≡ j + 1 = omega arith in
    ap (pairs_from i r j) (sides_left sides_behind rules j q l e)
    ∙ ap (λ k. pairs_in r (sides_behind q) (i == j) ∷ pairs_from i r k (map sides_behind (drop (j + 1) rules))) n

pub row_ends : (i : ℕ) (r : Sides) (rules : List CertifiedRule) (j : ℕ) → length rules ≤ j → row_left i r rules j ≡ []
row_ends i r rules j l = ap (λ rs. pairs_from i r j (map sides_behind rs)) (drop_all j rules l)

-- pairs in rules from one on
abbrev pub rows_left : List CertifiedRule → ℕ → List (Step (List Sides))
rows_left rules i = pairs_in_each (map sides_behind rules) i (map sides_behind (drop i rules))

pub rows_next : (rules : List CertifiedRule) (i : ℕ) (r : CertifiedRule) → i < length rules → r ≡ get_or rules i r
    → rows_left rules i ≡ pairs_from i (sides_behind r) 0 (map sides_behind rules) ++ rows_left rules (i + 1)
rows_next rules i r l e =
    let all = map sides_behind rules in
    let n : suc i ≡ i + 1 = omega arith in
    ap (pairs_in_each all i) (sides_left sides_behind rules i r l e)
    ∙ ap (λ k. pairs_from i (sides_behind r) 0 all ++ pairs_in_each all k (map sides_behind (drop (i + 1) rules))) n

pub rows_end : (rules : List CertifiedRule) (i : ℕ) → length rules ≤ i → rows_left rules i ≡ []
rows_end rules i l = ap (λ rs. pairs_in_each (map sides_behind rules) i (map sides_behind rs)) (drop_all i rules l)

-- ---- the last test

-- equations that are the theory's
own_equations : (task : CompletionTask) (rules : List Sides) (es : List SaidEquation) (s : Step (Option Sides))
    → es ≡ task.equations → first_apart (task_in task) rules (map sides_in es) ≡ s
    → first_apart (task_in task) rules (map sides_in task.equations) ≡ s
own_equations task rules es s e h =
    ap (λ ds. first_apart (task_in task) rules (map sides_in ds)) (sym e) ∙ h

pub test_found : (task : CompletionTask) (rules : List Sides) (es : List SaidEquation) (found : Option SaidEquation)
    (d : SaidEquation) → es ≡ task.equations → found ≡ Some d
    → first_apart (task_in task) rules (map sides_in es) ≡ Ok (option_map sides_in found)
    → last_test (task_in task) rules ≡ Ok (option_map sides_in (Some d))
test_found task rules es found d e n h =
    group_found (task_in task) rules (Ok (map sides_in task.equations)) (map sides_in task.equations)
    (Some (sides_in d)) refl
    (own_equations task rules es (Ok (Some (sides_in d))) e (h ∙ ap (λ o. Ok (option_map sides_in o)) n))
    (pairs_of_all rules)

pub test_halts : (task : CompletionTask) (rules : List Sides) (es : List SaidEquation) (x : Halt)
    → es ≡ task.equations → Tells (first_apart (task_in task) rules (map sides_in es)) x
    → Tells (last_test (task_in task) rules) x
test_halts task rules es x e h =
    group_halts (task_in task) rules (Ok (map sides_in task.equations)) (map sides_in task.equations) x refl
    (subst (λ ds. Tells (first_apart (task_in task) rules (map sides_in ds)) x) e h) (pairs_of_all rules)

-- the theory's equations are decided, and the test goes on
test_goes : (task : CompletionTask) (rules behind : List Sides) (es : List SaidEquation) (first : Option SaidEquation)
    → es ≡ task.equations → first ≡ None
    → first_apart (task_in task) rules (map sides_in es) ≡ Ok (option_map sides_in first) → rules ≡ behind
    → last_test (task_in task) rules ≡ first_apart_in (task_in task) rules (pairs_of_all behind ++ [])
test_goes task rules behind es first e n h b =
    group_found (task_in task) rules (Ok (map sides_in task.equations)) (map sides_in task.equations) None refl
    (own_equations task rules es (Ok None) e (h ∙ ap (λ o. Ok (option_map sides_in o)) n)) (pairs_of_all rules)
    ∙ ap (λ rs. first_apart_in (task_in task) rules (pairs_of_all rs)) b
    ∙ ap (first_apart_in (task_in task) rules) (sym (append-nil (pairs_of_all behind)))

unless_none : (found : Option Sides) → unless_found (Ok None) found ≡ Ok found
unless_none None = refl
unless_none (Some e) = refl

pub test_finds : (task : CompletionTask) (rules later behind : List Sides) (es : List SaidEquation)
    (first found : Option SaidEquation) → es ≡ task.equations → first ≡ None
    → first_apart (task_in task) rules (map sides_in es) ≡ Ok (option_map sides_in first) → later ≡ rules
    → rules ≡ behind → Finds (task_in task) later (pairs_of_all behind) (option_map sides_in found)
    → last_test (task_in task) rules ≡ Ok (option_map sides_in found)
test_finds task rules later behind es first found e n h r b f =
    test_goes task rules behind es first e n h b
    ∙ subst (λ rs. Finds (task_in task) rs (pairs_of_all behind) (option_map sides_in found)) r f []
    ∙ unless_none (option_map sides_in found)

pub test_stops : (task : CompletionTask) (rules later behind : List Sides) (es : List SaidEquation)
    (first : Option SaidEquation) (x : Halt) → es ≡ task.equations → first ≡ None
    → first_apart (task_in task) rules (map sides_in es) ≡ Ok (option_map sides_in first) → later ≡ rules
    → rules ≡ behind → Halts (task_in task) later (pairs_of_all behind) x → Tells (last_test (task_in task) rules) x
test_stops task rules later behind es first (Ends answer) e n h r b f =
    test_goes task rules behind es first e n h b
    ∙ subst (λ rs. Halts (task_in task) rs (pairs_of_all behind) (Ends answer)) r f []
test_stops task rules later behind es first Memory e n h r b f = tt
