-- Entries of different variables.
use Rattle.std.proofs.Common.{◌≡◌, ◌≢◌, ℕ, ◌+◌, inl, inr, false, List, [], ◌∷◌, ◌++◌, fold, All, AllPairs, arith, refl}
use Rattle.std.proofs.Common.{sym, ◌∙◌, ap, subst}
use Rattle.std.specs.Prelude.{codes}
use Rattle.std.specs.Fmt.{decimal}
use Rattle.std.specs.List.{flat_map}
use Rattle.std.proofs.lemmas.Grind.{flat_map-append}
use Rattle.std.proofs.lemmas.List.Elements.{All-nil, All-cons, All-head, All-tail}
use Rattle.std.proofs.lemmas.List.Kept.{AllPairs-cons}
use Rattle.std.proofs.lemmas.List.Sums.{fold-append}
use Rattle.larch_base.proofs.Bools.{true_or_false}
use Rattle.larch_base.proofs.Lists.{pairs_head, pairs_map, pairs_tail}
use Rattle.larch_term.specs.Operator.{plain}
use Rattle.larch_term.specs.Substitution.{is_entry_of, instance_of}
use Rattle.larch_term.specs.Tree.{Tree, Forest, var, app, none, more}
use Rattle.larch_term.specs.Variable.{occurrences, occurrences_in, same_variable, with_variable}
use Rattle.larch_term.specs.declared.substitution.Entry.{Entry}
use Rattle.larch_term.specs.declared.variable.Variable.{Variable}
use Rattle.larch_pairs.proofs.TermLawOccurring.{listed_once, variable_Decides}
use Rattle.larch_pairs_critical.specs.Pairs.{marking, number_variables, pair_variables}
use Rattle.larch_pairs.specs.Unify.{entries_under, variables_of_both}
use Rattle.larch_pairs_critical.specs.declared.pair.Pair.{Pair}
use Rattle.larch_pairs_critical.specs.declared.pair.Rule.{Rule}

-- no two entries are of one variable
abbrev pub Different : List Entry → Type 0
Different = AllPairs (λ d e. is_entry_of e.name e.sort d ≡ false)

pub under_different : (es bs : List Entry) → AllPairs (λ d e. is_entry_of e.name e.sort d ≡ false) bs
    → AllPairs (λ d e. is_entry_of e.name e.sort d ≡ false) (entries_under es bs)
under_different es bs h =
    pairs_map (λ d e. is_entry_of e.name e.sort d ≡ false) (λ d e. is_entry_of e.name e.sort d ≡ false)
    (λ d. record { name = d.name; sort = d.sort; term = instance_of es d.term }) bs (λ x y p q s. s) h

-- variables as the arguments of one term
abbrev all_variables : List Variable → Forest
all_variables [] = none
all_variables (v ∷ vs) = more (var v.name v.sort) (all_variables vs)

occur_all : (vs : List Variable) → occurrences_in (all_variables vs) ≡ vs
occur_all [] = refl
occur_all (v ∷ vs) = ap (λ ws. v ∷ ws) (occur_all vs)

-- a list of variables, each put behind those before it unless it is there, has none twice
collected_once : (vs : List Variable) → AllPairs (λ v w. v ≢ w) (fold with_variable [] vs)
collected_once vs =
    subst (λ ws. AllPairs (λ v w. v ≢ w) (fold with_variable [] ws)) (occur_all vs)
    (listed_once (app (record { name = plain []; domain = []; range = [] }) (all_variables vs)))

both_once : (t u : Tree) → AllPairs (λ v w. v ≢ w) (variables_of_both t u)
both_once t u =
    subst (AllPairs (λ v w. v ≢ w)) (fold-append with_variable [] (occurrences t) (occurrences u))
    (collected_once (occurrences t ++ occurrences u))

pub pair_variables_different : (q : Pair) → AllPairs (λ v w. v ≢ w) (pair_variables q)
pair_variables_different q =
    let ws = flat_map (λ e. occurrences e.term) (q.first ++ q.second) in
    subst (AllPairs (λ v w. v ≢ w))
    (fold-append with_variable [] (occurrences q.left ++ occurrences q.right) ws
    ∙ ap (λ vs. fold with_variable vs ws) (fold-append with_variable [] (occurrences q.left) (occurrences q.right)))
    (collected_once ((occurrences q.left ++ occurrences q.right) ++ ws))

pub pair_variables_are : (q : Pair)
    → fold with_variable (fold with_variable (variables_of_both q.left q.right)
    (flat_map (λ e. occurrences e.term) q.first)) (flat_map (λ e. occurrences e.term) q.second)
    ≡ pair_variables q
pair_variables_are q =
    sym (ap (fold with_variable (variables_of_both q.left q.right))
    (flat_map-append (λ e. occurrences e.term) q.first q.second)
    ∙ fold-append with_variable (variables_of_both q.left q.right) (flat_map (λ e. occurrences e.term) q.first)
    (flat_map (λ e. occurrences e.term) q.second))

other : (v w : Variable) → v ≢ w → same_variable v w ≡ false
other v w h = elim (true_or_false (same_variable v w)) [ inl a ↦ absurd (h ((variable_Decides v w).0 a)) | inr b ↦ b ]

pub marking_different : (mark : ℕ) (r : Rule) → AllPairs (λ d e. is_entry_of e.name e.sort d ≡ false) (marking mark r)
marking_different mark r =
    pairs_map (λ d e. is_entry_of e.name e.sort d ≡ false) (λ v w. v ≢ w)
    (λ v. record { name = v.name; sort = v.sort; term = var (v.name ++ mark ∷ []) v.sort })
    (variables_of_both r.left r.right)
    (λ x y p q s. other x y s) (both_once r.left r.right)

numbered_apart : (k : ℕ) (v : Variable) (vs : List Variable) → All (λ w. v ≢ w) vs
    → (t : Tree) → All (λ e. is_entry_of e.name e.sort (record { name = v.name; sort = v.sort; term = t }) ≡ false)
    (number_variables k vs)
numbered_apart k v [] h t =
    All-nil (λ e. is_entry_of e.name e.sort (record { name = v.name; sort = v.sort; term = t }) ≡ false)
numbered_apart k v (w ∷ vs) h t =
    All-cons (λ e. is_entry_of e.name e.sort (record { name = v.name; sort = v.sort; term = t }) ≡ false)
    (record { name = w.name; sort = w.sort; term = var (codes "v" ++ decimal k) w.sort }) (number_variables (k + 1) vs)
    (other v w (All-head (λ w. v ≢ w) w vs h)) (numbered_apart (k + 1) v vs (All-tail (λ w. v ≢ w) w vs h) t)

numbered_from_different : (k : ℕ) (vs : List Variable) → AllPairs (λ v w. v ≢ w) vs
    → AllPairs (λ d e. is_entry_of e.name e.sort d ≡ false) (number_variables k vs)
numbered_from_different k [] h = λ i j d lt within. absurd (omega arith)
numbered_from_different k (v ∷ vs) h =
    let named : Tree = var (codes "v" ++ decimal k) v.sort in
    AllPairs-cons (λ d e. is_entry_of e.name e.sort d ≡ false) (record { name = v.name; sort = v.sort; term = named })
    (number_variables (k + 1) vs)
    (numbered_apart (k + 1) v vs (pairs_head (λ v w. v ≢ w) v vs h) named)
    (numbered_from_different (k + 1) vs (pairs_tail (λ v w. v ≢ w) v vs h))

pub numbered_different : (vs : List Variable) → AllPairs (λ v w. v ≢ w) vs
    → AllPairs (λ d e. is_entry_of e.name e.sort d ≡ false) (number_variables 1 vs)
numbered_different vs h = numbered_from_different 1 vs h

pub under_same : (es bs us : List Entry) → us ≡ entries_under es bs
    → AllPairs (λ d e. is_entry_of e.name e.sort d ≡ false) bs
    → AllPairs (λ d e. is_entry_of e.name e.sort d ≡ false) us
under_same es bs us e h =
    subst (AllPairs (λ d e. is_entry_of e.name e.sort d ≡ false)) (sym e) (under_different es bs h)

pub marked_same : (mark : ℕ) (r : Rule) (us : List Entry) → us ≡ marking mark r
    → AllPairs (λ d e. is_entry_of e.name e.sort d ≡ false) us
marked_same mark r us e =
    subst (AllPairs (λ d e. is_entry_of e.name e.sort d ≡ false)) (sym e) (marking_different mark r)

pub numbered_same : (vs : List Variable) (us : List Entry) → us ≡ number_variables 1 vs → AllPairs (λ v w. v ≢ w) vs
    → AllPairs (λ d e. is_entry_of e.name e.sort d ≡ false) us
numbered_same vs us e h =
    subst (AllPairs (λ d e. is_entry_of e.name e.sort d ≡ false)) (sym e) (numbered_different vs h)

pub variables_same : (q : Pair) (vs : List Variable) → vs ≡ pair_variables q → AllPairs (λ v w. v ≢ w) vs
variables_same q vs e = subst (AllPairs (λ v w. v ≢ w)) (sym e) (pair_variables_different q)
