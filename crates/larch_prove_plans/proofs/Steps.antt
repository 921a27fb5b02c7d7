-- One step of each loop over constants, places and numbers.
use Rattle.std.proofs.Common.{◌≡◌, ◌<◌, ◌≤◌, ◌+◌, ◌-◌, ◌==◌, ℕ, suc, Bool, true, false, cond, List, [], ◌∷◌, ◌++◌}
use Rattle.std.proofs.Common.{length, drop, get_or, Some, Option, refl, sym, ◌∙◌, ap, ap₂, arith}
use Rattle.std.specs.Prelude.{find}
use Rattle.std.specs.Fmt.{decimal}
use Rattle.std.proofs.lemmas.List.{append-nil, append_assoc, drop_more, drop_all}
use Rattle.larch_term.specs.Operator.{PlainOperator}
use Rattle.larch_term.specs.Tree.{Tree, Forest, none, more, forest_of, list_of}
use Rattle.larch_term.proofs.TreeLists.{forest_of-list_of}
use Rattle.larch_term.specs.declared.substitution.Entry.{Entry}
use Rattle.larch_term.specs.declared.variable.Variable.{Variable}
use Rattle.larch_calculus.specs.Formula.{constant}
use Rattle.larch_calculus.specs.Freed.{constants_for}
use Rattle.larch_prove_meaning.specs.NewNames.{numbered_from}
use Rattle.larch_prove_meaning.specs.Plans.{arguments_around, other_sorts}

-- what is pushed stands before what is left
pushed : {X : Type 0} (us vs rest : List X) (x : X) → vs ≡ us ++ x ∷ [] → vs ++ rest ≡ us ++ x ∷ rest
pushed us vs rest x e = ap (λ ws. ws ++ rest) e ∙ append_assoc us (x ∷ []) rest

same_number : (k n : ℕ) → k ≡ n → (k == n) ≡ true
same_number k n e = grind arith

other_number : (k n : ℕ) → (k ≡ n → ⊥) → (k == n) ≡ false
other_number k n e = grind arith

after : (k : ℕ) → suc k ≡ k + 1
after k = omega arith

-- ---- constants for variables

no_constants : (xs : List Variable) → constants_for xs [] ≡ []
no_constants [] = refl
no_constants (x ∷ xs) = refl

-- where the constants end, so do the entries
pub entries_end : (xs : List Variable) (cs : List PlainOperator) (i : ℕ) (us ws : List Entry) → length cs ≤ i
    → us ++ constants_for (drop i xs) (drop i cs) ≡ ws → us ≡ ws
entries_end xs cs i us ws l e =
    sym (append-nil us)
    ∙ ap (λ es. us ++ es) (sym (ap (λ ds. constants_for (drop i xs) ds) (drop_all i cs l) ∙ no_constants (drop i xs)))
    ∙ e

-- ---- sorts at other places

skipped : (place k : ℕ) (s : List ℕ) (ss : List (List ℕ)) → k ≡ place
    → other_sorts place k (s ∷ ss) ≡ other_sorts place (k + 1) ss
skipped place k s ss e =
    ap (λ b. cond b (other_sorts place (suc k) ss) (s ∷ other_sorts place (suc k) ss)) (same_number k place e)
    ∙ ap (λ j. other_sorts place j ss) (after k)

-- the sort at the place itself is left out
pub sorts_skipped : (place i : ℕ) (ss : List (List ℕ)) → i < length ss → i + 1 ≡ place
    → other_sorts place (i + 1 + 1) (drop (i + 1) ss) ≡ other_sorts place (i + 1) (drop i ss)
sorts_skipped place i ss l e =
    sym (ap (λ zs. other_sorts place (i + 1) zs) (drop_more ss i [] l)
    ∙ skipped place (i + 1) (get_or ss i []) (drop (i + 1) ss) e)

-- ---- arguments around a term

here : (place k : ℕ) (t : Tree) (s : List ℕ) (ss : List (List ℕ)) (cs : List PlainOperator) → k ≡ place
    → arguments_around place t k (s ∷ ss) cs ≡ more t (arguments_around place t (k + 1) ss cs)
here place k t s ss [] e =
    ap (λ b. elim b [ true ↦ more t (arguments_around place t (suc k) ss []) | false ↦ none ]) (same_number k place e)
    ∙ ap (λ j. more t (arguments_around place t j ss [])) (after k)
here place k t s ss (c ∷ cs) e =
    ap (λ b. elim b [
      | true ↦ more t (arguments_around place t (suc k) ss (c ∷ cs))
      | false ↦ more (constant c) (arguments_around place t (suc k) ss cs)
    ]) (same_number k place e)
    ∙ ap (λ j. more t (arguments_around place t j ss (c ∷ cs))) (after k)

beside : (place k : ℕ) (t : Tree) (s : List ℕ) (ss : List (List ℕ)) (c : PlainOperator) (cs : List PlainOperator)
    → (k ≡ place → ⊥)
    → arguments_around place t k (s ∷ ss) (c ∷ cs) ≡ more (constant c) (arguments_around place t (k + 1) ss cs)
beside place k t s ss c cs e =
    ap (λ b. elim b [
      | true ↦ more t (arguments_around place t (suc k) ss (c ∷ cs))
      | false ↦ more (constant c) (arguments_around place t (suc k) ss cs)
    ]) (other_number k place e)
    ∙ ap (λ j. more (constant c) (arguments_around place t j ss cs)) (after k)

short : (place k : ℕ) (t : Tree) (s : List ℕ) (ss : List (List ℕ)) → (k ≡ place → ⊥)
    → arguments_around place t k (s ∷ ss) [] ≡ none
short place k t s ss e =
    ap (λ b. elim b [ true ↦ more t (arguments_around place t (suc k) ss []) | false ↦ none ]) (other_number k place e)

-- at the place itself the term stands
pub around_here : (place i next : ℕ) (t u : Tree) (ss : List (List ℕ)) (cs : List PlainOperator) (us vs ws : List Tree)
    → i < length ss → i + 1 ≡ place → u ≡ t → vs ≡ us ++ u ∷ []
    → us ++ list_of (arguments_around place t (i + 1) (drop i ss) (drop next cs)) ≡ ws
    → vs ++ list_of (arguments_around place t (i + 1 + 1) (drop (i + 1) ss) (drop next cs)) ≡ ws
around_here place i next t u ss cs us vs ws l e q v h =
    pushed us vs (list_of (arguments_around place t (i + 1 + 1) (drop (i + 1) ss) (drop next cs))) u v
    ∙ ap (λ x. us ++ x ∷ list_of (arguments_around place t (i + 1 + 1) (drop (i + 1) ss) (drop next cs))) q
    ∙ ap (λ f. us ++ list_of f) (sym (here place (i + 1) t (get_or ss i []) (drop (i + 1) ss) (drop next cs) e))
    ∙ ap (λ zs. us ++ list_of (arguments_around place t (i + 1) zs (drop next cs))) (sym (drop_more ss i [] l))
    ∙ h

-- at another place a constant stands
pub around_beside : (place i next : ℕ) (t u : Tree) (c : PlainOperator) (ss : List (List ℕ)) (cs : List PlainOperator)
    (us vs ws : List Tree) → i < length ss → (i + 1 ≡ place → ⊥) → next < length cs → c ≡ get_or cs next c
    → u ≡ constant c → vs ≡ us ++ u ∷ []
    → us ++ list_of (arguments_around place t (i + 1) (drop i ss) (drop next cs)) ≡ ws
    → vs ++ list_of (arguments_around place t (i + 1 + 1) (drop (i + 1) ss) (drop (next + 1) cs)) ≡ ws
around_beside place i next t u c ss cs us vs ws l e k a q v h =
    pushed us vs (list_of (arguments_around place t (i + 1 + 1) (drop (i + 1) ss) (drop (next + 1) cs))) u v
    ∙ ap (λ x. us ++ x ∷ list_of (arguments_around place t (i + 1 + 1) (drop (i + 1) ss) (drop (next + 1) cs))) q
    ∙ ap (λ f. us ++ list_of f)
    (sym (beside place (i + 1) t (get_or ss i []) (drop (i + 1) ss) c (drop (next + 1) cs) e))
    ∙ ap (λ d. us ++ list_of (arguments_around place t (i + 1) (get_or ss i [] ∷ drop (i + 1) ss)
    (d ∷ drop (next + 1) cs))) a
    ∙ ap₂ (λ zs ds. us ++ list_of (arguments_around place t (i + 1) zs ds)) (sym (drop_more ss i [] l))
    (sym (drop_more cs next c k))
    ∙ h

ended : (us : List Tree) (rest whole : Forest) → rest ≡ none → us ++ list_of rest ≡ list_of whole → forest_of us ≡ whole
ended us rest whole r e =
    ap forest_of (sym (append-nil us) ∙ ap (λ f. us ++ list_of f) (sym r) ∙ e) ∙ forest_of-list_of whole

-- behind the last place there are no more
pub around_done : (place i : ℕ) (t : Tree) (ss : List (List ℕ)) (cs : List PlainOperator) (us : List Tree)
    (whole : Forest) → length ss ≤ i
    → us ++ list_of (arguments_around place t (i + 1) (drop i ss) cs) ≡ list_of whole → forest_of us ≡ whole
around_done place i t ss cs us whole l e =
    ended us (arguments_around place t (i + 1) (drop i ss) cs) whole
    (ap (λ zs. arguments_around place t (i + 1) zs cs) (drop_all i ss l)) e

-- nor where a constant is wanting
pub around_short : (place i next : ℕ) (t : Tree) (ss : List (List ℕ)) (cs : List PlainOperator) (us : List Tree)
    (whole : Forest) → i < length ss → (i + 1 ≡ place → ⊥) → length cs ≤ next
    → us ++ list_of (arguments_around place t (i + 1) (drop i ss) (drop next cs)) ≡ list_of whole → forest_of us ≡ whole
around_short place i next t ss cs us whole l e k h =
    ended us (arguments_around place t (i + 1) (drop i ss) (drop next cs)) whole
    (ap₂ (λ zs ds. arguments_around place t (i + 1) zs ds) (drop_more ss i [] l) (drop_all next cs k)
    ∙ short place (i + 1) t (get_or ss i []) (drop (i + 1) ss) e) h

-- ---- free names

pub names_later : (p : List ℕ → Bool) (word : List ℕ) (i n : ℕ) (o : Option (List ℕ)) → i < n
    → p (word ++ decimal (i + 1)) ≡ false → find p (numbered_from word (i + 1) (n - i)) ≡ o
    → find p (numbered_from word (i + 1 + 1) (n - (i + 1))) ≡ o
names_later p word i n o l h e =
    let k : i + 1 + 1 ≡ suc (i + 1) = omega arith in
    let m : n - i ≡ suc (n - (i + 1)) = omega (arith, l) in
    ap (λ j. find p (numbered_from word j (n - (i + 1)))) k
    ∙ ap (λ b. cond b (Some (word ++ decimal (i + 1))) (find p (numbered_from word (suc (i + 1)) (n - (i + 1)))))
    (sym h)
    ∙ ap (λ j. find p (numbered_from word (i + 1) j)) (sym m)
    ∙ e
