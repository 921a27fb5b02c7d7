-- Numbers of variables are apart exactly where the variables are.
use Rattle.std.proofs.Common.{◌≡◌, ◌==◌, ℕ, ◌<◌, Bool, true, false, not, ◌&&◌, ◌||◌, if◌then◌else◌, List, [], ◌∷◌}
use Rattle.std.proofs.Common.{length, map, Option, Some, refl, sym, ◌∙◌, ap}
use Rattle.std.specs.List.{list_any}
use Rattle.std.specs.Option.{is_some}
use Rattle.std.proofs.lemmas.Bool.Decides.{Decides-eqb}
use Rattle.std.proofs.lemmas.List.Elements.{All-head, All-tail}
use Rattle.larch_base.proofs.Bools.{same_truth}
use Rattle.larch_term.specs.Tree.{Tree, var, app}
use Rattle.larch_term.specs.Variable.{same_variable}
use Rattle.larch_term.specs.declared.variable.Variable.{Variable}
use Rattle.larch_term_law.proofs.Occurring.{variable_Decides}
use Rattle.larch_verify_meaning.specs.Matching.{all_different}
use Rattle.larch_verify_pool.specs.Pooled.{tree_in}
use Rattle.larch_verify_pool.specs.Substitution.{IsVar, variable_of, AreVariables}
use Rattle.larch_verify_parts.specs.Apart.{seen_in, all_apart}

abbrev pub Apart : List Tree → Type 0
Apart us = (i j : ℕ) → i < length us → j < length us → tree_in us i ≡ tree_in us j → i ≡ j

abbrev pub IsVariable : List Tree → ℕ → Type 0
IsVariable us v = (v < length us) × IsVar (tree_in us v)

same_variable_term : (t u : Tree) → IsVar t → IsVar u → variable_of t ≡ variable_of u → t ≡ u
same_variable_term (var n s) (var m r) a b e = ap (λ v. var v.name v.sort) e
same_variable_term (var n s) (app f ts) a b e = absurd b
same_variable_term (app f ts) u a b e = absurd a

some_either : (c : Bool) (m : ℕ) (o : Option ℕ) → is_some (if c then Some m else o) ≡ (c || is_some o)
some_either true m o = refl
some_either false m o = refl

seen_same : (us : List Tree) (n : ℕ) (ms : List ℕ) → Apart us → IsVariable us n → AreVariables us ms
    → is_some (seen_in ms n) ≡ list_any (same_variable (variable_of (tree_in us n)))
    (map (λ v. variable_of (tree_in us v)) ms)
seen_same us n [] ap_ w a = refl
seen_same us n (m ∷ ms) ap_ w a =
    let h : IsVariable us m = All-head (IsVariable us) m ms a in
    let v : Variable = variable_of (tree_in us n) in
    let u : Variable = variable_of (tree_in us m) in
    let same : (m == n) ≡ same_variable v u =
    same_truth (m == n) (same_variable v u)
    (λ e. (variable_Decides v u).1 (ap (λ i. variable_of (tree_in us i)) (sym ((Decides-eqb m n).0 e))))
    (λ e. (Decides-eqb m n).1 (ap_ m n h.0 w.0
    (same_variable_term (tree_in us m) (tree_in us n) h.1 w.1 (sym ((variable_Decides v u).0 e))))) in
    some_either (m == n) m (seen_in ms n)
    ∙ (λ i. same i || seen_same us n ms ap_ w (All-tail (IsVariable us) m ms a) i)

apart_either : (c b : Bool) → (if c then false else b) ≡ (not c && b)
apart_either true b = refl
apart_either false b = refl

pub apart_same : (us : List Tree) (ns : List ℕ) → Apart us → AreVariables us ns
    → all_apart ns ≡ all_different (map (λ v. variable_of (tree_in us v)) ns)
apart_same us [] ap_ a = refl
apart_same us (n ∷ ns) ap_ a =
    let h : IsVariable us n = All-head (IsVariable us) n ns a in
    let t : AreVariables us ns = All-tail (IsVariable us) n ns a in
    apart_either (is_some (seen_in ns n)) (all_apart ns)
    ∙ (λ i. not (seen_same us n ns ap_ h t i) && apart_same us ns ap_ t i)
