-- Different variables have different numbers.
use Rattle.std.proofs.Common.{◌≡◌, ℕ, suc, ◌+◌, ◌<◌, Bool, true, false, if◌then◌else◌, List, []}
use Rattle.std.proofs.Common.{◌∷◌, ◌++◌, length, take, drop, get_or, map, Option, Some, None, refl, sym, ◌∙◌, ap}
use Rattle.std.proofs.Common.{subst}
use Rattle.std.specs.Option.{option_map, option_and_then}
use Rattle.std.proofs.lemmas.List.{map_push, take_more}
use Rattle.std.proofs.lemmas.List.Elements.{All-head, All-tail, All-nil, All-cons, All-push}
use Rattle.std.proofs.lemmas.Option.{option_and_then_some}
use Rattle.larch_base.proofs.Options.{some_inj}
use Rattle.larch_term.specs.Operator.{PlainOperator}
use Rattle.larch_term.specs.Substitution.{instance_of}
use Rattle.larch_term.specs.Tree.{Tree}
use Rattle.larch_term.specs.declared.statement.Statement.{Statement}
use Rattle.larch_term.specs.declared.statement.Statement.TheVariants.{Equation}
use Rattle.larch_term.specs.declared.substitution.Entry.{Entry}
use Rattle.larch_term.specs.declared.variable.Variable.{Variable}
use Rattle.larch_certificate.specs.declared.line.Binding.{Binding as Written}
use Rattle.larch_certificate.specs.declared.symbol.Symbol.{Symbol}
use Rattle.larch_verify_meaning.specs.BoxRules.{equation_alone}
use Rattle.larch_verify_meaning.specs.Context.{find_line}
use Rattle.larch_verify_meaning.specs.Decoding.{each, decode, entry_for, decode_binding}
use Rattle.larch_verify_meaning.specs.Events.{Event}
use Rattle.larch_verify_meaning.specs.Matching.{all_different}
use Rattle.larch_verify_meaning.specs.Rules.{replaced_variable, instance_by, inst_says}
use Rattle.larch_verify_pool.specs.Pooled.{Pooled, tree_in, Grows}
use Rattle.larch_verify_pool.specs.Substitution.{IsVar, variable_of, AreVariables, AreBindings, entries_of}
use Rattle.larch_verify_pool.specs.declared.substitution.PoolBinding.{PoolBinding}
use Rattle.larch_verify_history.specs.Past.{equated_in}
use Rattle.larch_verify_history.specs.declared.stated.Equated.{Equated}
use Rattle.larch_verify_parts.specs.Apart.{all_apart}
use Rattle.larch_verify_parts.proofs.Alone.{OfEquations, by_equation, by_nothing}
use Rattle.larch_verify_parts.proofs.Each.{option_map_some, then_some, each_push, each_stop, parted}
use Rattle.larch_verify_parts.proofs.Numbers.{entries_later, bindings_later}
use Rattle.larch_verify_parts.proofs.Seen.{Apart, IsVariable, apart_same}
use Rattle.larch_verify_rules.specs.Instances.{entry_of, instance_in}

abbrev pub variable_in : Entry → Variable
variable_in e = record { name = e.name; sort = e.sort }

abbrev BindingIn : List Tree → PoolBinding → Type 0
BindingIn us b = (b.variable < length us) × (b.image < length us) × IsVar (tree_in us b.variable)

bound_variables : (us : List Tree) (bs : List PoolBinding)
    → map (λ v. variable_of (tree_in us v)) (map (λ b. b.variable) bs) ≡ map variable_in (entries_of us bs)
bound_variables us [] = refl
bound_variables us (b ∷ bs) = ap (λ vs. variable_of (tree_in us b.variable) ∷ vs) (bound_variables us bs)

are_variables : (us : List Tree) (bs : List PoolBinding) → AreBindings us bs
    → AreVariables us (map (λ b. b.variable) bs)
are_variables us [] a = All-nil (IsVariable us)
are_variables us (b ∷ bs) a =
    let h : BindingIn us b = All-head (BindingIn us) b bs a in
    All-cons (IsVariable us) b.variable (map (λ c. c.variable) bs) (h.0, h.2)
    (are_variables us bs (All-tail (BindingIn us) b bs a))

abbrev Finder : Type 0
Finder = Symbol → List (List ℕ) → Option PlainOperator

decoded_variable : (find : Finder) (b : Written) (e : Entry) → decode_binding find b ≡ Some e
    → variable_in e ≡ replaced_variable b
decoded_variable find b e d =
    option_and_then_some (entry_for b) (decode find b.term) e d
    (λ t p q. ap variable_in (sym (some_inj (then_some _ _ e q))))

written_variables : (find : Finder) (bs : List Written) (es : List Entry) → each (decode_binding find) bs ≡ Some es
    → map variable_in es ≡ map replaced_variable bs
written_variables find [] es e = ap (map variable_in) (sym (some_inj e))
written_variables find (b ∷ bs) es e =
    option_and_then_some (λ y. option_map (λ ys. y ∷ ys) (each (decode_binding find) bs)) (decode_binding find b) es e
    (λ y p q. option_map_some (λ ys. y ∷ ys) (each (decode_binding find) bs) es q
    (λ ys r w. ap (map variable_in) (sym w) ∙ (λ i. decoded_variable find b y p i ∷ written_variables find bs ys r i)))

-- the numbers of bound variables are apart exactly where the written variables are
pub bound_apart : (us : List Tree) (find : Finder) (ws : List Written) (bs : List PoolBinding) → Apart us
    → AreBindings us bs
    → each (decode_binding find) ws ≡ Some (entries_of us bs)
    → all_apart (map (λ b. b.variable) bs) ≡ all_different (map replaced_variable ws)
bound_apart us find ws bs ap_ a e =
    apart_same us (map (λ b. b.variable) bs) ap_ (are_variables us bs a)
    ∙ ap all_different (bound_variables us bs ∙ written_variables find ws (entries_of us bs) e)

-- rules on the equation of a line
of_equations : (es : List Entry) → OfEquations (instance_by es)
of_equations es = record { generated = λ s fs. refl; partitioned = λ s fs. refl }

-- the line says no equation
pub no_line : (find : Finder) (h : List Event) (m : ℕ) (ws : List Written)
    → None ≡ option_and_then equation_alone (find_line h m)
    → None ≡ inst_says find h m ws
no_line find h m ws e = by (all_different (map replaced_variable ws)) (each (decode_binding find) ws)
  where
    by : (b : Bool) (o : Option (List Entry))
        → None ≡ (if b then option_and_then (λ es. option_and_then (instance_by es) (find_line h m)) o else None)
    by true None = refl
    by true (Some es) = by_nothing (instance_by es) (of_equations es) (find_line h m) e
    by false o = refl

-- what is written for a variable means nothing
pub no_bindings : (find : Finder) (h : List Event) (m : ℕ) (ws : List Written) → None ≡ each (decode_binding find) ws
    → None ≡ inst_says find h m ws
no_bindings find h m ws e = by (all_different (map replaced_variable ws))
  where
    by : (b : Bool)
        → None ≡ (if b then option_and_then (λ es. option_and_then (instance_by es) (find_line h m))
        (each (decode_binding find) ws) else None)
    by true = ap (option_and_then (λ es. option_and_then (instance_by es) (find_line h m))) e
    by false = refl

-- a variable is replaced twice
pub twice_bound : (find : Finder) (h : List Event) (m : ℕ) (ws : List Written)
    → all_different (map replaced_variable ws) ≡ false
    → None ≡ inst_says find h m ws
twice_bound find h m ws e =
    sym
    (ap (λ b. if b then option_and_then (λ es. option_and_then (instance_by es) (find_line h m))
    (each (decode_binding find) ws) else None) e)

-- the equation with all variables replaced
pub instance_says : (find : Finder) (h : List Event) (m : ℕ) (ws : List Written) (es : List Entry) (l r : Tree)
    → all_different (map replaced_variable ws) ≡ true
    → each (decode_binding find) ws ≡ Some es → Some (Equation l r) ≡ option_and_then equation_alone (find_line h m)
    → Some (Equation (instance_of es l) (instance_of es r)) ≡ inst_says find h m ws
instance_says find h m ws es l r d e i =
    by_equation (instance_by es) (of_equations es) (find_line h m) (Equation l r)
    (Some (Equation (instance_of es l) (instance_of es r))) i refl
    ∙ ap (option_and_then (λ ys. option_and_then (instance_by ys) (find_line h m))) (sym e)
    ∙ sym
    (ap (λ b. if b then option_and_then (λ ys. option_and_then (instance_by ys) (find_line h m))
    (each (decode_binding find) ws) else None) d)

-- what is written for one variable more
pub bindings_more : (find : Finder) (p q : Pooled) (bs : List PoolBinding) (b : PoolBinding) (ws : List Written)
    (w : Written) → Grows p q → AreBindings p.trees bs
    → each (decode_binding find) ws ≡ Some (entries_of p.trees bs) → Some (entry_of q.trees b) ≡ decode_binding find w
    → each (decode_binding find) (ws ++ w ∷ []) ≡ Some (entries_of q.trees (bs ++ b ∷ []))
bindings_more find p q bs b ws w g a e f =
    each_push (decode_binding find) ws w (entries_of p.trees bs) (entry_of q.trees b) e (sym f)
    ∙ ap (λ es. Some (es ++ entry_of q.trees b ∷ [])) (sym (entries_later p q bs g a))
    ∙ ap Some (sym (map_push (entry_of q.trees) bs b))

-- one of those that are written means nothing
pub none_decoded : (find : Finder) (ws : List Written) (i : ℕ) (w : Written) → i < length ws → w ≡ get_or ws i w
    → None ≡ decode_binding find w
    → None ≡ each (decode_binding find) ws
none_decoded find ws i w l e f =
    sym (each_stop (decode_binding find) (take i ws) w (drop (suc i) ws) (sym f))
    ∙ ap (λ x. each (decode_binding find) (take i ws ++ x ∷ drop (suc i) ws)) e
    ∙ ap (each (decode_binding find)) (parted ws i w l)

-- one more binding
pub one_within : (p q : Pooled) (bs : List PoolBinding) (b : PoolBinding) (cs : List PoolBinding) → Grows p q
    → AreBindings p.trees bs → BindingIn q.trees b
    → cs ≡ bs ++ b ∷ [] → AreBindings q.trees cs
one_within p q bs b cs g a w e =
    subst (AreBindings q.trees) (sym e) (All-push (BindingIn q.trees) bs b (bindings_later p q bs g a) w)

pub one_decoded : (find : Finder) (p q : Pooled) (bs : List PoolBinding) (b : PoolBinding) (cs : List PoolBinding)
    (ws : List Written) (i : ℕ) (w : Written)
    → i < length ws → w ≡ get_or ws i w → Grows p q → AreBindings p.trees bs
    → each (decode_binding find) (take i ws) ≡ Some (entries_of p.trees bs)
    → Some (entry_of q.trees b) ≡ decode_binding find w → cs ≡ bs ++ b ∷ []
    → each (decode_binding find) (take (i + 1) ws) ≡ Some (entries_of q.trees cs)
one_decoded find p q bs b cs ws i w l n g a h f e =
    ap (each (decode_binding find)) (take_more ws i w l ∙ ap (λ x. take i ws ++ x ∷ []) (sym n))
    ∙ bindings_more find p q bs b (take i ws) w g a h f
    ∙ ap (λ ds. Some (entries_of q.trees ds)) (sym e)

-- numbers of bound variables differ, or not, as the written variables do
pub different_as : (us : List Tree) (find : Finder) (ws : List Written) (bs cs : List PoolBinding) (a b : Bool)
    → Apart us → AreBindings us bs
    → each (decode_binding find) ws ≡ Some (entries_of us bs) → cs ≡ bs
    → a ≡ all_apart (map (λ x. x.variable) cs) → a ≡ b
    → all_different (map replaced_variable ws) ≡ b
different_as us find ws bs cs a b ap_ w e f g h =
    sym (bound_apart us find ws bs ap_ w e) ∙ ap (λ ds. all_apart (map (λ x. x.variable) ds)) (sym f) ∙ sym g ∙ h

-- the instance by numbers
pub stated_instance : (find : Finder) (p : Pooled) (h : List Event) (m : ℕ) (ws : List Written) (bs : List PoolBinding)
    (sides : Equated) (s : Statement)
    → all_different (map replaced_variable ws) ≡ true → each (decode_binding find) ws ≡ Some (entries_of p.trees bs)
    → Some (equated_in p sides) ≡ option_and_then equation_alone (find_line h m) → s ≡ instance_in p bs sides
    → Some s ≡ inst_says find h m ws
stated_instance find p h m ws bs sides s d e i k =
    ap Some k ∙ instance_says find h m ws (entries_of p.trees bs) (tree_in p.trees sides.left)
    (tree_in p.trees sides.right) d e i
