-- Patterns and shared terms.
use Rattle.std.specs.Prelude.{◌≡◌, ◌+◌, ℕ, Bool, true, false, List, [], ◌∷◌, insert, length, map, sum_by, Option, None}
use Rattle.std.specs.Prelude.{refl}
use Rattle.std.proofs.Common.{arith, ap, sym, subst, ◌∙◌}
use Rattle.std.proofs.lemmas.List.{length-map}
use Rattle.std.proofs.lemmas.List.Elements.{All-cons}
use Rattle.larch_rewrite_meaning.specs.Matching.{match_term, matched_all}
use Rattle.larch_store.specs.Numbered.{Numbered, children_of, several, term_of, terms_of}
use Rattle.larch_store.specs.SharedView.{view_shared}
use Rattle.larch_store.specs.Stored.{AllBelong, Belongs}
use Rattle.larch_store.specs.declared.shared.SharedNode.TheVariants.{Variable, Application}
use Rattle.larch_store.proofs.Standing.{branch_term, listed_several}
use Rattle.larch_term.specs.Equality.{same_operator}
use Rattle.larch_term.specs.Operator.{PlainOperator}
use Rattle.larch_term.specs.Tree.{Tree, Forest, var, app, forest_of, nodes, nodes_all_is_sum}
use Rattle.larch_term.specs.declared.substitution.Entry.{Entry}
use Rattle.larch_rewrite_match.specs.Bound.{AreBound}
use Rattle.larch_rewrite_match.specs.Heads.{Suffice}
use Rattle.larch_rewrite_match.specs.declared.rule.RewriteRule.{RewriteRule}
use Rattle.larch_rewrite_match.specs.declared.patterns.Bound.{Bound}
use Rattle.larch_rewrite_match.proofs.Apart.{as_many}

-- an application isn't a variable
pub variable_apart : (x : Numbered) (k z : ℕ) (n s : List ℕ) (f : PlainOperator) (ps : Forest) (es : List Entry)
    → view_shared k z (Variable n s) ≡ x → match_term (app f ps) (term_of x) es ≡ None
variable_apart x k z n s f ps es v = subst (λ y. match_term (app f ps) (term_of y) es ≡ None) v refl

by_heads : (f g : PlainOperator) (ps ts : Forest) (es : List Entry) (b : Bool) (o : Option (List Entry))
    → same_operator f g ≡ b → (elim b [ true ↦ matched_all ps ts es | false ↦ None ]) ≡ o
    → match_term (app f ps) (app g ts) es ≡ o
by_heads f g ps ts es b o q h = ap (λ c. elim c [ true ↦ matched_all ps ts es | false ↦ None ]) q ∙ h

as_term : (x : Numbered) (k z : ℕ) (g : PlainOperator) (cs : List Numbered) → view_shared k z (Application g cs) ≡ x
    → term_of x ≡ app g (forest_of (map term_of cs))
as_term x k z g cs v = ap term_of (sym v) ∙ branch_term k z g cs

-- nor is one with another operator
pub other_head : (x : Numbered) (k z : ℕ) (f g : PlainOperator) (cs : List Numbered) (ps : Forest) (es : List Entry)
    → view_shared k z (Application g cs) ≡ x → same_operator f g ≡ false → match_term (app f ps) (term_of x) es ≡ None
other_head x k z f g cs ps es v q =
    ap (λ t. match_term (app f ps) t es) (as_term x k z g cs v)
    ∙ by_heads f g ps (forest_of (map term_of cs)) es false None q refl

apart_by : (f g : PlainOperator) (ps ts : Forest) (es : List Entry) (b : Bool) → same_operator f g ≡ b
    → matched_all ps ts es ≡ None → match_term (app f ps) (app g ts) es ≡ None
apart_by f g ps ts es true q h = by_heads f g ps ts es true None q h
apart_by f g ps ts es false q h = by_heads f g ps ts es false None q refl

-- or with another number of arguments
pub other_count : (x : Numbered) (k z : ℕ) (f g : PlainOperator) (cs : List Numbered) (ps : List Tree) (es : List Entry)
    → view_shared k z (Application g cs) ≡ x → (length ps ≡ length cs → ⊥)
    → match_term (app f (forest_of ps)) (term_of x) es ≡ None
other_count x k z f g cs ps es v n =
    ap (λ t. match_term (app f (forest_of ps)) t es) (as_term x k z g cs v)
    ∙ apart_by f g (forest_of ps) (forest_of (map term_of cs)) es (same_operator f g) refl
    (as_many ps (map term_of cs) es (λ e. n (e ∙ length-map cs term_of)))

-- else the arguments decide
pub by_arguments : (x : Numbered) (k z : ℕ) (f g : PlainOperator) (cs : List Numbered) (ps : List Tree)
    (es : List Entry)
    (o : Option (List Entry)) → view_shared k z (Application g cs) ≡ x → same_operator f g ≡ true
    → matched_all (forest_of ps) (forest_of (map term_of cs)) es ≡ o
    → match_term (app f (forest_of ps)) (term_of x) es ≡ o
by_arguments x k z f g cs ps es o v q h =
    ap (λ t. match_term (app f (forest_of ps)) t es) (as_term x k z g cs v)
    ∙ by_heads f g (forest_of ps) (forest_of (map term_of cs)) es true o q h

-- they belong to the store
pub arguments_belong : (s : List Numbered) (x : Numbered) (k z : ℕ) (g : PlainOperator) (cs items : List Numbered)
    → view_shared k z (Application g cs) ≡ x → items ≡ cs → AllBelong s (children_of x) → AllBelong s items
arguments_belong s x k z g cs items v e h =
    subst (AllBelong s) (sym e)
    (subst (AllBelong s) (listed_several cs) (subst (λ y. AllBelong s (children_of y)) (sym v) h))

-- a pattern has more nodes than its arguments
pub fewer_nodes : (p : Tree) (f : PlainOperator) (ps items : List Tree) → app f (forest_of ps) ≡ p → items ≡ ps
    → sum_by nodes items + 1 ≡ nodes p
fewer_nodes p f ps items v e =
    let k = nodes_all_is_sum ps in
    let n : nodes (app f (forest_of ps)) ≡ nodes p = ap nodes v in
    let m : sum_by nodes items ≡ sum_by nodes ps = ap (sum_by nodes) e in
    omega (arith, k, n, m)

-- one binding more
pub bound_more : (s : List Numbered) (bs more : List Bound) (b : Bound) → more ≡ insert bs 0 b → Belongs s b.term
    → AreBound s bs → AreBound s more
bound_more s [] more b e h a = subst (AreBound s) (sym e) (All-cons (λ c. Belongs s c.term) b [] h a)
bound_more s (c ∷ cs) more b e h a = subst (AreBound s) (sym e) (All-cons (λ c. Belongs s c.term) b (c ∷ cs) h a)

-- ---- rules that suffice at a shared term

pub variables_suffice : (few rs : List RewriteRule) (x : Numbered) (k z : ℕ) (n s : List ℕ)
    → view_shared k z (Variable n s) ≡ x
    → ((m t : List ℕ) → Suffice few rs (var m t)) → Suffice few rs (term_of x)
variables_suffice few rs x k z n s v h = subst (λ y. Suffice few rs (term_of y)) v (h n s)

pub head_suffices : (few rs : List RewriteRule) (x : Numbered) (k z : ℕ) (f : PlainOperator) (cs : List Numbered)
    → view_shared k z (Application f cs) ≡ x → ((ts : Forest) → Suffice few rs (app f ts)) → Suffice few rs (term_of x)
head_suffices few rs x k z f cs v h = subst (λ y. Suffice few rs (term_of y)) v (h (terms_of (several cs)))
