-- Substitution is a map by a table.
use Rattle.std.proofs.Common.{◌≡◌, ◌==◌, ℕ, ◌<◌, Bool, true, false, cond, List, [], ◌∷◌, length, slice_get, Option}
use Rattle.std.proofs.Common.{Some, None, refl, sym, ◌∙◌, ap, subst}
use Rattle.std.proofs.lemmas.Bool.Decides.{Decides-eqb}
use Rattle.std.proofs.lemmas.List.Elements.{All-head, All-tail}
use Rattle.std.proofs.lemmas.Option.{slice_get-get_or, same_Some, none-some}
use Rattle.larch_term.specs.Substitution.{image, is_entry_of, instance_of, substituted_all}
use Rattle.larch_term.specs.Tree.{Tree, Forest, var, app, none, more}
use Rattle.larch_term.specs.declared.substitution.Entry.{Entry}
use Rattle.larch_verify_pool.specs.Exchanging.{map_forest, ExchangesAt, IsExchange, IsRule, image_by}
use Rattle.larch_verify_pool.specs.declared.exchanging.Rule.{Rule}
use Rattle.larch_verify_pool.specs.Pooled.{tree_in, no_tree}
use Rattle.larch_verify_pool.specs.Substitution.{found, entry_from, entries_of, IsVar, AreBindings}
use Rattle.larch_verify_pool.specs.declared.substitution.PoolBinding.{PoolBinding}
use Rattle.larch_verify_pool.proofs.Bound.{bound_test}

substituted_mapped : (es : List Entry) (ts : Forest) → substituted_all es ts ≡ map_forest (instance_of es) ts
substituted_mapped es none = refl
substituted_mapped es (more t ts) = ap (more (instance_of es t)) (substituted_mapped es ts)

-- what a number that is found, or isn't, says of an image
abbrev Images : List Tree → List ℕ → List ℕ → Option ℕ → Tree → Type 0
Images us n s (Some r) u = slice_get us r ≡ Some u
Images us n s None u = u ≡ var n s

first : (us : List Tree) (n s : List ℕ) (a : ℕ) (t u : Tree) (o : Option ℕ) (b : Bool) → slice_get us a ≡ Some t
    → Images us n s o u → Images us n s (cond b (Some a) o) (cond b t u)
first us n s a t u o true p q = p
first us n s a t u o false p q = q

found_image : (us : List Tree) (bs : List PoolBinding) (q : ℕ) (n s : List ℕ)
    → ((i j : ℕ) → i < length us → j < length us → tree_in us i ≡ tree_in us j → i ≡ j)
    → AreBindings us bs → q < length us → tree_in us q ≡ var n s
    → Images us n s (found bs q) (image (entries_of us bs) n s)
found_image us [] q n s apart a lt h = refl
found_image us (b ∷ bs) q n s apart a lt h =
    let P : PoolBinding → Type 0 =
    λ c. (c.variable < length us) × (c.image < length us) × IsVar (tree_in us c.variable) in
    let k : P b = All-head P b bs a in
    let e : Entry = entry_from (tree_in us b.variable) (tree_in us b.image) in
    let t : (b.variable == q) ≡ is_entry_of n s e =
    bound_test us b.variable q n s (tree_in us b.variable) (tree_in us b.image) apart k.0 lt k.2 refl h in
    let rest : Images us n s (found bs q) (image (entries_of us bs) n s) =
    found_image us bs q n s apart (All-tail P b bs a) lt h in
    let all : Images us n s (cond (b.variable == q) (Some b.image) (found bs q))
    (cond (b.variable == q) e.term (image (entries_of us bs) n s)) =
    first us n s b.image e.term (image (entries_of us bs) n s) (found bs q) (b.variable == q)
    (slice_get-get_or us b.image no_tree k.1) rest in
    subst (λ c. Images us n s (cond (b.variable == q) (Some b.image) (found bs q))
    (cond c e.term (image (entries_of us bs) n s))) t all

no_variable : (us : List Tree) (v q : ℕ) (t : Tree) → IsVar (tree_in us v) → tree_in us q ≡ t → (IsVar t → ⊥)
    → (b : Bool) → (v == q) ≡ b → b ≡ false
no_variable us v q t i h never true e = absurd (never (subst IsVar (ap (tree_in us) ((Decides-eqb v q).0 e) ∙ h) i))
no_variable us v q t i h never false e = refl

not_found : (us : List Tree) (bs : List PoolBinding) (q : ℕ) (t : Tree) → AreBindings us bs → tree_in us q ≡ t
    → (IsVar t → ⊥) → found bs q ≡ None
not_found us [] q t a h never = refl
not_found us (b ∷ bs) q t a h never =
    let P : PoolBinding → Type 0 =
    λ c. (c.variable < length us) × (c.image < length us) × IsVar (tree_in us c.variable) in
    let k : P b = All-head P b bs a in
    ap (λ c. cond c (Some b.image) (found bs q)) (no_variable us b.variable q t k.2 h never (b.variable == q) refl)
    ∙ not_found us bs q t (All-tail P b bs a) h never

image_exchanges : (us : List Tree) (F : Tree → Tree) (n s : List ℕ) (o : Option ℕ) → Images us n s o (F (var n s))
    → ExchangesAt us F o (var n s)
image_exchanges us F n s (Some r) h = h
image_exchanges us F n s None h = h

exchanges_at : (us : List Tree) (bs : List PoolBinding) (q : ℕ) (t : Tree)
    → ((i j : ℕ) → i < length us → j < length us → tree_in us i ≡ tree_in us j → i ≡ j)
    → AreBindings us bs → q < length us → tree_in us q ≡ t
    → ExchangesAt us (instance_of (entries_of us bs)) (found bs q) t
exchanges_at us bs q (var n s) apart a lt h =
    image_exchanges us (instance_of (entries_of us bs)) n s (found bs q) (found_image us bs q n s apart a lt h)
exchanges_at us bs q (app f ts) apart a lt h =
    let F : Tree → Tree = instance_of (entries_of us bs) in
    let e : F (app f ts) ≡ app f (map_forest F ts) = ap (app f) (substituted_mapped (entries_of us bs) ts) in
    subst (λ o. ExchangesAt us F o (app f ts)) (sym (not_found us bs q (app f ts) a h (λ i. i))) e

pub substitution_exchanges : (us : List Tree) (bs : List PoolBinding) (table : ℕ → Option ℕ)
    → ((i j : ℕ) → i < length us → j < length us → tree_in us i ≡ tree_in us j → i ≡ j)
    → AreBindings us bs → ((q : ℕ) → table q ≡ found bs q) → IsExchange us table (instance_of (entries_of us bs))
substitution_exchanges us bs table apart a e q lt =
    subst (λ o. ExchangesAt us (instance_of (entries_of us bs)) o (tree_in us q)) (sym (e q))
    (exchanges_at us bs q (tree_in us q) apart a lt refl)

found_by : (k r a : ℕ) (b : Bool) (o : Option ℕ) → a < k → (o ≡ Some r → r < k) → cond b (Some a) o ≡ Some r → r < k
found_by k r a true o l h e = subst (λ i. i < k) (same_Some a r e) l
found_by k r a false o l h e = h e

found_within : (us : List Tree) (bs : List PoolBinding) (q r : ℕ) → AreBindings us bs → found bs q ≡ Some r
    → r < length us
found_within us [] q r a e = absurd (none-some r e)
found_within us (b ∷ bs) q r a e =
    let P : PoolBinding → Type 0 =
    λ c. (c.variable < length us) × (c.image < length us) × IsVar (tree_in us c.variable) in
    found_by (length us) r b.image (b.variable == q) (found bs q) (All-head P b bs a).1
    (found_within us bs q r (All-tail P b bs a)) e

pub table_within : (us : List Tree) (bs : List PoolBinding) (rule : Rule) → AreBindings us bs
    → ((q : ℕ) (t : Tree) → image_by rule q t ≡ found bs q) → IsRule us rule
table_within us bs rule a e q r t h = found_within us bs q r a (sym (e q t) ∙ h)
