-- Nodes take the places of constants by a map that goes by names.
use Rattle.std.proofs.Common.{◌≡◌, ℕ, suc, ◌<◌, Bool, true, false, cond, List, [], ◌∷◌, length, All, Option, Some, None}
use Rattle.std.proofs.Common.{option_map, refl, sym, ◌∙◌, ap, subst}
use Rattle.std.proofs.lemmas.List.Elements.{All-head, All-tail}
use Rattle.std.proofs.lemmas.Option.{slice_get-get_or, same_Some, none-some}
use Rattle.std.specs.Prelude.{unwrap_or}
use Rattle.larch_term.specs.Operator.{OperatorName, PlainOperator, boxed}
use Rattle.larch_term.specs.OperatorKey.{same_name}
use Rattle.larch_term.specs.Tree.{Tree, Forest, var, app, none, more}
use Rattle.larch_verify_pool.specs.Exchanging.{constant_image, image_by, image_in, map_forest, ExchangesAt, IsExchange}
use Rattle.larch_verify_pool.specs.Exchanging.{IsRule}
use Rattle.larch_verify_pool.specs.Freeing.{freed_by, freed_all_by}
use Rattle.larch_verify_pool.specs.Pooled.{tree_in, no_tree}
use Rattle.larch_verify_pool.specs.declared.exchanging.Rule.TheVariants.{Constants}

freed_mapped : (us : List Tree) (b k : ℕ) (vs : List ℕ) (ts : Forest)
    → freed_all_by us b k vs ts ≡ map_forest (freed_by us b k vs) ts
freed_mapped us b k vs none = refl
freed_mapped us b k vs (more t ts) = ap (more (freed_by us b k vs t)) (freed_mapped us b k vs ts)

image_either : (n v r : ℕ) (b : Bool) (o : Option ℕ) → v < n → (o ≡ Some r → r < n) → cond b (Some v) o ≡ Some r → r < n
image_either n v r true o l h e = subst (λ i. i < n) (same_Some v r e) l
image_either n v r false o l h e = h e

image_within : (us : List Tree) (b k : ℕ) (vs : List ℕ) (n : OperatorName) (r : ℕ) → All (λ v. v < length us) vs
    → constant_image b k vs n ≡ Some r → r < length us
image_within us b k [] n r a e = absurd (none-some r e)
image_within us b k (v ∷ vs) n r a e =
    image_either (length us) v r (same_name (boxed b k) n) (constant_image b (suc k) vs n)
    (All-head (λ w. w < length us) v vs a) (image_within us b (suc k) vs n r (All-tail (λ w. w < length us) v vs a)) e

pub constants_within : (us : List Tree) (b k : ℕ) (vs : List ℕ) → All (λ v. v < length us) vs
    → IsRule us (Constants b k vs)
constants_within us b k vs a q r (var n s) e = absurd (none-some r e)
constants_within us b k vs a q r (app f ts) e = image_within us b k vs f.name r a e

freed_at : (us : List Tree) (b k : ℕ) (vs : List ℕ) (f : PlainOperator) (ts : Forest) (o : Option ℕ)
    → constant_image b k vs f.name ≡ o → All (λ v. v < length us) vs → ExchangesAt us (freed_by us b k vs) o (app f ts)
freed_at us b k vs f ts (Some r) e a =
    slice_get-get_or us r no_tree (image_within us b k vs f.name r a e)
    ∙ ap (λ p. Some (unwrap_or (option_map (tree_in us) p) (app f (freed_all_by us b k vs ts)))) (sym e)
freed_at us b k vs f ts None e a =
    ap (λ p. unwrap_or (option_map (tree_in us) p) (app f (freed_all_by us b k vs ts))) e
    ∙ ap (app f) (freed_mapped us b k vs ts)

freed_exchanges_at : (us : List Tree) (b k : ℕ) (vs : List ℕ) (q : ℕ) (t : Tree) → All (λ v. v < length us) vs
    → ExchangesAt us (freed_by us b k vs) (image_by (Constants b k vs) q t) t
freed_exchanges_at us b k vs q (var n s) a = refl
freed_exchanges_at us b k vs q (app f ts) a = freed_at us b k vs f ts (constant_image b k vs f.name) refl a

pub freeing_exchanges : (us : List Tree) (b k : ℕ) (vs : List ℕ) → All (λ v. v < length us) vs
    → IsExchange us (image_in us (Constants b k vs)) (freed_by us b k vs)
freeing_exchanges us b k vs a q lt = freed_exchanges_at us b k vs q (tree_in us q) a
