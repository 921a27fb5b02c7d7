-- Operators with their numbers, listed.
use Rattle.std.proofs.Common.{◌≡◌, ℕ, suc, ◌+◌, ◌<◌, List, [], ◌∷◌, ◌++◌, length, take, drop, get_or, All, Some, None}
use Rattle.std.proofs.Common.{sym, ◌∙◌, ap, subst}
use Rattle.std.proofs.lemmas.List.{take_more, map_push}
use Rattle.std.proofs.lemmas.List.Elements.{All-push}
use Rattle.larch_base.specs.ByNumber.{numbered}
use Rattle.larch_term.specs.Operator.{PlainOperator}
use Rattle.larch_verify_meaning.specs.Decoding.{each}
use Rattle.larch_verify_pool.specs.Pooled.{Pooled, Grows}
use Rattle.larch_verify_parts.proofs.Each.{each_push, each_stop, parted}
use Rattle.larch_verify_clause_rules.specs.Operators.{IsKnown, operators_in}
use Rattle.larch_verify_clause_rules.specs.declared.known.Known.{Known}
use Rattle.larch_verify_clause_rules.proofs.Staying.{known_later}

-- one number has no operator
pub own_missing : (fs : List PlainOperator) (ns : List ℕ) (i : ℕ) → i < length ns → None ≡ numbered fs (get_or ns i 0)
    → None ≡ each (numbered fs) ns
own_missing fs ns i l e =
    sym (each_stop (numbered fs) (take i ns) (get_or ns i 0) (drop (suc i) ns) (sym e))
    ∙ ap (each (numbered fs)) (parted ns i 0 l)

-- one operator more
pub own_more : (fs : List PlainOperator) (ns : List ℕ) (i : ℕ) (ks ls : List Known) (k : Known) → i < length ns
    → each (numbered fs) (take i ns) ≡ Some (operators_in ks) → Some k.operator ≡ numbered fs (get_or ns i 0)
    → ls ≡ ks ++ k ∷ []
    → each (numbered fs) (take (i + 1) ns) ≡ Some (operators_in ls)
own_more fs ns i ks ls k l e f p =
    ap (each (numbered fs)) (take_more ns i 0 l)
    ∙ each_push (numbered fs) (take i ns) (get_or ns i 0) (operators_in ks) k.operator e (sym f)
    ∙ ap Some (sym (ap operators_in p ∙ map_push (λ o. o.operator) ks k))

pub known_pushed : (p q : Pooled) (ks ls : List Known) (k : Known) → Grows p q → All (IsKnown p) ks → IsKnown q k
    → ls ≡ ks ++ k ∷ []
    → All (IsKnown q) ls
known_pushed p q ks ls k g a h e =
    subst (λ (xs : List Known). All (IsKnown q) xs) (sym e) (All-push (IsKnown q) ks k (known_later p q ks g a) h)

pub operators_pushed : (fs : List PlainOperator) (i : ℕ) (ks ls : List Known) (k : Known) (f : PlainOperator)
    → i < length fs
    → operators_in ks ≡ take i fs → k.operator ≡ f → f ≡ get_or fs i f → ls ≡ ks ++ k ∷ []
    → operators_in ls ≡ take (i + 1) fs
operators_pushed fs i ks ls k f l e a b p =
    ap operators_in p ∙ map_push (λ o. o.operator) ks k ∙ (λ j. e j ++ (a ∙ b) j ∷ []) ∙ sym (take_more fs i f l)
