-- Sorts that have names in turn.
use Rattle.std.specs.Prelude.{◌≡◌, ◌<◌, ◌≤◌, ◌+◌, ℕ, ◌&&◌, Bool, true, false, List, [], ◌∷◌, ◌++◌, bytes_eq, length}
use Rattle.std.specs.Prelude.{not, get_or, take, refl}
use Rattle.std.specs.Prelude.{Option, None, Some}
use Rattle.std.specs.Cmp.Lexicographic.{pointwise}
use Rattle.std.proofs.Common.{ap, ap₂, subst, sym, ◌∙◌}
use Rattle.std.proofs.lemmas.Slice.Eq.{bytes_eq-Decides}
use Rattle.std.proofs.lemmas.List.{get_or-map, length-map, take_all, take_more}
use Rattle.larch_prove_meaning.specs.Steps.{has_signature, texts}
use Rattle.larch_prove_settings.specs.References.{as_list, only_one}
use Rattle.larch_raw.specs.declared.declared.RawSig.{RawSig}
use Rattle.larch_raw.specs.declared.declared.RawWord.{RawWord}
use Rattle.larch_term.specs.Operator.{PlainOperator}
use Rattle.larch_term.specs.OperatorKey.{name_Decides, same_name, same_operator, sorts_Decides}

by_test : (b : Bool) → (b ≡ true → ⊥) → false ≡ b
by_test true n = absurd (n refl)
by_test false n = refl

-- they have these
pub alike_names : (ss : List (List ℕ)) (ws : List RawWord) → ss ≡ texts ws → true ≡ pointwise bytes_eq ss (texts ws)
alike_names ss ws e = sym ((sorts_Decides ss (texts ws)).1 e)

-- or others
pub unlike_names : (ss : List (List ℕ)) (ws : List RawWord) → (ss ≡ texts ws → ⊥)
    → false ≡ pointwise bytes_eq ss (texts ws)
unlike_names ss ws n = by_test (pointwise bytes_eq ss (texts ws)) (λ e. n ((sorts_Decides ss (texts ws)).0 e))

-- or there are more or fewer of them
pub unlike_lengths : (ss : List (List ℕ)) (ws : List RawWord) → (length ss ≡ length ws → ⊥)
    → false ≡ pointwise bytes_eq ss (texts ws)
unlike_lengths ss ws n = unlike_names ss ws (λ e. n (ap length e ∙ length-map ws (λ (w : RawWord). w.name)))

name_at : (ws : List RawWord) (i : ℕ) (w : RawWord) (s : List ℕ) → i < length ws → w ≡ get_or ws i w
    → w.name ≡ get_or (texts ws) i s
name_at ws i w s l e = ap (λ (v : RawWord). v.name) e ∙ sym (get_or-map (λ (v : RawWord). v.name) ws i w s l)

-- one more has its name
pub more_named : (ss : List (List ℕ)) (ws : List RawWord) (i : ℕ) (s : List ℕ) (w : RawWord) → i < length ss
    → length ss ≡ length ws → s ≡ get_or ss i s → w ≡ get_or ws i w → s ≡ w.name → take i ss ≡ take i (texts ws)
    → take (i + 1) ss ≡ take (i + 1) (texts ws)
more_named ss ws i s w l n e d q h =
    let within : i < length ws = subst (λ m. i < m) n l in
    let named : i < length (texts ws) = subst (λ m. i < m) (sym (length-map ws (λ (v : RawWord). v.name))) within in
    take_more ss i s l
    ∙ (ap₂ (λ xs (x : List ℕ). xs ++ x ∷ []) h (sym e ∙ (q ∙ name_at ws i w s within d))
    ∙ sym (take_more (texts ws) i s named))

-- or another one
pub other_name : (ss : List (List ℕ)) (ws : List RawWord) (i : ℕ) (s : List ℕ) (w : RawWord) → i < length ss
    → length ss ≡ length ws → s ≡ get_or ss i s → w ≡ get_or ws i w → (s ≡ w.name → ⊥)
    → false ≡ pointwise bytes_eq ss (texts ws)
other_name ss ws i s w l n e d q =
    unlike_names ss ws (λ k. q (e ∙ (ap (λ xs. get_or xs i s) k ∙ sym (name_at ws i w s (subst (λ m. i < m) n l) d))))

-- all have theirs
pub all_named : (ss : List (List ℕ)) (ws : List RawWord) (i : ℕ) → length ss ≤ i → length ss ≡ length ws
    → take i ss ≡ take i (texts ws) → true ≡ pointwise bytes_eq ss (texts ws)
all_named ss ws i l n h =
    alike_names ss ws (sym (take_all i ss l) ∙ (h ∙ take_all i (texts ws)
    (subst (λ m. m ≤ i) (n ∙ sym (length-map ws (λ (v : RawWord). v.name))) l)))

-- ---- tests of two names

untrue : (x : Bool) → not x ≡ false → x ≡ true
untrue true e = refl
untrue false e = cc

pub same_told : (s n : List ℕ) (b : Bool) → b ≡ not (bytes_eq s n) → b ≡ false → s ≡ n
same_told s n b e f = (bytes_eq-Decides s n).0 (untrue (bytes_eq s n) (sym e ∙ f))

pub other_told : (s n : List ℕ) (b : Bool) → b ≡ not (bytes_eq s n) → b ≡ true → s ≡ n → ⊥
other_told s n b e t q =
    let clash : true ≡ false = sym t ∙ (e ∙ ap not ((bytes_eq-Decides s n).1 q)) in
    cc

-- ---- signatures

signed_by : (n : Bool) (d : Bool) → n ≡ true → d ≡ (n && d)
signed_by n d e = sym (ap (λ b. b && d) e)

pub signed_so : (s : RawSig) (f : PlainOperator)
    → (pointwise bytes_eq f.domain (texts s.domain) && bytes_eq f.range s.range.name) ≡ has_signature (Some s) f
unfolding same_operator
signed_so s f = signed_by (same_name f.name f.name) _ ((name_Decides f.name f.name).1 refl)

-- ---- the only operator

-- nothing is left
pub end_so : (o : Option PlainOperator) → only_one (as_list o ++ []) ≡ o
end_so None = refl
end_so (Some f) = refl
