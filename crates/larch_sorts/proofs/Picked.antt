-- What counts pick out is read.
use Rattle.std.proofs.Common.{◌≡◌, ℕ, ◌+◌, ◌<◌, ◌≤◌, List, [], ◌∷◌, ◌++◌, Contains, Option, Some, None, IfSome}
use Rattle.std.proofs.Common.{bytes_eq, cond, take, get_or, length, refl, sym, ◌∙◌, ap, subst, arith}
use Rattle.std.proofs.lemmas.List.{take_more}
use Rattle.larch_base.specs.declared.position.Pos.{Pos}
use Rattle.larch_raw.specs.RawTree.{RawTree, RawForest, apply, qualified, raw_forest}
use Rattle.larch_raw.specs.declared.declared.RawWord.{RawWord}
use Rattle.larch_term.specs.Operator.{PlainOperator}
use Rattle.larch_term.specs.Tree.{Tree, app, forest_of, var}
use Rattle.larch_sorts_signature.specs.SortsMeaningFound.{Tells}
use Rattle.larch_sorts_signature.specs.Makers.{made_place, maker_among, making}
use Rattle.larch_sorts_signature.specs.SortsMeaningReadings.{ReadAt, ReadsAt, IsOnly, all_read, of_sort, variable_sort}
use Rattle.larch_sorts_signature.specs.SortsMeaningScope.{Variables}
use Rattle.larch_sorts_signature.specs.SortsMeaningSignature.{operators_named, taking_part}
use Rattle.larch_sorts_signature.specs.SortsMeaningFoundFound.TheVariants.{One}
use Rattle.larch_sorts_signature.proofs.MakersTold.{makers_tell}
use Rattle.larch_sorts.proofs.OnlyReadings.{take_all, variable_only}
use Rattle.larch_sorts_signature.proofs.SortsMeaningApplications.{put_together, to_reads}

-- each of these arguments reads so at its sort
abbrev pub PickedAll : List PlainOperator → Variables → List RawTree → List (List ℕ) → List Tree → Type 0
PickedAll fs vs [] [] [] = Unit {0}
PickedAll fs vs (raw ∷ raws) (s ∷ ss) (t ∷ ts) = ReadsAt fs vs raw s t × PickedAll fs vs raws ss ts
PickedAll fs vs [] (s ∷ ss) ts = ⊥
PickedAll fs vs [] [] (t ∷ ts) = ⊥
PickedAll fs vs (raw ∷ raws) [] ts = ⊥
PickedAll fs vs (raw ∷ raws) (s ∷ ss) [] = ⊥

all_picked : (fs : List PlainOperator) (vs : Variables) (raws : List RawTree) (ss : List (List ℕ)) (ts : List Tree)
    → PickedAll fs vs raws ss ts → ReadAt fs vs raws ss ts
all_picked fs vs [] [] [] h = (all_read, refl)
all_picked fs vs (raw ∷ raws) (s ∷ ss) (t ∷ ts) h =
    put_together fs vs raw raws s ss (t ∷ ts) (t, ts, refl, h.0, all_picked fs vs raws ss ts h.1)
all_picked fs vs [] (s ∷ ss) ts h = absurd h
all_picked fs vs [] [] (t ∷ ts) h = absurd h
all_picked fs vs (raw ∷ raws) [] ts h = absurd h
all_picked fs vs (raw ∷ raws) (s ∷ ss) [] h = absurd h

picked_more : (fs : List PlainOperator) (vs : Variables) (raws : List RawTree) (ss : List (List ℕ)) (ts : List Tree)
    (raw : RawTree) (s : List ℕ) (t : Tree)
    → PickedAll fs vs raws ss ts → ReadsAt fs vs raw s t
    → PickedAll fs vs (raws ++ raw ∷ []) (ss ++ s ∷ []) (ts ++ t ∷ [])
picked_more fs vs [] [] [] raw s t h k = (k, tt)
picked_more fs vs (r ∷ raws) (z ∷ ss) (u ∷ ts) raw s t h k = (h.0, picked_more fs vs raws ss ts raw s t h.1 k)
picked_more fs vs [] (z ∷ ss) ts raw s t h k = absurd h
picked_more fs vs [] [] (u ∷ ts) raw s t h k = absurd h
picked_more fs vs (r ∷ raws) [] ts raw s t h k = absurd h
picked_more fs vs (r ∷ raws) (z ∷ ss) [] raw s t h k = absurd h

-- one argument more
pub picked_next : (fs : List PlainOperator) (vs : Variables) (raws : List RawTree) (ss : List (List ℕ)) (i : ℕ)
    (old new : List Tree) (raw : RawTree) (s : List ℕ) (t : Tree)
    → i < length raws → i < length ss → raw ≡ get_or raws i raw → s ≡ get_or ss i s → new ≡ old ++ t ∷ []
    → PickedAll fs vs (take i raws) (take i ss) old
    → ReadsAt fs vs raw s t → PickedAll fs vs (take (i + 1) raws) (take (i + 1) ss) new
picked_next fs vs raws ss i old new raw s t lt less e d grown h k =
    let more : take (i + 1) raws ≡ take i raws ++ raw ∷ [] =
    take_more raws i raw lt ∙ ap (λ r. take i raws ++ r ∷ []) (sym e) in
    let further : take (i + 1) ss ≡ take i ss ++ s ∷ [] =
    take_more ss i s less ∙ ap (λ z. take i ss ++ z ∷ []) (sym d) in
    subst (PickedAll fs vs (take (i + 1) raws) (take (i + 1) ss)) (sym grown)
    (subst (λ zs. PickedAll fs vs (take (i + 1) raws) zs (old ++ t ∷ [])) (sym further)
    (subst (λ rs. PickedAll fs vs rs (take i ss ++ s ∷ []) (old ++ t ∷ [])) (sym more)
    (picked_more fs vs (take i raws) (take i ss) old raw s t h k)))

-- arguments of which all are taken
pub picked_taken : (fs : List PlainOperator) (vs : Variables) (raws : List RawTree) (ss : List (List ℕ)) (i : ℕ)
    (ts : List Tree) → length raws ≡ length ss → length ss ≤ i
    → PickedAll fs vs (take i raws) (take i ss) ts → ReadAt fs vs raws ss ts
picked_taken fs vs raws ss i ts same over h =
    all_picked fs vs raws ss ts
    (subst (λ rs. PickedAll fs vs rs ss ts) (take_all raws i (omega (arith, same, over)))
    (subst (λ zs. PickedAll fs vs (take i raws) zs ts) (take_all ss i over) h))

-- an operator that makes a sort, with arguments that read at its domain
pub operator_picked : (fs : List PlainOperator) (vs : Variables) (n : List ℕ) (raws : List RawTree) (p : Pos)
    (s : List ℕ) (f : PlainOperator) (ts : List Tree) → variable_sort vs n (raw_forest raws) ≡ None
    → Contains (operators_named n (taking_part fs)) f × (f.range ≡ s) → ReadAt fs vs raws f.domain ts
    → ReadsAt fs vs (apply n (raw_forest raws) p) s (app f (forest_of ts))
operator_picked fs vs n raws p s f ts unbound h r =
    (to_reads fs vs n raws p (app f (forest_of ts)) unbound (f, h.0, (ts, r, refl)), h.1)

-- what a qualified term reads as, if anything was found
pub qualified_picked : (fs : List PlainOperator) (vs : Variables) (raw : RawTree) (w : RawWord) (p : Pos) (s : List ℕ)
    (found : Option Tree) → w.name ≡ s → IfSome found (ReadsAt fs vs raw s)
    → IfSome found (ReadsAt fs vs (qualified raw w p) s)
qualified_picked fs vs raw w p s None e h = tt
qualified_picked fs vs raw w p s (Some t) e h = (of_sort h.0 (h.1 ∙ sym e), h.1)

only_read : (P : Tree → Type 0) (found : Option Tree) → IfSome found (IsOnly P) → IfSome found P
only_read P None h = tt
only_read P (Some t) h = h.0

-- what a variable reads as
pub variable_picked : (fs : List PlainOperator) (vs : Variables) (n z : List ℕ) (rs : RawForest) (p : Pos) (s : List ℕ)
    (found : Option Tree) → variable_sort vs n rs ≡ Some z
    → found ≡ cond (bytes_eq z s) (Some (var n z)) None → IfSome found (ReadsAt fs vs (apply n rs p) s)
variable_picked fs vs n z rs p s found some e =
    only_read (ReadsAt fs vs (apply n rs p) s) found (variable_only fs vs n z rs p s found some e)

-- the only maker of a sort is one of the operators, and makes it
pub maker_picked : (fs : List PlainOperator) (arity : ℕ) (s : List ℕ) (f : PlainOperator)
    → Some (One f) ≡ maker_among (making arity s) fs → Contains fs f × (f.range ≡ s)
maker_picked fs arity s f e =
    let told = subst (λ o. Tells o (λ g. Contains fs g × (made_place g ≡ making arity s))) (sym e)
    (makers_tell (making arity s) fs) in
    (told.0.0, ap (λ q. q.sort) told.0.1)
