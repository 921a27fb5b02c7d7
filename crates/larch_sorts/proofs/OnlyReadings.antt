-- What reads as one thing at a sort.
use Rattle.std.proofs.Common.{◌≡◌, ℕ, ◌+◌, ◌<◌, ◌≤◌, zero, suc, Bool, true, false, not, cond, List, [], ◌∷◌, ◌++◌}
use Rattle.std.proofs.Common.{Contains, Option, Some, None, Ok, IfSome, bytes_eq, take, get_or, length, inl, inr, refl}
use Rattle.std.proofs.Common.{sym, ◌∙◌, ap, ap₂, subst, arith}
use Rattle.std.proofs.lemmas.List.{take_more}
use Rattle.larch_base.specs.declared.position.Pos.{Pos}
use Rattle.larch_raw.specs.RawTree.{RawTree, RawForest, apply, qualified, raw_forest}
use Rattle.larch_raw.specs.declared.declared.RawWord.{RawWord}
use Rattle.larch_raw.specs.declared.equation.RawEquation.{RawEquation}
use Rattle.larch_raw.specs.declared.equation.RawRight.{RawRight}
use Rattle.larch_base.proofs.Members.{contains_cases, contains_none}
use Rattle.larch_term.specs.Operator.{PlainOperator}
use Rattle.larch_term.specs.Sorts.{sort_of, sorts_of}
use Rattle.larch_term.specs.Tree.{Tree, app, forest_of, var}
use Rattle.larch_term.specs.declared.statement.Statement.TheVariants.{Equation}
use Rattle.larch_sorts_signature.specs.SortsMeaningFound.{Tells}
use Rattle.larch_sorts_signature.specs.Makers.{made_place, maker_among, making}
use Rattle.larch_sorts_signature.specs.SortsMeaningReadings.{ReadAt, ReadsAt, AllRead, IsOnly}
use Rattle.larch_sorts_signature.specs.SortsMeaningReadings.{Reads, ReadsRight, all_read, one_read}
use Rattle.larch_sorts_signature.specs.SortsMeaningReadings.{of_sort, variable_sort}
use Rattle.larch_sorts.specs.Narrow.{application_of}
use Rattle.larch_sorts_signature.specs.SortsMeaningParts.{in_sides, parts, sides}
use Rattle.larch_sorts_signature.specs.SortsMeaningRead.{read_equation}
use Rattle.larch_sorts_signature.specs.SortsMeaningScope.{Variables}
use Rattle.larch_sorts.specs.Sides.{ReadsSides}
use Rattle.larch_sorts_signature.specs.SortsMeaningSignature.{operators_named, taking_part}
use Rattle.larch_sorts_signature.specs.SortsMeaningUnknown.{unknown_sort}
use Rattle.larch_sorts_signature.specs.SortsMeaningFoundFound.TheVariants.{One}
use Rattle.larch_sorts.specs.declared.found.Sides.{Sides}
use Rattle.larch_sorts_signature.proofs.MakersTold.{makers_tell}
use Rattle.larch_sorts_signature.proofs.SortsMeaningParts.{all_parts_have, equation_parts}
use Rattle.larch_sorts.proofs.SidesAnswers.{equation_found}
use Rattle.larch_sorts.proofs.SidesTold.{equal_sides}
use Rattle.larch_sorts_signature.proofs.SortsMeaningApplications.{from_reads, inside, only_empty}
use Rattle.larch_sorts_signature.proofs.SortsMeaningApplications.{put_together, taken_apart, to_reads}
use Rattle.larch_sorts.proofs.Tables.{variable_at}

pub not_false : (b : Bool) → not b ≡ false → b ≡ true
not_false true e = refl
not_false false e = cc

variable_by : (fs : List PlainOperator) (vs : Variables) (n z : List ℕ) (rs : RawForest) (p : Pos) (s : List ℕ)
    (b : Bool) → variable_sort vs n rs ≡ Some z → bytes_eq z s ≡ b
    → IfSome (cond b (Some (var n z)) None) (IsOnly (ReadsAt fs vs (apply n rs p) s))
variable_by fs vs n z rs p s true some e = variable_at fs vs n z rs p s true some e
variable_by fs vs n z rs p s false some e = tt

-- what a variable reads as
pub variable_only : (fs : List PlainOperator) (vs : Variables) (n z : List ℕ) (rs : RawForest) (p : Pos) (s : List ℕ)
    (found : Option Tree) → variable_sort vs n rs ≡ Some z
    → found ≡ cond (bytes_eq z s) (Some (var n z)) None → IfSome found (IsOnly (ReadsAt fs vs (apply n rs p) s))
variable_only fs vs n z rs p s found some e =
    subst (λ o. IfSome o (IsOnly (ReadsAt fs vs (apply n rs p) s))) (sym e)
    (variable_by fs vs n z rs p s (bytes_eq z s) some refl)

-- what a qualification reads as
pub qualified_only : (fs : List PlainOperator) (vs : Variables) (raw : RawTree) (w : RawWord) (p : Pos) (s : List ℕ)
    (found : Option Tree) → w.name ≡ s
    → IfSome found (IsOnly (ReadsAt fs vs raw s)) → IfSome found (IsOnly (ReadsAt fs vs (qualified raw w p) s))
qualified_only fs vs raw w p s None e h = tt
qualified_only fs vs raw w p s (Some t) e h =
    ((of_sort h.0.0 (h.0.1 ∙ sym e), h.0.1), λ u q. let r = inside fs vs raw w p u q.0 in h.1 u (r.0, r.1 ∙ e))

-- each of these arguments is the only one at its sort
abbrev pub OnlyAll : List PlainOperator → Variables → List RawTree → List (List ℕ) → List Tree → Type 0
OnlyAll fs vs [] [] [] = Unit {0}
OnlyAll fs vs (raw ∷ raws) (s ∷ ss) (t ∷ ts) = IsOnly (ReadsAt fs vs raw s) t × OnlyAll fs vs raws ss ts
OnlyAll fs vs [] (s ∷ ss) ts = ⊥
OnlyAll fs vs [] [] (t ∷ ts) = ⊥
OnlyAll fs vs (raw ∷ raws) [] ts = ⊥
OnlyAll fs vs (raw ∷ raws) (s ∷ ss) [] = ⊥

-- arguments that are the only ones at their sorts are the only ones together
pub all_only : (fs : List PlainOperator) (vs : Variables) (raws : List RawTree) (ss : List (List ℕ)) (ts : List Tree)
    → OnlyAll fs vs raws ss ts → IsOnly (ReadAt fs vs raws ss) ts
all_only fs vs [] [] [] h = ((all_read, refl), only_empty fs vs)
all_only fs vs (raw ∷ raws) (s ∷ ss) (t ∷ ts) h =
    let k = all_only fs vs raws ss ts h.1 in (
      put_together fs vs raw raws s ss (t ∷ ts) (t, ts, refl, h.0.0, k.0),
      λ us r. let w = taken_apart fs vs raw raws s ss us r in w.2 ∙ ap₂ (λ z zs. z ∷ zs) (h.0.1 w.0 w.3) (k.1 w.1 w.4),
    )
all_only fs vs [] (s ∷ ss) ts h = absurd h
all_only fs vs [] [] (t ∷ ts) h = absurd h
all_only fs vs (raw ∷ raws) [] ts h = absurd h
all_only fs vs (raw ∷ raws) (s ∷ ss) [] h = absurd h

only_more : (fs : List PlainOperator) (vs : Variables) (raws : List RawTree) (ss : List (List ℕ)) (ts : List Tree)
    (raw : RawTree) (s : List ℕ) (t : Tree)
    → OnlyAll fs vs raws ss ts → IsOnly (ReadsAt fs vs raw s) t
    → OnlyAll fs vs (raws ++ raw ∷ []) (ss ++ s ∷ []) (ts ++ t ∷ [])
only_more fs vs [] [] [] raw s t h k = (k, tt)
only_more fs vs (r ∷ raws) (z ∷ ss) (u ∷ ts) raw s t h k = (h.0, only_more fs vs raws ss ts raw s t h.1 k)
only_more fs vs [] (z ∷ ss) ts raw s t h k = absurd h
only_more fs vs [] [] (u ∷ ts) raw s t h k = absurd h
only_more fs vs (r ∷ raws) [] ts raw s t h k = absurd h
only_more fs vs (r ∷ raws) (z ∷ ss) [] raw s t h k = absurd h

-- one argument more
pub only_next : (fs : List PlainOperator) (vs : Variables) (raws : List RawTree) (ss : List (List ℕ)) (i : ℕ)
    (old new : List Tree) (raw : RawTree) (s : List ℕ) (t : Tree)
    → i < length raws → i < length ss → raw ≡ get_or raws i raw → s ≡ get_or ss i s → new ≡ old ++ t ∷ []
    → OnlyAll fs vs (take i raws) (take i ss) old
    → IsOnly (ReadsAt fs vs raw s) t → OnlyAll fs vs (take (i + 1) raws) (take (i + 1) ss) new
only_next fs vs raws ss i old new raw s t lt less e d grown h k =
    let more : take (i + 1) raws ≡ take i raws ++ raw ∷ [] =
    take_more raws i raw lt ∙ ap (λ r. take i raws ++ r ∷ []) (sym e) in
    let further : take (i + 1) ss ≡ take i ss ++ s ∷ [] =
    take_more ss i s less ∙ ap (λ z. take i ss ++ z ∷ []) (sym d) in
    subst (OnlyAll fs vs (take (i + 1) raws) (take (i + 1) ss)) (sym grown)
    (subst (λ zs. OnlyAll fs vs (take (i + 1) raws) zs (old ++ t ∷ [])) (sym further)
    (subst (λ rs. OnlyAll fs vs rs (take i ss ++ s ∷ []) (old ++ t ∷ [])) (sym more)
    (only_more fs vs (take i raws) (take i ss) old raw s t h k)))

-- a list of which all is taken
pub take_all : {X : Type 0} (xs : List X) (i : ℕ) → length xs ≤ i → take i xs ≡ xs
take_all [] zero l = refl
take_all [] (suc i) l = refl
take_all (x ∷ xs) zero l = absurd (omega (arith, l))
take_all (x ∷ xs) (suc i) l = ap (λ ys. x ∷ ys) (take_all xs i (omega (arith, l)))

-- arguments of which all are taken
pub only_taken : (fs : List PlainOperator) (vs : Variables) (raws : List RawTree) (ss : List (List ℕ)) (i : ℕ)
    (ts : List Tree) → length raws ≡ length ss → length ss ≤ i
    → OnlyAll fs vs (take i raws) (take i ss) ts → IsOnly (ReadAt fs vs raws ss) ts
only_taken fs vs raws ss i ts same over h =
    all_only fs vs raws ss ts
    (subst (λ rs. OnlyAll fs vs rs ss ts) (take_all raws i (omega (arith, same, over)))
    (subst (λ zs. OnlyAll fs vs (take i raws) zs ts) (take_all ss i over) h))

read_lengths : (fs : List PlainOperator) (vs : Variables) (raws : List RawTree) (ts : List Tree)
    → AllRead fs vs (raw_forest raws) (forest_of ts) → length (sorts_of (forest_of ts)) ≡ length raws
read_lengths fs vs [] [] r = refl
read_lengths fs vs [] (t ∷ ts) r = elim r [ ]
read_lengths fs vs (raw ∷ raws) [] r = elim r [ ]
read_lengths fs vs (raw ∷ raws) (t ∷ ts) (one_read r all) = ap suc (read_lengths fs vs raws ts all)

same_making : (n m : ℕ) (s z : List ℕ) → n ≡ m → s ≡ z → making n s ≡ making m z
same_making n m s z e d = λ i. making (e i) (d i)

-- what the one maker of a sort makes of the only arguments
pub maker_only : (fs : List PlainOperator) (vs : Variables) (n : List ℕ) (raws : List RawTree) (p : Pos) (s : List ℕ)
    (f : PlainOperator) (found : Option (List Tree)) (reading : Option Tree)
    → variable_sort vs n (raw_forest raws) ≡ None
    → Some (One f) ≡ maker_among (making (length raws) s) (operators_named n (taking_part fs))
    → IfSome found (IsOnly (ReadAt fs vs raws f.domain)) → reading ≡ application_of f found
    → IfSome reading (IsOnly (ReadsAt fs vs (apply n (raw_forest raws) p) s))
maker_only fs vs n raws p s f None reading unbound e h is =
    subst (λ o. IfSome o (IsOnly (ReadsAt fs vs (apply n (raw_forest raws) p) s))) (sym is) tt
maker_only fs vs n raws p s f (Some ts) reading unbound e h is =
    let told =
    subst
    (λ o. Tells o (λ g. Contains (operators_named n (taking_part fs)) g × (made_place g ≡ making (length raws) s)))
    (sym e) (makers_tell (making (length raws) s) (operators_named n (taking_part fs))) in
    subst (λ o. IfSome o (IsOnly (ReadsAt fs vs (apply n (raw_forest raws) p) s))) (sym is) (
      (
        to_reads fs vs n raws p (app f (forest_of ts)) unbound (f, told.0.0, (ts, h.0, refl)),
        ap (λ q. q.sort) told.0.1,
      ),
      λ t r.
          let b = from_reads fs vs n raws (raw_forest raws) p t refl unbound r.0 in
          let long : length b.0.domain ≡ length raws =
          ap length (sym b.2.1.1) ∙ read_lengths fs vs raws b.2.0 b.2.1.0 in
          let made : made_place b.0 ≡ making (length raws) s =
          same_making (length b.0.domain) (length raws) b.0.range s long (ap sort_of (sym b.2.2) ∙ r.1) in
          let same : b.0 ≡ f = told.1 b.0 (b.1, made) in
          let arguments : b.2.0 ≡ ts = h.1 b.2.0 (subst (λ g. ReadAt fs vs raws g.domain b.2.0) same b.2.1) in
          b.2.2 ∙ ap₂ (λ g us. app g (forest_of us)) same arguments,
    )

-- a name of one operator has the sort that it makes
pub one_sort : (fs : List PlainOperator) (vs : Variables) (n : List ℕ) (raws : List RawTree) (p : Pos)
    (f : PlainOperator) → variable_sort vs n (raw_forest raws) ≡ None
    → operators_named n (taking_part fs) ≡ f ∷ [] → (t : Tree) → Reads fs vs (apply n (raw_forest raws) p) t
    → sort_of t ≡ f.range
one_sort fs vs n raws p f unbound e t r =
    let b = from_reads fs vs n raws (raw_forest raws) p t refl unbound r in
    let same : b.0 ≡ f =
    elim (contains_cases f b.0 [] (subst (λ gs. Contains gs b.0) e b.1))
    [ inl q ↦ sym q | inr c ↦ absurd (contains_none b.0 c) ] in
    ap sort_of b.2.2 ∙ ap (λ g. g.range) same

-- the only sides are answered
pub sides_answered : (fs : List PlainOperator) (vs : Variables) (raw : RawEquation) (found : Option Sides)
    (these : Sides) → unknown_sort fs raw ≡ None
    → IfSome found (IsOnly (ReadsSides fs vs raw)) → found ≡ Some these
    → read_equation fs vs raw ≡ Ok (Equation these.left these.right)
sides_answered fs vs raw found these u h e =
    let only : IsOnly (ReadsSides fs vs raw) these = subst (λ o. IfSome o (IsOnly (ReadsSides fs vs raw))) e h in
    equation_found fs vs raw (Some (One these)) u
    (all_parts_have fs vs (in_sides parts (sides raw))
    (equation_parts fs vs raw (Equation these.left these.right) only.0)) only

-- what both sides read as at the only sort that they may have is what the equation reads as
pub only_sides_met : (fs : List PlainOperator) (vs : Variables) (raw : RawEquation) (right : RawRight) (s : List ℕ)
    (found : Option Sides) → raw.right ≡ Some right
    → ((l r : Tree) → Reads fs vs raw.left l → Reads fs vs right.term r → sort_of l ≡ sort_of r → sort_of l ≡ s)
    → IfSome found (λ p. IsOnly (ReadsAt fs vs raw.left s) p.left × IsOnly (ReadsAt fs vs right.term s) p.right)
    → IfSome found (IsOnly (ReadsSides fs vs raw))
only_sides_met fs vs raw right s None e told h = tt
only_sides_met fs vs raw right s (Some p) e told h =
    subst (λ o. IsOnly (λ q. Reads fs vs raw.left q.left × ReadsRight fs vs o q.left q.right) p) (sym e) (
      (h.0.0.0, (h.1.0.0, h.0.0.1 ∙ sym h.1.0.1)),
      λ q w.
          let at : sort_of q.left ≡ s = told q.left q.right w.0 w.1.0 w.1.1 in
          equal_sides q p (h.0.1 q.left (w.0, at)) (h.1.1 q.right (w.1.0, sym w.1.1 ∙ at)),
    )
