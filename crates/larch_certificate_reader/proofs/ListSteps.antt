-- Reading and writing of a list go on by one item.
use Rattle.std.proofs.Common.{◌≡◌, ℕ, ◌<◌, ◌==◌, cond, Bool, true, false, List, [], ◌∷◌, ◌++◌, length, Option, Some}
use Rattle.std.proofs.Common.{None, refl, sym, ◌∙◌, ap, arith, append_assoc, length-append}
use Rattle.std.specs.Prelude.{option_map}
use Rattle.std.specs.List.{onto_first}
use Rattle.std.proofs.lemmas.Option.{none-some, some_pair_parts}
use Rattle.larch_certificate_text.specs.ListText.{split_at, both, read_each}
use Rattle.larch_certificate_text.specs.Parts.{cut_at, onto}
use Rattle.larch_certificate_text.proofs.Cuts.{cut_some}

-- the items so far and those to come
abbrev pub with_more : {A : Type 0} → List A → Option (List A) → Option (List A)
with_more xs None = None
with_more xs (Some ys) = Some (xs ++ ys)

split_more : (c b : ℕ) (bs : List ℕ) (o : Option (List ℕ × List ℕ)) (x y : List ℕ)
    → ((u v : List ℕ) → o ≡ Some (u, v) → split_at c bs ≡ u ∷ split_at c v) → option_map (onto b) o ≡ Some (x, y)
    → onto_first b (split_at c bs) ≡ x ∷ split_at c y
split_more c b bs None x y f e = absurd (none-some (x, y) e)
split_more c b bs (Some p) x y f e =
    let q = some_pair_parts (b ∷ p.0) x p.1 y e in
    ap (onto_first b) (f p.0 p.1 refl) ∙ ap (λ z. z ∷ split_at c p.1) q.0 ∙ ap (λ z. x ∷ split_at c z) q.1

split_by : (c b : ℕ) (bs : List ℕ) (t : Bool) (o : Option (List ℕ × List ℕ)) (x y : List ℕ)
    → ((u v : List ℕ) → o ≡ Some (u, v) → split_at c bs ≡ u ∷ split_at c v)
    → cond {A = Option (List ℕ × List ℕ)} t (Some ([], bs)) (option_map (onto b) o) ≡ Some (x, y)
    → cond {A = List (List ℕ)} t ([] ∷ split_at c bs) (onto_first b (split_at c bs)) ≡ x ∷ split_at c y
split_by c b bs true o x y f e =
    let q = some_pair_parts [] x bs y e in
    ap (λ z. z ∷ split_at c bs) q.0 ∙ ap (λ z. x ∷ split_at c z) q.1
split_by c b bs false o x y f e = split_more c b bs o x y f e

pub split_cut : (c : ℕ) (text x y : List ℕ) → cut_at c text ≡ Some (x, y) → split_at c text ≡ x ∷ split_at c y
split_cut c [] x y e = absurd (none-some (x, y) e)
split_cut c (b ∷ bs) x y e = split_by c b bs (b == c) (cut_at c bs) x y (λ u v i. split_cut c bs u v i) e

uncut_more : (c b : ℕ) (bs : List ℕ) (o : Option (List ℕ × List ℕ)) → (o ≡ None → split_at c bs ≡ bs ∷ [])
    → option_map (onto b) o ≡ None → onto_first b (split_at c bs) ≡ (b ∷ bs) ∷ []
uncut_more c b bs None f e = ap (onto_first b) (f refl)
uncut_more c b bs (Some p) f e = absurd (none-some (onto b p) (sym e))

uncut_by : (c b : ℕ) (bs : List ℕ) (t : Bool) (o : Option (List ℕ × List ℕ)) → (o ≡ None → split_at c bs ≡ bs ∷ [])
    → cond {A = Option (List ℕ × List ℕ)} t (Some ([], bs)) (option_map (onto b) o) ≡ None
    → cond {A = List (List ℕ)} t ([] ∷ split_at c bs) (onto_first b (split_at c bs)) ≡ (b ∷ bs) ∷ []
uncut_by c b bs true o f e = absurd (none-some ([], bs) (sym e))
uncut_by c b bs false o f e = uncut_more c b bs o f e

pub split_uncut : (c : ℕ) (text : List ℕ) → cut_at c text ≡ None → split_at c text ≡ text ∷ []
split_uncut c [] e = refl
split_uncut c (b ∷ bs) e = uncut_by c b bs (b == c) (cut_at c bs) (λ i. split_uncut c bs i) e

pub cut_shorter : (c : ℕ) (text x y : List ℕ) → cut_at c text ≡ Some (x, y) → length y < length text
cut_shorter c text x y e =
    let k = cut_some c text x y e in
    rw k (omega (arith, length-append x (c ∷ y)))

with_more_both : {A : Type 0} (xs : List A) (a : A) (o : Option (List A))
    → with_more (xs ++ (a ∷ [])) o ≡ with_more xs (both (Some a) o)
with_more_both xs a None = refl
with_more_both xs a (Some ys) = ap Some (append_assoc xs (a ∷ []) ys)

pub item_some : {A : Type 0} (f : List ℕ → Option A) (c : ℕ) (xs : List A) (text x y : List ℕ) (a : A)
    → Some (x, y) ≡ cut_at c text → Some a ≡ f x
    → with_more (xs ++ (a ∷ [])) (read_each f (split_at c y)) ≡ with_more xs (read_each f (split_at c text))
item_some f c xs text x y a e i =
    with_more_both xs a (read_each f (split_at c y)) ∙ ap (λ o. with_more xs (both o (read_each f (split_at c y)))) i
    ∙ ap (λ z. with_more xs (read_each f z)) (sym (split_cut c text x y (sym e)))

pub item_none : {A : Type 0} (f : List ℕ → Option A) (c : ℕ) (xs : List A) (text x y : List ℕ)
    → Some (x, y) ≡ cut_at c text → None ≡ f x → None ≡ with_more xs (read_each f (split_at c text))
item_none f c xs text x y e i =
    ap (λ o. with_more xs (both o (read_each f (split_at c y)))) i
    ∙ ap (λ z. with_more xs (read_each f z)) (sym (split_cut c text x y (sym e)))

pub last_some : {A : Type 0} (f : List ℕ → Option A) (c : ℕ) (xs : List A) (text : List ℕ) (a : A)
    → None ≡ cut_at c text → Some a ≡ f text → Some (xs ++ (a ∷ [])) ≡ with_more xs (read_each f (split_at c text))
last_some f c xs text a e i =
    ap (λ o. with_more xs (both o (Some []))) i
    ∙ ap (λ z. with_more xs (read_each f z)) (sym (split_uncut c text (sym e)))

pub last_none : {A : Type 0} (f : List ℕ → Option A) (c : ℕ) (xs : List A) (text : List ℕ) → None ≡ cut_at c text
    → None ≡ f text → None ≡ with_more xs (read_each f (split_at c text))
last_none f c xs text e i =
    ap (λ o. with_more xs (both o (Some []))) i
    ∙ ap (λ z. with_more xs (read_each f z)) (sym (split_uncut c text (sym e)))
