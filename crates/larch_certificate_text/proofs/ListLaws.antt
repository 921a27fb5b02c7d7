-- A list has one text where its items have, and so has a named part.
use Rattle.std.proofs.Common.{◌≡◌, ℕ, ◌==◌, cond, Bool, true, false, List, [], ◌∷◌, ◌++◌, length, Option, Some, None}
use Rattle.std.proofs.Common.{refl, sym, ◌∙◌, ap, arith, subst, map}
use Rattle.std.specs.Prelude.{bytes_eq, option_and_then}
use Rattle.std.specs.List.{join_with_byte, onto_first}
use Rattle.std.proofs.lemmas.Bool.{cond-false, cond-true, ne_eqb, and_from, eq-eqb, eqb-false}
use Rattle.std.proofs.lemmas.Option.{none-some, same_Some, option_and_then_some, cond_some}
use Rattle.std.proofs.lemmas.List.Splits.{slice_split-cons_yes, slice_split-cons_no, length-slice_split}
use Rattle.std.proofs.lemmas.List.Splits.{join_with_byte-slice_split}
use Rattle.std.proofs.lemmas.Slice.Eq.{bytes_eq-Decides}
use Rattle.larch_certificate_text.specs.declared.here.Here.{Here}
use Rattle.larch_certificate_text.specs.ByteClasses.{passes, Lacks}
use Rattle.larch_certificate_text.specs.ListText.{Laws, split_at, list_text, both, read_each, read_listed, named_by}
use Rattle.larch_certificate_text.specs.ListText.{part_with_label, with_label, unnamed_by, without_label, part}
use Rattle.larch_certificate_text.specs.Parts.{Each, cut_at}
use Rattle.larch_certificate_text.proofs.Bytes.{lacks, passes_append, passes_more}
use Rattle.larch_certificate_text.proofs.Cuts.{cut_again, cut_some}

-- ---- splitting

pub split_none : (c : ℕ) (xs : List ℕ) → Lacks c xs → split_at c xs ≡ xs ∷ []
split_none c [] l = refl
split_none c (x ∷ xs) l =
    slice_split-cons_no (λ b. b == c) x xs (ne_eqb x c l.0) ∙ ap (onto_first x) (split_none c xs l.1)

pub split_first : (c : ℕ) (xs ys : List ℕ) → Lacks c xs → split_at c (xs ++ (c ∷ ys)) ≡ xs ∷ split_at c ys
split_first c [] ys l = slice_split-cons_yes (λ b. b == c) c ys (eq-eqb c c refl)
split_first c (x ∷ xs) ys l =
    slice_split-cons_no (λ b. b == c) x (xs ++ (c ∷ ys)) (ne_eqb x c l.0) ∙ ap (onto_first x) (split_first c xs ys l.1)

pub split_joined : (c : ℕ) (x : List ℕ) (xs : List (List ℕ)) → Each (Lacks c) (x ∷ xs)
    → split_at c (join_with_byte c (x ∷ xs)) ≡ x ∷ xs
split_joined c x [] l = split_none c x l.0
split_joined c x (y ∷ ys) l =
    split_first c x (join_with_byte c (y ∷ ys)) l.0 ∙ ap (λ z. x ∷ z) (split_joined c y ys l.1)

pub joined_split : (c : ℕ) (text : List ℕ) → join_with_byte c (split_at c text) ≡ text
joined_split c text = join_with_byte-slice_split c text

-- ---- lists

pub each_again : {A : Type 0} {p : ℕ → Bool} {f : List ℕ → Option A} {spell : A → List ℕ} {Fit : A → Type 0}
    → Laws p f spell Fit → (xs : List A) → Each Fit xs → read_each f (map spell xs) ≡ Some xs
each_again w [] e = refl
each_again {f = f} {spell = spell} w (x ∷ xs) e =
    ap (λ o. both o (read_each f (map spell xs))) (w.again x e.0) ∙ ap (both (Some x)) (each_again w xs e.1)

both_some : {A P : Type 0} (o : Option A) (q : Option (List A)) (ys : List A) → both o q ≡ Some ys
    → ((x : A) (xs : List A) → o ≡ Some x → q ≡ Some xs → x ∷ xs ≡ ys → P) → P
both_some None q ys e k = absurd (none-some ys e)
both_some (Some x) None ys e k = absurd (none-some ys e)
both_some (Some x) (Some xs) ys e k = k x xs refl refl (same_Some (x ∷ xs) ys e)

pub each_back : {A : Type 0} {p : ℕ → Bool} {f : List ℕ → Option A} {spell : A → List ℕ} {Fit : A → Type 0}
    → Laws p f spell Fit → (ts : List (List ℕ)) (xs : List A) → read_each f ts ≡ Some xs
    → (ts ≡ map spell xs) × Each Fit xs
each_back {spell = spell} {Fit = Fit} w [] xs e =
    subst (λ xs. ([] ≡ map spell xs) × Each Fit xs) (same_Some [] xs e) (refl, tt)
each_back {f = f} {spell = spell} {Fit = Fit} w (t ∷ ts) xs e =
    both_some (f t) (read_each f ts) xs e (λ y ys i j k.
    let a = w.back t y i in
    let b = each_back w ts ys j in
    subst (λ xs. (t ∷ ts ≡ map spell xs) × Each Fit xs) k (cc (a.0, b.0), (a.1, b.1)))

lacks_each : {A : Type 0} {p : ℕ → Bool} {f : List ℕ → Option A} {spell : A → List ℕ} {Fit : A → Type 0}
    → Laws p f spell Fit → (c : ℕ) → p c ≡ false → (xs : List A) → Each Fit xs → Each (Lacks c) (map spell xs)
lacks_each w c n [] e = tt
lacks_each {p = p} {spell = spell} w c n (x ∷ xs) e = (lacks p c (spell x) (w.bytes x e.0) n, lacks_each w c n xs e.1)

-- the text of a list that has items is not that of none
not_dash : {A : Type 0} {p : ℕ → Bool} {f : List ℕ → Option A} {spell : A → List ℕ} {Fit : A → Type 0}
    → Laws p f spell Fit → (c : ℕ) → p c ≡ false → (45 == c) ≡ false → f (45 ∷ []) ≡ None → (x : A) (xs : List A)
    → Each Fit (x ∷ xs) → (t : Bool) → bytes_eq (join_with_byte c (map spell (x ∷ xs))) (45 ∷ []) ≡ t → t ≡ false
not_dash {f = f} {spell = spell} w c n d g x xs e false i = refl
not_dash {f = f} {spell = spell} w c n d g x xs e true i =
    let s = (bytes_eq-Decides (join_with_byte c (map spell (x ∷ xs))) (45 ∷ [])).0 i in
    let k : spell x ∷ map spell xs
    ≡ (45 ∷ []) ∷ [] =
    sym (split_joined c (spell x) (map spell xs) (lacks_each w c n (x ∷ xs) e)) ∙ ap (split_at c) s
    ∙ split_none c (45 ∷ []) (λ o. eqb-false 45 c d o, tt) in
    let y : spell x ≡ 45 ∷ [] = cc in
    absurd (none-some x (sym g ∙ ap f (sym y) ∙ w.again x e.0))

pub listed_again : {A : Type 0} {p : ℕ → Bool} {f : List ℕ → Option A} {spell : A → List ℕ} {Fit : A → Type 0}
    → Laws p f spell Fit → (c : ℕ) → p c ≡ false → (45 == c) ≡ false → f (45 ∷ []) ≡ None → (xs : List A) → Each Fit xs
    → read_listed f c (list_text c (map spell xs)) ≡ Some xs
listed_again w c n d g [] e = refl
listed_again {f = f} {spell = spell} w c n d g (x ∷ xs) e =
    cond-false (bytes_eq (join_with_byte c (map spell (x ∷ xs))) (45 ∷ [])) (Some [])
    (read_each f (split_at c (join_with_byte c (map spell (x ∷ xs)))))
    (not_dash w c n d g x xs e (bytes_eq (join_with_byte c (map spell (x ∷ xs))) (45 ∷ [])) refl)
    ∙ ap (read_each f) (split_joined c (spell x) (map spell xs) (lacks_each w c n (x ∷ xs) e))
    ∙ each_again w (x ∷ xs) e

listed_back_by : {A : Type 0} {p : ℕ → Bool} {f : List ℕ → Option A} {spell : A → List ℕ} {Fit : A → Type 0}
    → Laws p f spell Fit → (c : ℕ) (text : List ℕ) (xs : List A) (t : Bool) → bytes_eq text (45 ∷ []) ≡ t
    → cond t (Some []) (read_each f (split_at c text)) ≡ Some xs → (text ≡ list_text c (map spell xs)) × Each Fit xs
listed_back_by {spell = spell} {Fit = Fit} w c text xs true i e =
    subst (λ xs. (text ≡ list_text c (map spell xs)) × Each Fit xs) (same_Some [] xs e)
    ((bytes_eq-Decides text (45 ∷ [])).0 i, tt)
listed_back_by {spell = spell} w c text [] false i e =
    let r = each_back w (split_at c text) [] e in
    let k : length (split_at c text) ≡ 0 = ap length r.0 in
    absurd (omega (arith, length-slice_split (λ b. b == c) text, k))
listed_back_by {spell = spell} w c text (x ∷ xs) false i e =
    let r = each_back w (split_at c text) (x ∷ xs) e in
    (sym (joined_split c text) ∙ ap (join_with_byte c) r.0, r.1)

pub joined_passes : (p : ℕ → Bool) (c : ℕ) → p c ≡ true → (xs : List (List ℕ)) → Each (λ x. passes p x ≡ true) xs
    → passes p (join_with_byte c xs) ≡ true
joined_passes p c n [] e = refl
joined_passes p c n (x ∷ []) e = e.0
joined_passes p c n (x ∷ y ∷ ys) e =
    passes_append p x (c ∷ join_with_byte c (y ∷ ys)) e.0
    (and_from (p c) (passes p (join_with_byte c (y ∷ ys))) n (joined_passes p c n (y ∷ ys) e.1))

passes_each : {A : Type 0} {p : ℕ → Bool} {f : List ℕ → Option A} {spell : A → List ℕ} {Fit : A → Type 0}
    → Laws p f spell Fit → (q : ℕ → Bool) → ((b : ℕ) → p b ≡ true → q b ≡ true) → (xs : List A) → Each Fit xs
    → Each (λ x. passes q x ≡ true) (map spell xs)
passes_each w q m [] e = tt
passes_each {p = p} {spell = spell} w q m (x ∷ xs) e =
    (passes_more p q m (spell x) (w.bytes x e.0), passes_each w q m xs e.1)

listed_passes : {A : Type 0} {p : ℕ → Bool} {f : List ℕ → Option A} {spell : A → List ℕ} {Fit : A → Type 0}
    → Laws p f spell Fit → (q : ℕ → Bool) → ((b : ℕ) → p b ≡ true → q b ≡ true) → (c : ℕ) → q c ≡ true → q 45 ≡ true
    → (xs : List A) → Each Fit xs → passes q (list_text c (map spell xs)) ≡ true
listed_passes w q m c n d [] e = and_from (q 45) true d refl
listed_passes {spell = spell} w q m c n d (x ∷ xs) e =
    joined_passes q c n (map spell (x ∷ xs)) (passes_each w q m (x ∷ xs) e)

-- the laws of a list, from those of its items
pub list_laws : {A : Type 0} {p : ℕ → Bool} {f : List ℕ → Option A} {spell : A → List ℕ} {Fit : A → Type 0}
    → Laws p f spell Fit → (q : ℕ → Bool) → ((b : ℕ) → p b ≡ true → q b ≡ true) → (c : ℕ) → p c ≡ false → q c ≡ true
    → q 45 ≡ true → (45 == c) ≡ false → f (45 ∷ []) ≡ None
    → Laws q (read_listed f c) (λ xs. list_text c (map spell xs)) (Each Fit)
list_laws w q m c n a b d g = record {
  again = listed_again w c n d g;
  back = λ text xs e. listed_back_by w c text xs (bytes_eq text (45 ∷ [])) refl e;
  bytes = listed_passes w q m c a b;
}

-- ---- named parts

unnamed_again : (r : Bool) (label text : List ℕ) → Lacks 61 label
    → unnamed_by r label (named_by r label text) ≡ Some text
unnamed_again false label text l = refl
unnamed_again true label text l =
    ap (option_and_then (with_label label)) (cut_again 61 label text l)
    ∙ cond-true (bytes_eq label label) (Some text) None ((bytes_eq-Decides label label).1 refl)

unnamed_back : (r : Bool) (label text t : List ℕ) → unnamed_by r label text ≡ Some t → text ≡ named_by r label t
unnamed_back false label text t e = same_Some text t e
unnamed_back true label text t e =
    option_and_then_some (with_label label) (cut_at 61 text) t e (λ p i j.
    let w = cond_some (bytes_eq p.0 label) p.1 t j in
    cut_some 61 text p.0 p.1 i ∙ ap (λ z. z ++ (61 ∷ p.1)) ((bytes_eq-Decides p.0 label).0 w.0)
    ∙ ap (λ z. label ++ (61 ∷ z)) w.1)

named_passes : (r : Bool) (p : ℕ → Bool) (label text : List ℕ) → passes p label ≡ true → p 61 ≡ true
    → passes p text ≡ true → passes p (named_by r label text) ≡ true
named_passes false p label text a b c = c
named_passes true p label text a b c = passes_append p label (61 ∷ text) a (and_from (p 61) (passes p text) b c)

-- the laws of a named part, from those of the part
pub part_laws : {A : Type 0} {p : ℕ → Bool} {f : List ℕ → Option A} {spell : A → List ℕ} {Fit : A → Type 0}
    → Laws p f spell Fit → (q : ℕ → Bool) → ((b : ℕ) → p b ≡ true → q b ≡ true) → (h : Here) (label : List ℕ)
    → Lacks 61 label → passes q label ≡ true → q 61 ≡ true
    → Laws q (part h label f) (λ x. part_with_label h label (spell x)) Fit
part_laws {p = p} {f = f} {spell = spell} {Fit = Fit} w q m h label l a b = record {
  again = λ x e. ap (option_and_then f) (unnamed_again h.relative label (spell x) l) ∙ w.again x e;
  back = λ text x e. option_and_then_some f (without_label h label text) x e (λ t i j.
      let r = w.back t x j in
      (unnamed_back h.relative label text t i ∙ ap (part_with_label h label) r.0, r.1));
  bytes = λ x e. named_passes h.relative q label (spell x) a b (passes_more p q m (spell x) (w.bytes x e));
}
