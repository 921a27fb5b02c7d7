-- The lines of a model, taken one by one.
use Rattle.std.proofs.Common.{◌≡◌, ◌<◌, ◌≤◌, ◌+◌, ◌==◌, not, ℕ, zero, suc, Bool, true, false, cond, List, [], ◌∷◌, ◌++◌}
use Rattle.std.proofs.Common.{codes, drop}
use Rattle.std.proofs.Common.{get_or, length, None, Some, Ok, Err, refl, sym, ◌∙◌, ap, arith}
use Rattle.std.specs.Prelude.{bytes_eq}
use Rattle.std.specs.List.{onto_first}
use Rattle.std.proofs.lemmas.List.Splits.{length-slice_split}
use Rattle.std.proofs.Math.ListN.{drop_of_length-le}
use Rattle.larch_certificate_text.specs.ListText.{split_at}
use Rattle.larch_term.specs.Operator.{PlainOperator}
use Rattle.larch_models_meaning.specs.declared.finite_model.OperatorTable.{OperatorTable}
use Rattle.larch_models_meaning.specs.declared.finite_model.SortValues.{SortValues}
use Rattle.larch_models_meaning.specs.FiniteModel.{last_among}
use Rattle.larch_models_meaning.specs.ModelText.{ModelReading, read_model, read_model_pieces, read_sorts, read_tables}
use Rattle.larch_models_meaning.specs.ModelText.{sort_of_words, table_of_words, words_of}
use Rattle.larch_models_meaning.specs.Standard.{standard_last}
use Rattle.larch_models.specs.Reading.{BeginsWith, HasNoSort, IfForm, IsCut, sort_among}
use Rattle.larch_models.specs.declared.model_text.ModelRefusal.{ModelRefusal}
use Rattle.larch_models.specs.declared.model_text.ModelRefusal.TheVariants.{Form, Memory}
use Rattle.larch_models.proofs.Rests.{drop_next}
use Rattle.larch_models.proofs.SortWords.{sort_is}

some_pieces : (text : List ℕ) → 0 < length (split_at 10 text)
some_pieces text = omega (arith, length-slice_split (λ b. b == 10) text)

-- ---- the first line

header_by : (fs : List PlainOperator) (x : List ℕ) (ys : List (List ℕ)) → 0 < length ys
    → bytes_eq x (codes "model") ≡ true → read_model_pieces fs (x ∷ ys) ≡ read_sorts fs [] 2 ys
header_by fs x [] l h = absurd (omega (arith, l))
header_by fs x (y ∷ ys) l h = ap (λ b. cond b (read_sorts fs [] 2 (y ∷ ys)) (Err 1)) h

header_other : (fs : List PlainOperator) (x : List ℕ) (ys : List (List ℕ)) → bytes_eq x (codes "model") ≡ false
    → read_model_pieces fs (x ∷ ys) ≡ Err 1
header_other fs x [] h = refl
header_other fs x (y ∷ ys) h = ap (λ b. cond b (read_sorts fs [] 2 (y ∷ ys)) (Err 1)) h

pub header_cut : (fs : List PlainOperator) (text x y : List ℕ) → IsCut 10 text x y → bytes_eq x (codes "model") ≡ true
    → read_model fs text ≡ read_sorts fs [] 2 (split_at 10 y)
unfolding read_model
header_cut fs text x y c h =
    ap (read_model_pieces fs) c.parts ∙ header_by fs x (split_at 10 y) (some_pieces y) h

pub header_bad : (fs : List PlainOperator) (text x y : List ℕ) → IsCut 10 text x y → bytes_eq x (codes "model") ≡ false
    → read_model fs text ≡ Err 1
unfolding read_model
header_bad fs text x y c h = ap (read_model_pieces fs) c.parts ∙ header_other fs x (split_at 10 y) h

pub header_missing : (fs : List PlainOperator) (text : List ℕ) → split_at 10 text ≡ text ∷ []
    → read_model fs text ≡ Err 1
unfolding read_model
header_missing fs text e = ap (read_model_pieces fs) e

-- what is wrong with the lines is wrong with the text
pub form_same : (refusal : ModelRefusal) (o p : ModelReading) → p ≡ o → IfForm refusal (λ n. o ≡ Err n)
    → IfForm refusal (λ n. p ≡ Err n)
form_same (Form n) o p e h = e ∙ h
form_same Memory o p e h = tt

-- ---- lines of sorts

sorts_by : (fs : List PlainOperator) (vs : List SortValues) (n : ℕ) (x : List ℕ) (ys : List (List ℕ)) (v : SortValues)
    → 0 < length ys → sort_of_words fs vs (words_of x) ≡ Some v
    → read_sorts fs vs n (x ∷ ys) ≡ read_sorts fs (vs ++ v ∷ []) (suc n) ys
sorts_by fs vs n x [] v l h = absurd (omega (arith, l))
sorts_by fs vs n x (y ∷ ys) v l h =
    ap (λ o. elim o [
      | None ↦ read_tables vs [] 1 fs n (x ∷ y ∷ ys)
      | Some u ↦ read_sorts fs (vs ++ u ∷ []) (suc n) (y ∷ ys)
    ]) h

tables_by : (fs : List PlainOperator) (vs : List SortValues) (n : ℕ) (x : List ℕ) (ys : List (List ℕ))
    → sort_of_words fs vs (words_of x) ≡ None → read_sorts fs vs n (x ∷ ys) ≡ read_tables vs [] 1 fs n (x ∷ ys)
tables_by fs vs n x [] h = refl
tables_by fs vs n x (y ∷ ys) h =
    ap (λ o. elim o [
      | None ↦ read_tables vs [] 1 fs n (x ∷ y ∷ ys)
      | Some u ↦ read_sorts fs (vs ++ u ∷ []) (suc n) (y ∷ ys)
    ]) h

pub begins : (known : List (List ℕ)) (vs : List SortValues) (text x y : List ℕ) (v : SortValues) → IsCut 10 text x y
    → Some v ≡ sort_among known vs (words_of x) → BeginsWith known vs text v y
begins known vs text x y v c e = record {
  same = λ fs n k.
      sym (ap (read_sorts fs vs n) c.parts
      ∙ sorts_by fs vs n x (split_at 10 y) v (some_pieces y)
      (sort_is fs vs (words_of x) ∙ ap (λ us. sort_among us vs (words_of x)) (sym k) ∙ sym e));
  shorter = c.shorter;
}

pub no_sort : (known : List (List ℕ)) (vs : List SortValues) (text x y : List ℕ) → IsCut 10 text x y
    → None ≡ sort_among known vs (words_of x) → HasNoSort known vs text
no_sort known vs text x y c e fs n k =
    ap (read_sorts fs vs n) c.parts
    ∙ tables_by fs vs n x (split_at 10 y)
    (sort_is fs vs (words_of x) ∙ ap (λ us. sort_among us vs (words_of x)) (sym k) ∙ sym e)
    ∙ ap (read_tables vs [] 1 fs n) (sym c.parts)

pub no_line : (known : List (List ℕ)) (vs : List SortValues) (text : List ℕ) → split_at 10 text ≡ text ∷ []
    → HasNoSort known vs text
no_line known vs text e fs n k = ap (read_sorts fs vs n) e ∙ ap (read_tables vs [] 1 fs n) (sym e)

-- ---- lines of tables

-- the table of the first line is read
table_by : (vs : List SortValues) (ts : List OperatorTable) (k n : ℕ) (f : PlainOperator) (fs : List PlainOperator)
    (x : List ℕ) (ys : List (List ℕ)) (t : OperatorTable) → 0 < length ys
    → table_of_words (standard_last (last_among vs)) k f (words_of x) ≡ Some t
    → read_tables vs ts k (f ∷ fs) n (x ∷ ys) ≡ read_tables vs (ts ++ t ∷ []) (suc k) fs (suc n) ys
table_by vs ts k n f fs x [] t l h = absurd (omega (arith, l))
table_by vs ts k n f fs x (y ∷ ys) t l h =
    ap (λ o. elim o [
      | None ↦ Err n
      | Some u ↦ read_tables vs (ts ++ u ∷ []) (suc k) fs (suc n) (y ∷ ys)
    ]) h

no_table : (vs : List SortValues) (ts : List OperatorTable) (k n : ℕ) (f : PlainOperator) (fs : List PlainOperator)
    (x : List ℕ) (ys : List (List ℕ)) → table_of_words (standard_last (last_among vs)) k f (words_of x) ≡ None
    → read_tables vs ts k (f ∷ fs) n (x ∷ ys) ≡ Err n
no_table vs ts k n f fs x [] h = refl
no_table vs ts k n f fs x (y ∷ ys) h =
    ap (λ o. elim o [
      | None ↦ Err n
      | Some u ↦ read_tables vs (ts ++ u ∷ []) (suc k) fs (suc n) (y ∷ ys)
    ]) h

one_more : (k : ℕ) → k + 1 ≡ suc k
one_more k = omega arith

pub table_further : (vs : List SortValues) (ts : List OperatorTable) (fs : List PlainOperator) (i n : ℕ)
    (f : PlainOperator) (text x y : List ℕ) (t : OperatorTable) → i < length fs → f ≡ get_or fs i f → IsCut 10 text x y
    → Some t ≡ table_of_words (standard_last (last_among vs)) (i + 1) f (words_of x)
    → read_tables vs (ts ++ t ∷ []) (i + 1 + 1) (drop (i + 1) fs) (n + 1) (split_at 10 y)
    ≡ read_tables vs ts (i + 1) (drop i fs) n (split_at 10 text)
table_further vs ts fs i n f text x y t l e c h =
    ap (λ k. read_tables vs (ts ++ t ∷ []) k (drop (i + 1) fs) (n + 1) (split_at 10 y)) (one_more (i + 1))
    ∙ ap (λ k. read_tables vs (ts ++ t ∷ []) (suc (i + 1)) (drop (i + 1) fs) k (split_at 10 y)) (one_more n)
    ∙ sym (ap (λ gs. read_tables vs ts (i + 1) gs n (split_at 10 text)) (drop_next fs i f l e)
    ∙ ap (read_tables vs ts (i + 1) (f ∷ drop (i + 1) fs) n) c.parts
    ∙ table_by vs ts (i + 1) n f (drop (i + 1) fs) x (split_at 10 y) t (some_pieces y) (sym h))

pub table_bad : (vs : List SortValues) (ts : List OperatorTable) (fs : List PlainOperator) (i n : ℕ)
    (f : PlainOperator) (text x y : List ℕ) → i < length fs → f ≡ get_or fs i f → IsCut 10 text x y
    → None ≡ table_of_words (standard_last (last_among vs)) (i + 1) f (words_of x)
    → read_tables vs ts (i + 1) (drop i fs) n (split_at 10 text) ≡ Err n
table_bad vs ts fs i n f text x y l e c h =
    ap (λ gs. read_tables vs ts (i + 1) gs n (split_at 10 text)) (drop_next fs i f l e)
    ∙ ap (read_tables vs ts (i + 1) (f ∷ drop (i + 1) fs) n) c.parts
    ∙ no_table vs ts (i + 1) n f (drop (i + 1) fs) x (split_at 10 y) (sym h)

pub table_missing : (vs : List SortValues) (ts : List OperatorTable) (fs : List PlainOperator) (i n : ℕ)
    (f : PlainOperator) (text : List ℕ) → i < length fs → f ≡ get_or fs i f → split_at 10 text ≡ text ∷ []
    → read_tables vs ts (i + 1) (drop i fs) n (split_at 10 text) ≡ Err n
table_missing vs ts fs i n f text l e c =
    ap (λ gs. read_tables vs ts (i + 1) gs n (split_at 10 text)) (drop_next fs i f l e)
    ∙ ap (read_tables vs ts (i + 1) (f ∷ drop (i + 1) fs) n) c

nothing_read : (vs : List SortValues) (ts : List OperatorTable) (k n : ℕ) (text : List ℕ) → length text ≡ 0
    → read_tables vs ts k [] n (split_at 10 text) ≡ Ok (record { sorts = vs; tables = ts })
nothing_read vs ts k n [] e = refl
nothing_read vs ts k n (b ∷ bs) e = absurd (omega (arith, e))

further_by : (vs : List SortValues) (ts : List OperatorTable) (k n : ℕ) (xs : List (List ℕ))
    → (xs ≡ [] ∷ [] → ⊥) → read_tables vs ts k [] n xs ≡ Err n
further_by vs ts k n [] h = refl
further_by vs ts k n ([] ∷ []) h = absurd (h refl)
further_by vs ts k n ((b ∷ bs) ∷ []) h = refl
further_by vs ts k n (x ∷ y ∷ ys) h = refl

abbrev first_length : List (List ℕ) → ℕ
first_length [] = 0
first_length (p ∷ ps) = length p

not_nothing : (text : List ℕ) → 0 < length text → split_at 10 text ≡ [] ∷ [] → ⊥
not_nothing [] l e = absurd (omega (arith, l))
not_nothing (b ∷ bs) l e = by_first (b == 10) (split_at 10 bs) (some_pieces bs) e
  where
    by_first : (t : Bool) (ps : List (List ℕ)) → 0 < length ps → cond t ([] ∷ ps) (onto_first b ps) ≡ [] ∷ [] → ⊥
    by_first true [] l e = absurd (omega (arith, l))
    by_first true (p ∷ ps) l e = let n = ap length e in absurd (omega (arith, n))
    by_first false [] l e = absurd (omega (arith, l))
    by_first false (p ∷ ps) l e = let n : suc (length p) ≡ 0 = ap first_length e in absurd (omega (arith, n))

pub all_read : (vs : List SortValues) (ts : List OperatorTable) (fs : List PlainOperator) (i n : ℕ) (text : List ℕ)
    → length fs ≤ i → length text ≡ 0
    → read_tables vs ts (i + 1) (drop i fs) n (split_at 10 text) ≡ Ok (record { sorts = vs; tables = ts })
all_read vs ts fs i n text l e =
    ap (λ gs. read_tables vs ts (i + 1) gs n (split_at 10 text)) (drop_of_length-le fs l)
    ∙ nothing_read vs ts (i + 1) n text e

pub more_follows : (vs : List SortValues) (ts : List OperatorTable) (fs : List PlainOperator) (i n : ℕ)
    (text : List ℕ) → length fs ≤ i → 0 < length text
    → read_tables vs ts (i + 1) (drop i fs) n (split_at 10 text) ≡ Err n
more_follows vs ts fs i n text l e =
    ap (λ gs. read_tables vs ts (i + 1) gs n (split_at 10 text)) (drop_of_length-le fs l)
    ∙ further_by vs ts (i + 1) n (split_at 10 text) (not_nothing text e)

pub not_empty : (n : ℕ) → false ≡ (n == 0) → 0 < n
not_empty zero e = cc
not_empty (suc n) e = omega arith

pub not_so : (b : Bool) → false ≡ not b → b ≡ true
not_so true e = refl
not_so false e = cc
