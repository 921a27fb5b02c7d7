-- The words of a line of a sort.
use Rattle.std.proofs.Common.{◌≡◌, ◌<◌, ◌==◌, ℕ, false, cond, List, [], ◌∷◌, codes, length, None}
use Rattle.std.proofs.Common.{refl, ◌∙◌, ap, arith}
use Rattle.std.specs.Prelude.{bytes_eq, option_and_then}
use Rattle.std.proofs.lemmas.List.Splits.{length-slice_split}
use Rattle.larch_base.proofs.Bools.{and_not_left}
use Rattle.larch_certificate_text.specs.Parts.{read_number}
use Rattle.larch_sorts_known.specs.Sorts.{existing_sorts}
use Rattle.larch_term.specs.Operator.{PlainOperator}
use Rattle.larch_models_meaning.specs.declared.finite_model.SortValues.{SortValues}
use Rattle.larch_models_meaning.specs.ModelText.{sort_of_words, with_count, words_of}
use Rattle.larch_models.specs.Reading.{IsCut, may_follow, sort_among}

pub one_word : (line : List ℕ) (known : List (List ℕ)) (vs : List SortValues) → words_of line ≡ line ∷ []
    → sort_among known vs (words_of line) ≡ None
one_word line known vs e = ap (sort_among known vs) e

some_words : (text : List ℕ) → 0 < length (words_of text)
some_words text = omega (arith, length-slice_split (λ b. b == 32) text)

pub right_word : (line word rest name count : List ℕ) → IsCut 32 line word rest → words_of rest ≡ name ∷ count ∷ []
    → word ≡ codes "sort" → words_of line ≡ codes "sort" ∷ name ∷ count ∷ []
right_word line word rest name count c e h =
    c.parts ∙ ap (λ ws. word ∷ ws) e ∙ ap (λ w. w ∷ name ∷ count ∷ []) h

pub wrong_words : (line word rest : List ℕ) (known : List (List ℕ)) (vs : List SortValues) → IsCut 32 line word rest
    → sort_among known vs (word ∷ words_of rest) ≡ None → sort_among known vs (words_of line) ≡ None
wrong_words line word rest known vs c h = ap (sort_among known vs) c.parts ∙ h

other_first : (known : List (List ℕ)) (vs : List SortValues) (word : List ℕ) (ws : List (List ℕ))
    → bytes_eq word (codes "sort") ≡ false → sort_among known vs (word ∷ ws) ≡ None
other_first known vs word [] h = refl
other_first known vs word (name ∷ []) h = refl
other_first known vs word (name ∷ n ∷ []) h =
    ap (λ b. cond b (option_and_then (with_count name) (read_number n)) None)
    (and_not_left (bytes_eq word (codes "sort")) (may_follow known vs name) h)
other_first known vs word (name ∷ n ∷ w ∷ ws) h = refl

pub another_word : (line word rest : List ℕ) (known : List (List ℕ)) (vs : List SortValues) → IsCut 32 line word rest
    → bytes_eq word (codes "sort") ≡ false → sort_among known vs (words_of line) ≡ None
another_word line word rest known vs c h =
    ap (sort_among known vs) c.parts ∙ other_first known vs word (words_of rest) h

pub single_word : (text : List ℕ) (known : List (List ℕ)) (vs : List SortValues) (word : List ℕ)
    → words_of text ≡ text ∷ [] → sort_among known vs (word ∷ words_of text) ≡ None
single_word text known vs word e = ap (λ ws. sort_among known vs (word ∷ ws)) e

more_than_three : (known : List (List ℕ)) (vs : List SortValues) (word name count : List ℕ) (ws : List (List ℕ))
    → 0 < length ws → sort_among known vs (word ∷ name ∷ count ∷ ws) ≡ None
more_than_three known vs word name count [] l = absurd (omega (arith, l))
more_than_three known vs word name count (w ∷ ws) l = refl

pub third_word : (text name count front behind : List ℕ) (known : List (List ℕ)) (vs : List SortValues)
    (word : List ℕ)
    → IsCut 32 text name count → IsCut 32 count front behind → sort_among known vs (word ∷ words_of text) ≡ None
third_word text name count front behind known vs word c d =
    ap (λ ws. sort_among known vs (word ∷ ws)) (c.parts ∙ ap (λ ws. name ∷ ws) d.parts)
    ∙ more_than_three known vs word name front (words_of behind) (some_words behind)

pub both_words : (text name count : List ℕ) → IsCut 32 text name count → words_of count ≡ count ∷ []
    → words_of text ≡ name ∷ count ∷ []
both_words text name count c e = c.parts ∙ ap (λ ws. name ∷ ws) e

-- what the definition says, its known sorts being those beside the operators
pub sort_is : (fs : List PlainOperator) (vs : List SortValues) (ws : List (List ℕ))
    → sort_of_words fs vs ws ≡ sort_among (existing_sorts fs) vs ws
sort_is fs vs [] = refl
sort_is fs vs (a ∷ []) = refl
sort_is fs vs (a ∷ b ∷ []) = refl
sort_is fs vs (a ∷ b ∷ c ∷ []) = refl
sort_is fs vs (a ∷ b ∷ c ∷ d ∷ ws) = refl
