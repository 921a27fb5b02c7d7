-- Steps of a loop over a list: one is taken, or refused.
use Rattle.std.proofs.Common.{◌≡◌, ℕ, ◌+◌, ◌<◌, Option, Some, None, IfSome, Result, Ok, Err, List, [], ◌∷◌, ◌++◌, drop}
use Rattle.std.proofs.Common.{get_or, length, sym, ◌∙◌, ap}
use Rattle.std.proofs.lemmas.List.{drop_more}
use Rattle.larch_base_meaning.specs.Steps.{after, all_behind, all_taken, one_behind}

-- what is left begins with the element at hand
element_first : {A : Type 0} (xs : List A) (i : ℕ) (x : A) → i < length xs → x ≡ get_or xs i x
    → drop i xs ≡ x ∷ drop (i + 1) xs
element_first xs i x lt e = drop_more xs i x lt ∙ ap (λ y. y ∷ drop (i + 1) xs) (sym e)

-- what holds of the fault that is told holds in a weaker form
pub told_weaker : {E : Type 0} (o : Option E) (P Q : E → Type 0) → ((f : E) → P f → Q f) → IfSome o P → IfSome o Q
told_weaker None P Q w h = tt
told_weaker (Some f) P Q w h = w f h

-- what a step's refusal tells is what is wrong with it and what comes after it
pub after_refused : {A B E : Type 0} (o : Option E) (r : Result A E) (next : A → Result B E) → IfSome o (λ f. r ≡ Err f)
    → IfSome o (λ f. after r next ≡ Err f)
after_refused o r next h =
    told_weaker o (λ f. r ≡ Err f) (λ f. after r next ≡ Err f) (λ f e. ap (λ q. after q next) e) h

module _ {A B E : Type 0} (take : A → B → Result B E) (xs : List A) (i : ℕ) (x : A) (now : B) (whole : Result B E)
    (lt : i < length xs) (at : x ≡ get_or xs i x)
    (left : all_taken take (drop i xs) now ≡ whole) where
  first_taken : after (take x now) (all_taken take (drop (i + 1) xs)) ≡ whole
  first_taken = sym (ap (λ l. all_taken take l now) (element_first xs i x lt at)) ∙ left

  -- a step that is taken leaves the others
  pub step_taken : (next : B) → take x now ≡ Ok next → all_taken take (drop (i + 1) xs) next ≡ whole
  step_taken next e = sym (ap (λ r. after r (all_taken take (drop (i + 1) xs))) e) ∙ first_taken

  -- a step that is refused is what is wrong with the whole
  pub step_refused : (o : Option E) → IfSome o (λ f. take x now ≡ Err f) → IfSome o (λ f. whole ≡ Err f)
  step_refused o h =
      told_weaker o (λ f. take x now ≡ Err f) (λ f. whole ≡ Err f)
      (λ f e. sym first_taken ∙ ap (λ r. after r (all_taken take (drop (i + 1) xs))) e) h

module _ {A B E : Type 0} (answer : A → Result B E) (xs : List A) (i : ℕ) (x : A) (now : List B)
    (whole : Result (List B) E) (lt : i < length xs)
    (at : x ≡ get_or xs i x) (left : all_taken (λ y. one_behind (answer y)) (drop i xs) now ≡ whole) where
  -- one thing more is put behind those that were made
  pub one_put : (next : List B) (y : B) → answer x ≡ Ok y → next ≡ now ++ y ∷ []
      → all_taken (λ z. one_behind (answer z)) (drop (i + 1) xs) next ≡ whole
  one_put next y e n =
      step_taken (λ z. one_behind (answer z)) xs i x now whole lt at left next
      (ap (λ r. one_behind r now) e ∙ ap Ok (sym n))

  pub one_refused : (o : Option E) → IfSome o (λ f. answer x ≡ Err f) → IfSome o (λ f. whole ≡ Err f)
  one_refused o h =
      step_refused (λ z. one_behind (answer z)) xs i x now whole lt at left o
      (after_refused o (answer x) (λ y. Ok (now ++ y ∷ [])) h)

module _ {A B E : Type 0} (answer : A → Result (List B) E) (xs : List A) (i : ℕ) (x : A) (now : List B)
    (whole : Result (List B) E) (lt : i < length xs)
    (at : x ≡ get_or xs i x) (left : all_taken (λ y. all_behind (answer y)) (drop i xs) now ≡ whole) where
  -- more things are put behind those that were made
  pub more_put : (next ys : List B) → answer x ≡ Ok ys → next ≡ now ++ ys
      → all_taken (λ z. all_behind (answer z)) (drop (i + 1) xs) next ≡ whole
  more_put next ys e n =
      step_taken (λ z. all_behind (answer z)) xs i x now whole lt at left next
      (ap (λ r. all_behind r now) e ∙ ap Ok (sym n))

  pub more_refused : (o : Option E) → IfSome o (λ f. answer x ≡ Err f) → IfSome o (λ f. whole ≡ Err f)
  more_refused o h =
      step_refused (λ z. all_behind (answer z)) xs i x now whole lt at left o
      (after_refused o (answer x) (λ ys. Ok (now ++ ys)) h)
