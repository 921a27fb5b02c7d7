-- The words of a line of a table.
use Rattle.std.proofs.Common.{◌≡◌, ◌==◌, ◌&&◌, ℕ, suc, Bool, true, false, cond, List, [], ◌∷◌}
use Rattle.std.proofs.Common.{◌++◌}
use Rattle.std.proofs.Common.{codes, length, nat_lt, Option, None, Some, refl, sym, ◌∙◌, ap, arith, append_assoc}
use Rattle.std.specs.Prelude.{bytes_eq, decimal, option_and_then}
use Rattle.std.specs.List.{list_all}
use Rattle.std.proofs.lemmas.Bool.{ne_eqb}
use Rattle.std.proofs.lemmas.Slice.Eq.{bytes_eq-Decides}
use Rattle.larch_certificate_text.specs.ListText.{both, read_each}
use Rattle.larch_certificate_text.specs.Parts.{read_number}
use Rattle.larch_term.specs.Operator.{PlainOperator}
use Rattle.larch_models_meaning.specs.FiniteModel.{argument_lists}
use Rattle.larch_models_meaning.specs.declared.finite_model.OperatorTable.{OperatorTable}
use Rattle.larch_models_meaning.specs.ModelText.{table_of_words, with_values, words_of}
use Rattle.larch_models.specs.Reading.{IsCut, value_up_to}
use Rattle.larch_models.proofs.Counts.{some_lists}

pub one_word : (line : List ℕ) (last : List ℕ → ℕ) (k : ℕ) (f : PlainOperator) → words_of line ≡ line ∷ []
    → table_of_words last k f (words_of line) ≡ None
one_word line last k f e = ap (table_of_words last k f) e

no_values : (last : List ℕ → ℕ) (f : PlainOperator) → with_values last f [] ≡ None
no_values last f =
    let l = some_lists last f.domain in
    ap (λ b. cond (b && true) (Some (record { operator = f; values = [] })) None)
    (ne_eqb 0 (argument_lists last f.domain) (λ e. absurd (omega (arith, l, e))))

chosen_none : {X : Type 0} (b : Bool) (o : Option X) → o ≡ None → cond b o None ≡ None
chosen_none true o e = e
chosen_none false o e = refl

pub two_words : (line word rest : List ℕ) (last : List ℕ → ℕ) (k : ℕ) (f : PlainOperator) → IsCut 32 line word rest
    → words_of rest ≡ rest ∷ [] → table_of_words last k f (words_of line) ≡ None
two_words line word rest last k f c e =
    ap (table_of_words last k f) (c.parts ∙ ap (λ ws. word ∷ ws) e)
    ∙ chosen_none (bytes_eq word (codes "op") && bytes_eq rest (decimal k)) (with_values last f []) (no_values last f)

pub more_words : (line word rest place values : List ℕ) (k : ℕ) → IsCut 32 line word rest → IsCut 32 rest place values
    → bytes_eq word (codes "op") ≡ true → bytes_eq place (decimal k) ≡ true
    → words_of line ≡ codes "op" ∷ decimal k ∷ words_of values
more_words line word rest place values k c d h e =
    c.parts ∙ ap (λ ws. word ∷ ws) d.parts
    ∙ ap (λ w. w ∷ place ∷ words_of values) ((bytes_eq-Decides word (codes "op")).0 h)
    ∙ ap (λ w. codes "op" ∷ w ∷ words_of values) ((bytes_eq-Decides place (decimal k)).0 e)

pub another_word : (line word rest place values : List ℕ) (last : List ℕ → ℕ) (k : ℕ) (f : PlainOperator)
    → IsCut 32 line word rest → IsCut 32 rest place values
    → (bytes_eq word (codes "op") && bytes_eq place (decimal k)) ≡ false
    → table_of_words last k f (words_of line) ≡ None
another_word line word rest place values last k f c d h =
    ap (table_of_words last k f) (c.parts ∙ ap (λ ws. word ∷ ws) d.parts)
    ∙ ap (λ b. cond b (option_and_then (with_values last f) (read_each read_number (words_of values))) None) h

-- the table that the right words say
pub right_words : (last : List ℕ → ℕ) (k : ℕ) (f : PlainOperator) (line : List ℕ) (ws : List (List ℕ))
    → words_of line ≡ codes "op" ∷ decimal k ∷ ws
    → option_and_then (with_values last f) (read_each read_number ws) ≡ table_of_words last k f (words_of line)
right_words last k f line ws e =
    sym (ap (table_of_words last k f) e
    ∙ ap (λ b. cond b (option_and_then (with_values last f) (read_each read_number ws)) None)
    ((bytes_eq-Decides (decimal k) (decimal k)).1 refl))

-- ---- values

-- numbers, if none is above the last one
abbrev pub all_within : ℕ → List ℕ → Option (List ℕ)
all_within last vs = cond (list_all (λ v. nat_lt v (suc last)) vs) (Some vs) None

both_within : (last n : ℕ) (b : Bool) (o : Option (List ℕ)) → nat_lt n (suc last) ≡ b
    → both (cond b (Some n) None) (option_and_then (all_within last) o)
    ≡ option_and_then (all_within last) (both (Some n) o)
both_within last n true None e = refl
both_within last n false None e = refl
both_within last n b (Some ns) e = both_some (list_all (λ v. nat_lt v (suc last)) ns) b e
  where
    both_some : (t b : Bool) → nat_lt n (suc last) ≡ b
        → both (cond b (Some n) None) (cond t (Some ns) None) ≡ cond (nat_lt n (suc last) && t) (Some (n ∷ ns)) None
    both_some true true e = sym (ap (λ b. cond (b && true) (Some (n ∷ ns)) None) e)
    both_some false true e = sym (ap (λ b. cond (b && false) (Some (n ∷ ns)) None) e)
    both_some t false e = sym (ap (λ b. cond (b && t) (Some (n ∷ ns)) None) e)

first_within : (last : ℕ) (o : Option ℕ) (p : Option (List ℕ))
    → both (option_and_then (λ v. cond (nat_lt v (suc last)) (Some v) None) o) (option_and_then (all_within last) p)
    ≡ option_and_then (all_within last) (both o p)
first_within last None p = refl
first_within last (Some n) p = both_within last n (nat_lt n (suc last)) p refl

-- each value read as one up to the last is all of them read, if none is above it
pub each_within : (last : ℕ) (ws : List (List ℕ))
    → read_each (value_up_to last) ws ≡ option_and_then (all_within last) (read_each read_number ws)
each_within last [] = refl
each_within last (w ∷ ws) =
    ap (both (value_up_to last w)) (each_within last ws) ∙ first_within last (read_number w) (read_each read_number ws)

-- a table of values, if they are as many as the lists of arguments
abbrev pub in_number : (List ℕ → ℕ) → PlainOperator → List ℕ → Option OperatorTable
in_number last f vs =
    cond (length vs == argument_lists last f.domain) (Some (record { operator = f; values = vs })) None

and_true : (a : Bool) → a ≡ (a && true)
and_true true = refl
and_true false = refl

values_in_number : (last : List ℕ → ℕ) (f : PlainOperator) (o : Option (List ℕ))
    → option_and_then (in_number last f) (option_and_then (all_within (last f.range)) o)
    ≡ option_and_then (with_values last f) o
values_in_number last f None = refl
values_in_number last f (Some vs) =
    by_tests (length vs == argument_lists last f.domain) (list_all (λ v. nat_lt v (suc (last f.range))) vs) refl
  where
    by_tests : (a b : Bool) → (length vs == argument_lists last f.domain) ≡ a
        → option_and_then (in_number last f) (cond b (Some vs) None)
        ≡ cond (a && b) (Some (record { operator = f; values = vs })) None
    by_tests a true e = ap (λ c. cond c (Some (record { operator = f; values = vs })) None) (e ∙ and_true a)
    by_tests true false e = refl
    by_tests false false e = refl

pub table_values : (last : List ℕ → ℕ) (f : PlainOperator) (ws : List (List ℕ))
    → option_and_then (in_number last f) (read_each (value_up_to (last f.range)) ws)
    ≡ option_and_then (with_values last f) (read_each read_number ws)
table_values last f ws =
    ap (option_and_then (in_number last f)) (each_within (last f.range) ws)
    ∙ values_in_number last f (read_each read_number ws)

-- ---- word by word

-- the values so far and those to come
abbrev pub with_more : List ℕ → Option (List ℕ) → Option (List ℕ)
with_more xs None = None
with_more xs (Some ys) = Some (xs ++ ys)

with_more_both : (xs : List ℕ) (a : ℕ) (o : Option (List ℕ))
    → with_more (xs ++ a ∷ []) o ≡ with_more xs (both (Some a) o)
with_more_both xs a None = refl
with_more_both xs a (Some ys) = ap Some (append_assoc xs (a ∷ []) ys)

pub item_some : (f : List ℕ → Option ℕ) (xs : List ℕ) (text x y : List ℕ) (a : ℕ) → IsCut 32 text x y → Some a ≡ f x
    → with_more (xs ++ a ∷ []) (read_each f (words_of y)) ≡ with_more xs (read_each f (words_of text))
item_some f xs text x y a c e =
    with_more_both xs a (read_each f (words_of y)) ∙ ap (λ o. with_more xs (both o (read_each f (words_of y)))) e
    ∙ ap (λ z. with_more xs (read_each f z)) (sym c.parts)

pub item_none : (f : List ℕ → Option ℕ) (xs : List ℕ) (text x y : List ℕ) → IsCut 32 text x y → None ≡ f x
    → None ≡ with_more xs (read_each f (words_of text))
item_none f xs text x y c e =
    ap (λ o. with_more xs (both o (read_each f (words_of y)))) e
    ∙ ap (λ z. with_more xs (read_each f z)) (sym c.parts)

pub last_some : (f : List ℕ → Option ℕ) (xs : List ℕ) (text : List ℕ) (a : ℕ) → words_of text ≡ text ∷ []
    → Some a ≡ f text → Some (xs ++ a ∷ []) ≡ with_more xs (read_each f (words_of text))
last_some f xs text a c e =
    ap (λ o. with_more xs (both o (Some []))) e ∙ ap (λ z. with_more xs (read_each f z)) (sym c)

pub last_none : (f : List ℕ → Option ℕ) (xs : List ℕ) (text : List ℕ) → words_of text ≡ text ∷ [] → None ≡ f text
    → None ≡ with_more xs (read_each f (words_of text))
last_none f xs text c e =
    ap (λ o. with_more xs (both o (Some []))) e ∙ ap (λ z. with_more xs (read_each f z)) (sym c)

-- the table of an operator, or of one that is the same, by values that are read up to the last one of its range
pub table_said : (last : List ℕ → ℕ) (f g : PlainOperator) (n : ℕ) (ws : List (List ℕ)) (o : Option (List ℕ)) → g ≡ f
    → n ≡ last g.range → o ≡ read_each (value_up_to n) ws
    → option_and_then (in_number last g) o ≡ option_and_then (with_values last f) (read_each read_number ws)
table_said last f g n ws o e h k =
    ap (option_and_then (in_number last g)) (k ∙ ap (λ m. read_each (value_up_to m) ws) h) ∙ table_values last g ws
    ∙ ap (λ q. option_and_then (with_values last q) (read_each read_number ws)) e
