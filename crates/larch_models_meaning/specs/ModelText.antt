-- Texts of finite models: which model of a theory a text is, or its first line that is outside the grammar.
use Rattle.std.specs.Prelude.{◌≡◌, ◌-◌, ◌&&◌, ◌==◌, not, nat_lt, ℕ, suc, Bool, true, false, if◌then◌else◌, List, []}
use Rattle.std.specs.Prelude.{◌∷◌}
use Rattle.std.specs.Prelude.{◌++◌, codes, length, bytes_eq, decimal, Option, None, Some, option_and_then, Result, Ok}
use Rattle.std.specs.Prelude.{Err}
use Rattle.std.specs.List.{list_all, list_any}
use Rattle.larch_term.specs.BuiltIn.{bool_sort}
use Rattle.larch_term.specs.Operator.{PlainOperator}
use Rattle.larch_certificate_text.specs.EquationText.{is_nothing}
use Rattle.larch_certificate_text.specs.ListText.{read_each, split_at}
use Rattle.larch_certificate_text.specs.Parts.{read_number}
use Rattle.larch_sorts_known.specs.Sorts.{exists_sort}
use Rattle.larch_models_meaning.specs.declared.finite_model.FiniteModel.{FiniteModel}
use Rattle.larch_models_meaning.specs.declared.finite_model.OperatorTable.{OperatorTable}
use Rattle.larch_models_meaning.specs.declared.finite_model.SortValues.{SortValues}
use Rattle.larch_models_meaning.specs.FiniteModel.{argument_lists, last_among}
use Rattle.larch_models_meaning.specs.Standard.{standard_last}

-- a model, or the number of the first line that is outside the grammar
abbrev pub ModelReading : Type 0
ModelReading = Result FiniteModel ℕ

-- ---- sorts

-- a sort has at most so many values
abbrev pub most_values : ℕ
most_values = 16

-- a sort may get a line: it exists beside the operators, it isn't Bool, and it hasn't had one
abbrev pub may_have_values : List PlainOperator → List SortValues → List ℕ → Bool
may_have_values fs vs s =
    exists_sort fs s && (not (bytes_eq s bool_sort) && not (list_any (λ (v : SortValues). bytes_eq v.sort s) vs))

-- a sort with a number of values
abbrev pub with_count : List ℕ → ℕ → Option SortValues
with_count s n =
    if nat_lt 0 n && nat_lt n (suc most_values) then Some (record { sort = s; last = n - 1 }) else None

-- `sort S n`, by its words
abbrev pub sort_of_words : List PlainOperator → List SortValues → List (List ℕ) → Option SortValues
sort_of_words fs vs (word ∷ s ∷ n ∷ []) =
    if bytes_eq word (codes "sort") && may_have_values fs vs s then option_and_then (with_count s) (read_number n)
    else None
sort_of_words fs vs ws = None

-- ---- tables

-- the values are as many as there are lists of arguments, and each is one of the range
abbrev pub is_table : (List ℕ → ℕ) → PlainOperator → List ℕ → Bool
is_table last f values =
    (length values == argument_lists last f.domain) && list_all (λ v. nat_lt v (suc (last f.range))) values

-- the table of an operator with these values
abbrev pub with_values : (List ℕ → ℕ) → PlainOperator → List ℕ → Option OperatorTable
with_values last f values =
    if is_table last f values then Some (record { operator = f; values = values }) else None

-- `op K v ..` of the operator with number K, by its words
abbrev pub table_of_words : (List ℕ → ℕ) → ℕ → PlainOperator → List (List ℕ) → Option OperatorTable
table_of_words last k f (word ∷ number ∷ values) =
    if bytes_eq word (codes "op") && bytes_eq number (decimal k)
    then option_and_then (with_values last f) (read_each read_number values) else None
table_of_words last k f ws = None

-- ---- lines

-- the words of a line: one blank stands between them
abbrev pub words_of : List ℕ → List (List ℕ)
words_of line = split_at 32 line

-- the lines from number n on are the tables of the operators from number k on, behind tables that are there
abbrev pub read_tables : List SortValues → List OperatorTable → ℕ → List PlainOperator → ℕ → List (List ℕ)
    → ModelReading
read_tables vs ts k fs n [] = Err n
read_tables vs ts k [] n (x ∷ []) = if is_nothing x then Ok (record { sorts = vs; tables = ts }) else Err n
read_tables vs ts k [] n (x ∷ y ∷ ys) = Err n
read_tables vs ts k (f ∷ fs) n (x ∷ []) = Err n
read_tables vs ts k (f ∷ fs) n (x ∷ y ∷ ys) =
    elim (table_of_words (standard_last (last_among vs)) k f (words_of x)) [
      | None ↦ Err n
      | Some t ↦ read_tables vs (ts ++ t ∷ []) (suc k) fs (suc n) (y ∷ ys)
    ]

-- the lines from number n on are lines of sorts, in any order, and behind them the tables
abbrev pub read_sorts : List PlainOperator → List SortValues → ℕ → List (List ℕ) → ModelReading
read_sorts fs vs n [] = Err n
read_sorts fs vs n (x ∷ []) = read_tables vs [] 1 fs n (x ∷ [])
read_sorts fs vs n (x ∷ y ∷ ys) =
    elim (sort_of_words fs vs (words_of x)) [
      | None ↦ read_tables vs [] 1 fs n (x ∷ y ∷ ys)
      | Some v ↦ read_sorts fs (vs ++ v ∷ []) (suc n) (y ∷ ys)
    ]

-- what the pieces between the bytes 10 say, the first being `model`
abbrev pub read_model_pieces : List PlainOperator → List (List ℕ) → ModelReading
read_model_pieces fs [] = Err 1
read_model_pieces fs (x ∷ []) = Err 1
read_model_pieces fs (x ∷ y ∷ ys) = if bytes_eq x (codes "model") then read_sorts fs [] 2 (y ∷ ys) else Err 1

-- the model of a theory with these operators that a text is, or the number of the first line outside the grammar; a
-- line that is missing is the one after the last
unfoldable pub read_model : List PlainOperator → List ℕ → ModelReading
read_model fs text = read_model_pieces fs (split_at 10 text)
