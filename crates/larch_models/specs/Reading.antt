-- How a text of a model is read, a line and a word at a time.
use Rattle.std.specs.Prelude.{◌≡◌, ◌<◌, ◌-◌, ◌&&◌, not, nat_lt, ℕ, suc, Bool, if◌then◌else◌, List, [], ◌∷◌, ◌++◌}
use Rattle.std.specs.Prelude.{bytes_eq}
use Rattle.std.specs.Prelude.{codes, length, Option, None, Some, option_and_then}
use Rattle.std.specs.List.{list_any}
use Rattle.larch_certificate_text.specs.ListText.{split_at}
use Rattle.larch_certificate_text.specs.Parts.{read_number}
use Rattle.larch_sorts_known.specs.Sorts.{existing_sorts}
use Rattle.larch_term.specs.BuiltIn.{bool_sort}
use Rattle.larch_term.specs.Operator.{PlainOperator}
use Rattle.larch_models_meaning.specs.declared.finite_model.SortValues.{SortValues}
use Rattle.larch_models_meaning.specs.ModelText.{most_values, read_sorts, read_tables, with_count}
use Rattle.larch_models.specs.declared.model_text.ModelRefusal.{ModelRefusal}
use Rattle.larch_models.specs.declared.model_text.ModelRefusal.TheVariants.{Form, Memory}

-- a text before and behind the first of a byte
pub record IsCut (c : ℕ) (text front rest : List ℕ) : Type 0 where
  pub parts : split_at c text ≡ front ∷ split_at c rest
  pub shorter : length rest < length text

-- a fact about the line that a refusal names; out of memory names none
abbrev pub IfForm : ModelRefusal → (ℕ → Type 0) → Type 0
IfForm (Form n) P = P n
IfForm Memory P = Unit {0}

-- a sort may get a line, as among known sorts
abbrev pub may_follow : List (List ℕ) → List SortValues → List ℕ → Bool
may_follow known vs s =
    list_any (bytes_eq s) known
    && (not (bytes_eq s bool_sort) && not (list_any (λ (v : SortValues). bytes_eq v.sort s) vs))

-- `sort S n`, by its words, S being among known sorts
abbrev pub sort_among : List (List ℕ) → List SortValues → List (List ℕ) → Option SortValues
sort_among known vs (word ∷ s ∷ n ∷ []) =
    if bytes_eq word (codes "sort") && may_follow known vs s then option_and_then (with_count s) (read_number n)
    else None
sort_among known vs ws = None

-- the lines of a text begin with that of a sort, if these are the known sorts
pub record BeginsWith (known : List (List ℕ)) (vs : List SortValues) (text : List ℕ) (v : SortValues) (rest : List ℕ)
    : Type 0 where
  pub same : (fs : List PlainOperator) (n : ℕ) → known ≡ existing_sorts fs
      → read_sorts fs (vs ++ v ∷ []) (suc n) (split_at 10 rest) ≡ read_sorts fs vs n (split_at 10 text)
  pub shorter : length rest < length text

-- they don't
abbrev pub HasNoSort : List (List ℕ) → List SortValues → List ℕ → Type 0
HasNoSort known vs text =
    (fs : List PlainOperator) (n : ℕ) → known ≡ existing_sorts fs
    → read_sorts fs vs n (split_at 10 text) ≡ read_tables vs [] 1 fs n (split_at 10 text)

-- the number that a text is, if it is at most so large
abbrev pub value_up_to : ℕ → List ℕ → Option ℕ
value_up_to last text = option_and_then (λ v. if nat_lt v (suc last) then Some v else None) (read_number text)

-- the last of so many values
abbrev pub last_of : ℕ → Option ℕ
last_of n = if nat_lt 0 n && nat_lt n (suc most_values) then Some (n - 1) else None
