-- What the actuals of a reference put in place of the names of the trait that it names.
use Rattle.std.specs.Prelude.{ℕ, if◌then◌else◌, ◌==◌, ◌&&◌, ◌||◌, Bool, true, false, not, is_none, is_some, bytes_eq}
use Rattle.std.specs.Prelude.{List, [], ◌∷◌, ◌++◌, map, filter, length, Option, None, option_map, unwrap_or}
use Rattle.std.specs.Prelude.{Result, Ok}
use Rattle.std.specs.List.{list_any}
use Rattle.std.specs.Map.{lookup}
use Rattle.larch_base.specs.declared.code.Code.TheVariants.{Rename}
use Rattle.larch_base.specs.declared.fault.Fault.{Fault}
use Rattle.larch_base.specs.declared.position.Pos.{Pos}
use Rattle.larch_raw.specs.declared.declared.RawForm.{RawForm}
use Rattle.larch_raw.specs.declared.declared.RawSig.{RawSig}
use Rattle.larch_raw.specs.declared.reference.RawActual.{RawActual}
use Rattle.larch_raw.specs.declared.reference.RawActual.TheVariants.{Plain, Replace}
use Rattle.larch_raw.specs.declared.reference.RawRef.{RawRef}
use Rattle.larch_term.specs.BuiltIn.{bool_sort, built_in, is_built_in}
use Rattle.larch_term.specs.Equality.{same_operator}
use Rattle.larch_term.specs.Operator.{OperatorName, PlainOperator, plain}
use Rattle.larch_term.specs.declared.built_in.BuiltIn.TheVariants.{True, False}
use Rattle.larch_shorthand.specs.SortsKnownSorts.{exists_sort}
use Rattle.larch_renaming.specs.Renaming.{Renaming}
use Rattle.larch_shorthand.specs.TraitsItemsDeclarations.{operator_of}
use Rattle.larch_shorthand.specs.TraitsItemsReferences.{is_meant}
use Rattle.larch_shorthand.specs.BaseMeaningSteps.{after, all_taken}
use Rattle.larch_flat_meaning.specs.Stops.{refused_if}

-- old sorts with new ones, and old operators with new names; all at once
pub record Replacements : Type 0 where
  pub sorts : List (List ℕ × List ℕ)
  pub operators : List (PlainOperator × List ℕ)

-- nothing is replaced
abbrev pub none_replaced : Replacements
none_replaced = record { sorts = []; operators = [] }

-- the sort in place of a sort
abbrev pub new_sort : Replacements → List ℕ → List ℕ
new_sort by s = unwrap_or (lookup (bytes_eq s) by.sorts) s

-- the name in place of an operator's own
abbrev pub new_name : Replacements → PlainOperator → OperatorName
new_name by f = unwrap_or (option_map plain (lookup (same_operator f) by.operators)) f.name

-- the operator in place of an operator: with its new name, at the new sorts
abbrev pub new_operator : Replacements → PlainOperator → PlainOperator
new_operator by f =
    record { name = new_name by f; domain = map (new_sort by) f.domain; range = new_sort by f.range }

-- the renaming that does all replacements at once
abbrev pub renaming : Replacements → Renaming
renaming by = record { sort = new_sort by; operator = new_operator by }

-- what an old form names: a sort, or operators
pub data Named : Type 0 where
  OldSort : List ℕ → Named
  OldOperators : List PlainOperator → Named

-- an old form names the sort of its name: it is a bare word without a signature, and there is such a sort
abbrev pub names_sort : List PlainOperator → RawForm → Option RawSig → Bool
names_sort fs old sig = old.word && (is_none sig && exists_sort fs old.name)

-- the operators of a trait, and the truth values
abbrev pub with_truth_values : List PlainOperator → List PlainOperator
with_truth_values fs = fs ++ built_in True bool_sort ∷ built_in False bool_sort ∷ []

-- the one operator that an old form with a signature means
abbrev pub exactly : RawForm → Option RawSig → Option PlainOperator
exactly old sig = option_map (λ s. operator_of s old) sig

-- what an old form names in a trait with these operators: its sort, or else all operators of its name or the one of
-- its signature
abbrev pub meant_by : List PlainOperator → RawForm → Option RawSig → Named
meant_by fs old sig =
    if names_sort fs old sig then OldSort old.name
    else OldOperators (filter (is_meant (exactly old sig) old.name) (with_truth_values fs))

-- the form's markers fit the operator's domain: a bare word fits any
abbrev pub fits_operator : RawForm → PlainOperator → Bool
fits_operator new f = new.word || (new.markers == length f.domain)

-- an operator can't get this name: it is built in, or an earlier replacement names it, or the name doesn't fit it
abbrev pub cannot_rename : Replacements → RawForm → PlainOperator → Bool
cannot_rename by new f =
    is_built_in f || (is_some (lookup (same_operator f) by.operators) || not (fits_operator new f))

-- a sort can't get this name: it is Bool, or an earlier replacement names it, or the name is no bare word
abbrev pub cannot_rename_sort : Replacements → RawForm → List ℕ → Bool
cannot_rename_sort by new s =
    bytes_eq s bool_sort || (is_some (lookup (bytes_eq s) by.sorts) || not new.word)

-- there are none, or one is so
abbrev pub none_or_any : {A : Type 0} → (A → Bool) → List A → Bool
none_or_any is_so [] = true
none_or_any is_so (x ∷ xs) = list_any is_so (x ∷ xs)

-- replacements with one more: the new form in place of what is named, unless that can't be
abbrev pub replace_form : Pos → RawForm → Named → Replacements → Result Replacements Fault
replace_form pos new (OldSort s) by =
    refused_if Rename pos (cannot_rename_sort by new s)
    (Ok (record { sorts = by.sorts ++ (s, new.name) ∷ []; operators = by.operators }))
replace_form pos new (OldOperators fs) by =
    refused_if Rename pos (none_or_any (cannot_rename by new) fs)
    (Ok (record { sorts = by.sorts; operators = by.operators ++ map (λ f. (f, new.name)) fs }))

-- an old form with its signature, the new form in its place, and where RENAME would stand
pub record Replacement : Type 0 where
  pub old : RawForm
  pub sig : Option RawSig
  pub new : RawForm
  pub pos : Pos

-- the forms among actuals that stand for formals
abbrev pub plain_forms : List RawActual → List RawForm
plain_forms [] = []
plain_forms (Plain form ∷ actuals) = form ∷ plain_forms actuals
plain_forms (Replace new old sig ∷ actuals) = plain_forms actuals

-- formals with the forms that stand for them, by position
abbrev pub by_position : List RawForm → List RawForm → List Replacement
by_position [] forms = []
by_position (formal ∷ formals) [] = []
by_position (formal ∷ formals) (form ∷ forms) =
    record { old = formal; sig = None; new = form; pos = form.pos } ∷ by_position formals forms

-- the old names among actuals, with the new ones
abbrev pub by_name : List RawActual → List Replacement
by_name [] = []
by_name (Plain form ∷ actuals) = by_name actuals
by_name (Replace new old sig ∷ actuals) =
    record { old = old; sig = sig; new = new; pos = old.pos } ∷ by_name actuals

-- all replacements of a reference to a trait with these formals
abbrev pub all_replacements : List RawForm → RawRef → List Replacement
all_replacements formals ref = by_position formals (plain_forms ref.actuals) ++ by_name ref.actuals

-- forms stand for formals, and not as many as there are
abbrev pub is_count_wrong : List RawForm → List RawForm → Bool
is_count_wrong formals [] = false
is_count_wrong formals (form ∷ forms) = not (length formals == length (form ∷ forms))

-- replacements with one more, in a trait with these operators
abbrev pub replace : List PlainOperator → Replacement → Replacements → Result Replacements Fault
replace fs r by = replace_form r.pos r.new (meant_by fs r.old r.sig) by

-- replacements, unless an operator would become a built-in one by them
abbrev pub kept_apart : List PlainOperator → Pos → Replacements → Result Replacements Fault
kept_apart fs pos by = refused_if Rename pos (list_any (λ f. is_built_in (new_operator by f)) fs) (Ok by)

-- what a reference to a trait with these operators and formals replaces, or RENAME: first for the number of forms
-- that stand for formals, then for each replacement in order, then for operators that would become built-in ones
unfoldable pub replacements_of : List PlainOperator → List RawForm → RawRef → Result Replacements Fault
replacements_of fs formals ref =
    refused_if Rename ref.name.pos (is_count_wrong formals (plain_forms ref.actuals))
    (after (all_taken (replace fs) (all_replacements formals ref) none_replaced) (kept_apart fs ref.name.pos))
