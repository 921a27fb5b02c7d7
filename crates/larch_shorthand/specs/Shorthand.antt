-- What a shorthand stands for, or what is wrong with it.
use Rattle.std.specs.Prelude.{ℕ, if◌then◌else◌, Bool, ◌||◌, bytes_eq, List, [], ◌∷◌, ◌++◌, map, find, codes}
use Rattle.std.specs.Prelude.{Option, Some, None, option_map, Result, Ok}
use Rattle.std.specs.List.{list_any}
use Rattle.larch_base.specs.declared.code.Code.TheVariants.{FieldTwice, BuiltIn}
use Rattle.larch_base.specs.declared.fault.Fault.{Fault}
use Rattle.larch_base.specs.declared.position.Pos.{Pos}
use Rattle.larch_traits_items.specs.RawRawWord.{RawWord}
use Rattle.larch_traits_items.specs.RawShorthandRawField.{RawField}
use Rattle.larch_traits_items.specs.RawShorthandRawShorthand.{RawShorthand}
use Rattle.larch_traits_items.specs.RawShorthandRawShorthand.TheVariants.{Enumeration, Tuple, Union}
use Rattle.larch_term.specs.BuiltIn.{bool_sort}
use Rattle.larch_term.specs.Operator.{PlainOperator}
use Rattle.larch_traits_items.specs.SortsMeaningFaults.{fault_at, unless}
use Rattle.larch_shorthand.specs.Enumeration.{enumeration}
use Rattle.larch_shorthand.specs.Tuple.{tuple}
use Rattle.larch_shorthand.specs.Union.{union_}
use Rattle.larch_shorthand.specs.declared.expansion.Expansion.{Expansion}

-- the first fault, or else the second
abbrev pub or_fault : Option Fault → Option Fault → Option Fault
or_fault (Some f) second = Some f
or_fault None second = second

-- where the first word stands that has one of these names or that of a word before it
abbrev pub twice : List (List ℕ) → List RawWord → Option Pos
twice names [] = None
twice names (w ∷ ws) = if list_any (bytes_eq w.name) names then Some w.pos else twice (names ++ w.name ∷ []) ws

-- the word is the name of a truth value
abbrev pub names_truth : RawWord → Bool
names_truth w = bytes_eq w.name (codes "true") || bytes_eq w.name (codes "false")

-- where the first element of a sort stands that would be a truth value
abbrev pub truth_among : List ℕ → List RawWord → Option Pos
truth_among sort words =
    if bytes_eq sort bool_sort then option_map (λ w. w.pos) (find names_truth words) else None

-- the names of words
abbrev pub names_in : List RawWord → List (List ℕ)
names_in words = map (λ w. w.name) words

-- where the first field stands that has the name of one before it
abbrev pub field_twice : List RawField → Option Pos
field_twice fields = twice [] (map (λ f. f.name) fields)

-- what is wrong with words as elements of a sort: a name twice, or else a truth value
abbrev pub wrong_elements : List ℕ → List RawWord → Option Fault
wrong_elements sort words =
    or_fault (fault_at FieldTwice (twice [] words)) (fault_at BuiltIn (truth_among sort words))

-- what is wrong with a shorthand
abbrev pub wrong_in : RawShorthand → Option Fault
wrong_in (Enumeration sort words) = wrong_elements sort.name words
wrong_in (Tuple sort fields) = fault_at FieldTwice (field_twice fields)
wrong_in (Union sort fields) = fault_at FieldTwice (field_twice fields)

-- what a shorthand stands for
abbrev pub expansion_of : RawShorthand → Expansion
expansion_of (Enumeration sort words) = enumeration sort.name (names_in words)
expansion_of (Tuple sort fields) = tuple sort.name fields
expansion_of (Union sort fields) = union_ sort.name fields

-- what a shorthand stands for, unless something is wrong with it
abbrev pub expand : RawShorthand → Result Expansion Fault
expand s = unless (wrong_in s) (Ok (expansion_of s))

-- the operators that it stands for, unless something is wrong with it
abbrev pub expand_operators : RawShorthand → Result (List PlainOperator) Fault
expand_operators s = unless (wrong_in s) (Ok (expansion_of s).operators)
