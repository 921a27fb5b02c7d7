-- What a trait implies: the statements of implied traits, then those of implied items.
use Rattle.std.specs.Prelude.{ℕ, Bool, not, is_none, List, [], ◌++◌, filter, Result, Ok}
use Rattle.std.specs.List.{list_any, list_all}
use Rattle.larch_base.specs.declared.code.Code.TheVariants.{ImpliedOperator, UnknownTrait}
use Rattle.larch_base.specs.declared.fault.Fault.{Fault}
use Rattle.larch_base.specs.declared.position.Pos.{Pos}
use Rattle.larch_raw.specs.declared.reference.RawRef.{RawRef}
use Rattle.larch_term.specs.Equality.{same_operator}
use Rattle.larch_term.specs.Operator.{PlainOperator}
use Rattle.larch_term.specs.declared.statement.Statement.{Statement}
use Rattle.larch_flat_meaning.specs.TraitsItemsItems.{items_state}
use Rattle.larch_base_meaning.specs.Steps.{after, all_taken}
use Rattle.larch_flat_meaning.specs.Files.{Files}
use Rattle.larch_flat_meaning.specs.Flat.{FlatTrait, flat, at_reference, renamed_marked}
use Rattle.larch_flat_meaning.specs.Gathered.{stands_in, statements_in}
use Rattle.larch_flat_meaning.specs.Replacements.{Replacements, new_operator, replacements_of}
use Rattle.larch_flat_meaning.specs.Stops.{Stop, refused_if, stopped_if, surely}

-- the operator is one of these
abbrev pub is_among : List PlainOperator → PlainOperator → Bool
is_among fs f = list_any (same_operator f) fs

-- each operator of a trait is one of these, by the names that a reference gives
abbrev pub are_among : List PlainOperator → Replacements → List PlainOperator → Bool
are_among own by fs = list_all (λ f. is_among own (new_operator by f)) fs

-- the statements of an implied trait by the names that the reference gives, asserted and assumed ones, without those
-- that are the trait's own; the trait must have all operators of the implied one
abbrev pub implied_by : FlatTrait → Pos → FlatTrait → Replacements → Result (List Statement) Fault
implied_by own pos other by =
    refused_if ImpliedOperator pos (not (are_among own.operators by other.operators))
    (Ok (filter (λ s. not (stands_in (statements_in own.marked) s)) (statements_in (renamed_marked by other.marked))))

-- behind other statements those of an implied trait
abbrev pub take_implied : FlatTrait → RawRef → List Statement → FlatTrait → Result (List Statement) Fault
take_implied own ref ss other =
    after (replacements_of other.operators other.raw.formals ref) (λ by.
    after (implied_by own ref.name.pos other by) (λ more. Ok (ss ++ more)))

-- the same of a reference, in order: there is no file, its trait is refused, its names can't be given, or it has an
-- operator that the trait lacks
abbrev pub take_reference : ℕ → Files → FlatTrait → RawRef → List Statement → Result (List Statement) Stop
take_reference limit files own ref ss =
    stopped_if UnknownTrait ref.name.pos (is_none (files ref.name.name))
    (after (at_reference ref.name.pos (flat limit files ref.name.name))
    (λ other. surely (take_implied own ref ss other)))

-- what a trait implies, or what is wrong first: its references come before its items
abbrev pub implied_statements : ℕ → Files → FlatTrait → Result (List Statement) Stop
implied_statements limit files own =
    after (all_taken (take_reference limit files own) own.raw.implied []) (λ ss.
    after (surely (items_state own.operators own.raw.implied_items)) (λ more. Ok (ss ++ more)))
