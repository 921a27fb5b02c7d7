-- The flat trait of a file: what it gathers from its references, its shorthands, its declarations and its items.
use Rattle.std.specs.Prelude.{ℕ, zero, suc, Bool, not, bytes_eq, List, [], ◌∷◌, map, fold}
use Rattle.std.specs.Prelude.{Option, Some, None, is_none, Result, Ok, Err}
use Rattle.std.specs.List.{list_any}
use Rattle.larch_base.specs.Position.{start_of_text}
use Rattle.larch_base.specs.declared.code.Code.TheVariants.{UnknownTrait, Cycle, BadReference, TraitName, Size}
use Rattle.larch_base.specs.declared.fault.Fault.{Fault}
use Rattle.larch_base.specs.declared.position.Pos.{Pos}
use Rattle.larch_raw.specs.declared.equation.RawTrait.{RawTrait}
use Rattle.larch_raw.specs.declared.reference.RawReference.{RawReference}
use Rattle.larch_raw.specs.declared.shorthand.RawShorthand.{RawShorthand}
use Rattle.larch_term.specs.Operator.{PlainOperator}
use Rattle.larch_term.specs.declared.statement.Statement.{Statement}
use Rattle.larch_term.specs.declared.statement.Theory.{Theory}
use Rattle.larch_shorthand.specs.SortsMeaningFaults.{fault}
use Rattle.larch_renaming.specs.Renaming.{renamed_statement}
use Rattle.larch_shorthand.specs.TraitsItemsDeclarations.{declared_operators}
use Rattle.larch_shorthand.specs.TraitsItemsItems.{items_state}
use Rattle.larch_shorthand.specs.BaseMeaningSteps.{after, all_taken}
use Rattle.larch_shorthand.specs.Shorthand.{expand}
use Rattle.larch_flat_meaning.specs.Files.{Files, closure, target}
use Rattle.larch_flat_meaning.specs.Gathered.{Gathered, Marked, nothing, is_too_large, new_among, statements_in}
use Rattle.larch_flat_meaning.specs.Gathered.{with_asserted, with_operators, with_statement, with_taken}
use Rattle.larch_flat_meaning.specs.Replacements.{Replacements, new_operator, renaming, replacements_of}
use Rattle.larch_flat_meaning.specs.Stops.{Stop, Refused, TooDeep, refused_if, stopped_if, surely}

-- a trait as it is written, with its operators, its marked statements, and the statements that are to be discharged
pub record FlatTrait : Type 0 where
  pub raw : RawTrait
  pub operators : List PlainOperator
  pub marked : List Marked
  pub discharge : List Statement

-- the theory of a flat trait: its statements, asserted or assumed
abbrev pub theory_of : FlatTrait → Theory
theory_of t = record { operators = t.operators; statements = statements_in t.marked }

-- what is gathered, unless it is too large
abbrev pub within : Pos → Gathered → Result Gathered Fault
within pos g = refused_if Size pos (is_too_large g) (Ok g)

-- a marked statement by other names
abbrev pub renamed_mark : Replacements → Marked → Marked
renamed_mark by m = record { statement = renamed_statement (renaming by) m.statement; assumed = m.assumed }

-- marked statements with one more behind them, unless it is there
abbrev pub with_mark : List Marked → Marked → List Marked
with_mark ms m = with_statement m.statement m.assumed ms

-- marked statements by other names, each where it occurs first
abbrev pub renamed_marked : Replacements → List Marked → List Marked
renamed_marked by ms = fold with_mark [] (map (renamed_mark by) ms)

-- with the operators and statements of a flat trait by other names
abbrev pub with_renamed : Bool → FlatTrait → Replacements → Gathered → Gathered
with_renamed assumes t by g =
    fold (λ h m. with_taken assumes m h) (with_operators (map (new_operator by) t.operators) g)
    (renamed_marked by t.marked)

-- with the flat trait of a reference, by the names that the reference gives
abbrev pub take_flat : RawReference → Gathered → FlatTrait → Result Gathered Fault
take_flat r g t =
    after (replacements_of t.operators t.raw.formals r.target) (λ by.
    within r.target.name.pos (with_renamed r.assumed t by g))

-- the flat trait of a reference: where it is refused itself the reference is bad
abbrev pub at_reference : Pos → Result FlatTrait Stop → Result FlatTrait Stop
at_reference pos (Ok t) = Ok t
at_reference pos (Err (Refused f)) = Err (Refused (fault BadReference pos))
at_reference pos (Err TooDeep) = Err TooDeep

-- with a reference, by what is told of the file that it names
abbrev pub take_told : RawReference → Gathered → Result FlatTrait Stop → Result Gathered Stop
take_told r g answer = after (at_reference r.target.name.pos answer) (λ t. surely (take_flat r g t))

-- the same, unless the trait's own name is among those that the reference leads to
abbrev pub take_new : List ℕ → RawReference → Gathered → Result FlatTrait Stop → List (List ℕ)
    → Result Gathered Stop
take_new name r g answer names =
    stopped_if Cycle r.target.name.pos (list_any (bytes_eq name) names) (take_told r g answer)

-- with a reference of the trait of this name, in order: there is no file, it leads back, its trait is refused, its
-- names can't be given, or it is too large; `next` gives the flat trait of a name
abbrev pub take_reference : ℕ → Files → List ℕ → (List ℕ → Result FlatTrait Stop) → RawReference → Gathered
    → Result Gathered Stop
take_reference limit files name next r g =
    stopped_if UnknownTrait r.target.name.pos (is_none (files (target r)))
    (after (closure files limit (target r ∷ [])) (take_new name r g (next (target r))))

-- with a shorthand
abbrev pub take_shorthand : RawShorthand → Gathered → Result Gathered Fault
take_shorthand s g = after (expand s) (λ e. Ok (with_asserted e.statements (with_operators e.operators g)))

-- with the items of a trait, over all operators that are gathered
abbrev pub take_items : RawTrait → Gathered → Result Gathered Fault
take_items raw g = after (items_state g.operators raw.items) (λ ss. Ok (with_asserted ss g))

-- with the declarations of a trait, then its items
abbrev pub take_own : RawTrait → Gathered → Result Gathered Fault
take_own raw g = after (declared_operators raw.declarations) (λ fs. take_items raw (with_operators fs g))

-- the flat trait of all that is gathered: what it states itself needs no discharge
abbrev pub finish_trait : RawTrait → Gathered → FlatTrait
finish_trait raw g =
    record {
      raw = raw;
      operators = g.operators;
      marked = g.marked;
      discharge = new_among (statements_in g.marked) g.discharge;
    }

-- with what stands in the file itself: its shorthands come before its declarations and items
abbrev pub take_rest : RawTrait → Gathered → Result FlatTrait Fault
take_rest raw g =
    after (all_taken take_shorthand raw.shorthands g) (λ h.
    after (take_own raw h) (λ i.
    after (within raw.name.pos i) (λ j. Ok (finish_trait raw j))))

-- the flat trait of a file whose text is right: its name comes first, then its references
abbrev pub flat_of : ℕ → Files → List ℕ → (List ℕ → Result FlatTrait Stop) → RawTrait → Result FlatTrait Stop
flat_of limit files name next raw =
    stopped_if TraitName raw.name.pos (not (bytes_eq raw.name.name name))
    (after (all_taken (take_reference limit files name next) raw.references nothing) (λ g. surely (take_rest raw g)))

-- the flat trait of a file by what its text says
abbrev pub flat_file : ℕ → Files → List ℕ → (List ℕ → Result FlatTrait Stop) → Option (Result RawTrait Fault)
    → Result FlatTrait Stop
flat_file limit files name next None = Err (Refused (fault UnknownTrait start_of_text))
flat_file limit files name next (Some (Err f)) = Err (Refused f)
flat_file limit files name next (Some (Ok raw)) = flat_of limit files name next raw

-- the flat trait of a name, where references are followed so deep, and so many rounds tell what they lead to
abbrev pub flat_by : ℕ → ℕ → Files → List ℕ → Result FlatTrait Stop
flat_by zero limit files name = Err TooDeep
flat_by (suc n) limit files name = flat_file limit files name (λ m. flat_by n limit files m) (files name)

-- the flat trait of a name among at most so many files
unfoldable pub flat : ℕ → Files → List ℕ → Result FlatTrait Stop
flat limit files name = flat_by (suc limit) (suc limit) files name
