-- What the parts of a trait's claims add, each by itself.
use Rattle.std.specs.Prelude.{List, not, filter, map, is_none, Result}
use Rattle.larch_base.specs.declared.code.Code.TheVariants.{UnknownTrait}
use Rattle.larch_base.specs.declared.fault.Fault.{Fault}
use Rattle.larch_raw.specs.declared.reference.RawRef.{RawRef}
use Rattle.larch_renaming.specs.Renaming.{renamed_statement}
use Rattle.larch_term.specs.declared.statement.Statement.{Statement}
use Rattle.larch_base_meaning.specs.Steps.{after}
use Rattle.larch_flat_meaning.specs.Flat.{FlatTrait, at_reference, renamed_marked}
use Rattle.larch_flat_meaning.specs.Gathered.{Marked, stands_in, statements_in}
use Rattle.larch_flat_meaning.specs.Replacements.{Replacements, renaming, replacements_of}
use Rattle.larch_flat_meaning.specs.Stops.{Stop, stopped_if, surely}
use Rattle.larch_duties_meaning.specs.Implied.{implied_by}
use Rattle.larch_flat.specs.FlatSourcesSources.{Table, files_in}
use Rattle.larch_flat.specs.Parts.{flat_trait}

-- what a trait implies by a reference to another one
abbrev pub trait_implies : FlatTrait → RawRef → FlatTrait → Result (List Statement) Fault
trait_implies own ref other =
    after (replacements_of other.operators other.raw.formals ref) (implied_by own ref.name.pos other)

-- the same by what is told of the other one
abbrev pub told_implies : FlatTrait → RawRef → Result FlatTrait Stop → Result (List Statement) Stop
told_implies own ref answer = after (at_reference ref.name.pos answer) (λ other. surely (trait_implies own ref other))

-- the same by what was read of files
abbrev pub reference_implies : Table → FlatTrait → RawRef → Result (List Statement) Stop
reference_implies sources own ref =
    stopped_if UnknownTrait ref.name.pos (is_none (files_in sources ref.name.name))
    (told_implies own ref (flat_trait sources ref.name.name))

-- the statements of marked ones by other names, in order
abbrev pub renamed_in : Replacements → List Marked → List Statement
renamed_in by ms = map (λ m. renamed_statement (renaming by) m.statement) ms

-- the statements of another trait by other names, each where it occurs first, without those that are the trait's own
abbrev pub new_in : List Marked → Replacements → List Marked → List Statement
new_in own by ms = filter (λ s. not (stands_in (statements_in own) s)) (statements_in (renamed_marked by ms))
