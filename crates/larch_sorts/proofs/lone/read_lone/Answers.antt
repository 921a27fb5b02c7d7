use Rattle.std.specs.Option.{option_copied}
use Rattle.larch_sorts_signature.proofs.SortsMeaningReadAnswers.{lone_known, lone_only, lone_stands}
use Rattle.larch_sorts_signature.proofs.SortsMeaningReadAnswers.{lone_over, lone_in_scope}
use Rattle.larch_sorts.proofs.lone.read_lone.Goals as goal

pub returns-clause-known : goal.returns-clause-known
returns-clause-known c =
    lone_known c.args.signature.now c.args.scope.now
    (option_copied c.args.sort) c.args.raw.now c.lone.result c.lone.ensures

pub returns-clause-only : goal.returns-clause-only
returns-clause-only c =
    lone_only c.args.signature.now c.args.scope.now
    (option_copied c.args.sort) c.args.raw.now c.lone.result c.lone.ensures

pub returns-clause-stands : goal.returns-clause-stands
returns-clause-stands c =
    lone_stands c.args.signature.now c.args.scope.now
    (option_copied c.args.sort) c.args.raw.now c.lone.result c.lone.ensures

pub returns-clause-well_sorted : goal.returns-clause-well_sorted
returns-clause-well_sorted c =
    lone_over c.args.signature.now c.args.scope.now
    (option_copied c.args.sort) c.args.raw.now c.lone.result c.lone.ensures

pub returns-clause-in_scope : goal.returns-clause-in_scope
returns-clause-in_scope c =
    lone_in_scope c.args.signature.now c.args.scope.now
    (option_copied c.args.sort) c.args.raw.now c.lone.result c.lone.ensures
