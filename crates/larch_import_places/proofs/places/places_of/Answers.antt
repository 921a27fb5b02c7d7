use Rattle.std.proofs.Common.{◌∙◌}
use Rattle.larch_verify_meaning.specs.RenamingRenaming.{renamed_statement}
use Rattle.larch_import_names.proofs.Naming.{one_more}
use Rattle.larch_import_names.specs.Names.{renaming}
use Rattle.larch_import_places.specs.Places.{place_among}
use Rattle.larch_import_places.proofs.places.places_of.Goals as goal

pub loop-statement-preserved : goal.loop-statement-preserved
loop-statement-preserved c =
    c.in_ok-push.ensures.ok
    ∙ one_more (λ s. place_among c.args.others.now (renamed_statement (renaming c.args.by.now) s))
    c.loop-statement.places
    c.args.statements.now c.loop-statement.statement-index c.statement-item.result c.in_ok-place.place
    c.loop-statement-test.true c.statement-item.is c.in_ok-place.ensures c.loop-statement.invariant
