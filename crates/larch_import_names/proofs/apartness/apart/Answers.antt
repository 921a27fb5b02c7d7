use Rattle.larch_import_names.proofs.KeptApart.{apart_by}
use Rattle.larch_import_names.proofs.apartness.apart.Goals as goal

pub returns : goal.returns
returns c =
    apart_by c.are_apart.result c.as_slice.result.now c.args.by.now.sorts c.are_apart.ensures c.as_slice.ensures
