use Rattle.std.proofs.Common.{◌∙◌, ap}
use Rattle.larch_flat_meaning.specs.Gathered.{new_among, statements_in}
use Rattle.larch_duties.proofs.Distinct.{new_renamed}
use Rattle.larch_duties.proofs.implied.new_statements.Goals as goal

pub returns : goal.returns
returns c =
    c.in_ok-new.ensures ∙ ap (new_among (statements_in c.args.own.now)) c.in_ok-renamed.ensures
    ∙ new_renamed c.args.own.now c.args.names.now c.args.marked.now
