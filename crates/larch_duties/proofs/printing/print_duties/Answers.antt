use Rattle.std.proofs.Common.{◌∙◌, ap, length}
use Rattle.larch_flat_meaning.specs.Gathered.{Gathered}
use Rattle.larch_duties.proofs.Lines.{all_written}
use Rattle.larch_duties.proofs.printing.print_duties.Goals as goal

pub returns : goal.returns
returns c raw =
    all_written raw c.args.flat.now c.duties.inside.flat.now c.duties.inside.implied c.as_slice-implied.result.now
    c.duties.inside.conversions c.as_slice-conversions.result.now c.args.duties.now c.len-count.result
    c.as_slice.result.now
    c.new-text.result c.write_flat.new.text c.write_own.new.text c.write_clauses.new.text
    c.new-text.ensures c.in_ok-write_flat.ensures c.in_ok-write_own.ensures c.in_ok-write_clauses.ensures
    (c.as_slice.ensures ∙ ap (λ (g : Gathered). g.discharge) c.own.view_is) c.as_slice-implied.ensures
    c.as_slice-conversions.ensures
    (c.len-count.ensures ∙ ap (λ (g : Gathered). length g.marked) c.flat.view_is) c.duties.view_is
