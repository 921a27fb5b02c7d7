use Rattle.larch_prove_boxes.proofs.Equalities.{changed_extends, changed_says}
use Rattle.larch_prove_boxes.proofs.Handed.{turned_grows, turned_said}
use Rattle.larch_prove_boxes.proofs.equality.push_equality.Goals as goal

pub returns-clause-says : goal.returns-clause-says
returns-clause-says c =
    turned_said c.push_sym-2.result c.args.builder.now c.push_argument.new.builder c.push_sym-2.new.builder c.args.line
    c.in_ok-changed.changed c.args.left.now
    (changed_says c.args.builder.now c.push_itself.new.builder c.push_sym.new.builder c.push_argument.new.builder
    c.args.line c.in_ok-itself.itself c.in_ok-back.back c.in_ok-changed.changed c.args.left.now
    c.in_ok-itself.ensures.says c.in_ok-itself.ensures.extends c.in_ok-back.ensures.says c.in_ok-back.ensures.extends
    c.in_ok-changed.ensures.says) c.push_sym-2.ensures.says

pub returns-clause-extends : goal.returns-clause-extends
returns-clause-extends c =
    turned_grows c.push_sym-2.result c.args.builder.now c.push_argument.new.builder c.push_sym-2.new.builder c.args.line
    c.in_ok-changed.changed c.args.left.now
    (changed_says c.args.builder.now c.push_itself.new.builder c.push_sym.new.builder c.push_argument.new.builder
    c.args.line c.in_ok-itself.itself c.in_ok-back.back c.in_ok-changed.changed c.args.left.now
    c.in_ok-itself.ensures.says c.in_ok-itself.ensures.extends c.in_ok-back.ensures.says c.in_ok-back.ensures.extends
    c.in_ok-changed.ensures.says)
    (changed_extends c.args.builder.now c.push_itself.new.builder c.push_sym.new.builder c.push_argument.new.builder
    c.args.line c.in_ok-itself.itself c.in_ok-back.back c.args.left.now c.in_ok-itself.ensures.says
    c.in_ok-itself.ensures.extends c.in_ok-back.ensures.says c.in_ok-back.ensures.extends
    c.in_ok-changed.ensures.extends) c.push_sym-2.ensures.extends
