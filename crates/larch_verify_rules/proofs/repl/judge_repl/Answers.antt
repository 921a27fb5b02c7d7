use Rattle.larch_verify_meaning.specs.Context.{find_line}
use Rattle.larch_verify_pool.specs.Pooled.{tree_in}
use Rattle.larch_verify_history.specs.Past.{history_of}
use Rattle.larch_verify_rules.proofs.Replacing.{first_nothing, second_nothing}
use Rattle.larch_verify_rules.proofs.repl.judge_repl.Goals as goal

pub returns-in_default-clause-says : goal.returns-in_default-clause-says
returns-in_default-clause-says c =
    first_nothing c.args.place.now (find_line (history_of c.args.pool.now c.args.context.now.past.now) c.args.line)
    (find_line (history_of c.args.pool.now c.args.context.now.past.now) c.args.by)
    (c.in_default.ensures.says c.args.pool.now)

pub returns-in_default-equation_of-clause-says : goal.returns-in_default-equation_of-clause-says
returns-in_default-equation_of-clause-says c =
    second_nothing c.args.place.now (find_line (history_of c.args.pool.now c.args.context.now.past.now) c.args.line)
    (find_line (history_of c.args.pool.now c.args.context.now.past.now) c.args.by)
    (tree_in c.args.pool.now.trees c.in-Some.changed.left) (tree_in c.args.pool.now.trees c.in-Some.changed.right)
    (c.in-Some.ensures.says c.args.pool.now) (c.in_default-equation_of.ensures.says c.args.pool.now)
