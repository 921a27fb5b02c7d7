use Rattle.larch_term.specs.Tree.{app, forest_of}
use Rattle.std.proofs.Common.{map}
use Rattle.std.proofs.lemmas.Option.{slice_get_within}
use Rattle.larch_verify_meaning.specs.Context.{find_symbol}
use Rattle.larch_verify_pool.specs.Pooled.{tree_in, operator_in}
use Rattle.larch_verify_history.specs.Past.{history_of}
use Rattle.larch_verify_decoding.proofs.Steps.{application_not, application_yes}
use Rattle.larch_verify_decoding.proofs.decoding.decode_application.Goals as goal

pub returns-then-not-takes-clause-value : goal.returns-then-not-takes-clause-value
returns-then-not-takes-clause-value c =
    application_not (find_symbol c.args.context.now.theory.now (history_of c.args.pool.now c.args.context.now.past.now))
    c.args.symbol
    c.find_operator.new.pool.operators c.args.pool.now.trees c.find_operator.new.pool.trees
    c.as_slice.result.now c.as_slice-2.result.now c.args.arguments c.in_ok-found.found c.in-Some.operator c.takes.result
    c.as_slice.ensures c.as_slice-2.ensures c.in_ok-found.ensures.trees c.in-Some.is c.in_ok-found.ensures.within
    c.in_ok-found.ensures.operator c.takes.ensures c.if-not-takes.true

pub returns-clause-within : goal.returns-clause-within
returns-clause-within c =
    slice_get_within c.apply.new.self.trees c.in_ok-number.number
    (app (operator_in c.find_operator.new.pool.operators c.in-Some.operator)
    (forest_of (map (tree_in c.find_operator.new.pool.trees) c.args.arguments)))
    c.in_ok-number.ensures.tree

pub returns-clause-value : goal.returns-clause-value
returns-clause-value c =
    application_yes (find_symbol c.args.context.now.theory.now (history_of c.args.pool.now c.args.context.now.past.now))
    c.args.symbol
    c.find_operator.new.pool.operators c.args.pool.now.trees c.find_operator.new.pool.trees c.apply.new.self.trees
    c.as_slice.result.now c.as_slice-2.result.now c.args.arguments c.in_ok-found.found c.in-Some.operator
    c.in_ok-number.number c.takes.result
    c.as_slice.ensures c.as_slice-2.ensures c.in_ok-found.ensures.trees c.in-Some.is c.in_ok-found.ensures.within
    c.in_ok-found.ensures.operator c.takes.ensures c.if-not-takes.false c.in_ok-number.ensures.tree
