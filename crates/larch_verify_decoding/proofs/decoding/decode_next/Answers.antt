use Rattle.std.proofs.Common.{◌≡◌, ◌<◌, ◌-◌, ◌∷◌, [], ◌++◌, length, map, sym, ◌∙◌, ap, subst}
use Rattle.std.specs.Prelude.{IfSome}
use Rattle.std.specs.Option.{option_map, option_and_then}
use Rattle.std.proofs.lemmas.Option.{slice_get_within}
use Rattle.larch_term.specs.Tree.{var}
use Rattle.larch_certificate.specs.CodedView.{view_coded}
use Rattle.larch_verify_meaning.specs.Context.{find_symbol}
use Rattle.larch_verify_pool.specs.Pooled.{tree_in}
use Rattle.larch_verify_history.specs.Past.{history_of}
use Rattle.larch_verify_decoding.specs.Postorder.{value_of, values_after}
use Rattle.larch_verify_decoding.proofs.Steps.{next_variable, number_within, next_application, value_here, part_within}
use Rattle.larch_verify_decoding.proofs.decoding.decode_next.Goals as goal

pub returns-in_default-clause-values : goal.returns-in_default-clause-values
returns-in_default-clause-values c cs =
    next_application (find_symbol c.args.context.now.theory.now
    (history_of c.args.pool.now c.args.context.now.past.now)) c.in-App.symbol c.in-App.arguments c.args.term.now cs
    c.args.pool.now.trees c.args.values.now.items
    (length c.as_slice.result.now) c.in_ok-arguments-in-App.arguments c.take_last.new.numbers.items
    (ap view_coded (sym c.in-App.is) ∙ c.node.ensures)
    (ap length c.as_slice.ensures) c.in_ok-arguments-in-App.ensures.last c.in_ok-arguments-in-App.ensures.rest
    ∙ ap
    (option_and_then (λ v. values_after
    (find_symbol c.args.context.now.theory.now (history_of c.args.pool.now c.args.context.now.past.now)) cs
    (map (tree_in c.args.pool.now.trees) c.take_last.new.numbers.items ++ v ∷ [])))
    (sym (ap (option_map (tree_in c.decode_application.new.pool.trees)) (sym c.in_default.is)
    ∙ c.in_ok-value-in-App.ensures.value))

pub returns-in_ok-push-in-Var-clause-within : goal.returns-in_ok-push-in-Var-clause-within
returns-in_ok-push-in-Var-clause-within c =
    number_within c.args.pool.now.trees c.decode_variable.new.pool.trees c.args.values.now.items c.push.new.self.items
    c.in_ok-number-in-Var.number
    c.in_ok-number-in-Var.ensures.grows.1 c.requires.values c.in_ok-push-in-Var.ensures.items
    (slice_get_within c.decode_variable.new.pool.trees c.in_ok-number-in-Var.number
    (var c.in-Var.name c.in-Var.sort) c.in_ok-number-in-Var.ensures.tree)

pub returns-in_ok-push-in-Var-clause-values : goal.returns-in_ok-push-in-Var-clause-values
returns-in_ok-push-in-Var-clause-values c cs =
    next_variable (find_symbol c.args.context.now.theory.now (history_of c.args.pool.now c.args.context.now.past.now))
    c.in-Var.name c.in-Var.sort c.args.term.now cs
    c.args.pool.now.trees c.decode_variable.new.pool.trees c.args.values.now.items c.push.new.self.items
    c.in_ok-number-in-Var.number
    (ap view_coded (sym c.in-Var.is) ∙ c.node.ensures) c.in_ok-number-in-Var.ensures.grows.1 c.requires.values
    c.in_ok-push-in-Var.ensures.items
    c.in_ok-number-in-Var.ensures.tree

-- the number of the application is that of a node
value_within : (c : goal.In_ok-push-in-App) → c.in-Some.number < length c.decode_application.new.pool.trees
value_within c =
    subst (λ o. IfSome o (λ n. n < length c.decode_application.new.pool.trees)) c.in-Some.is
    c.in_ok-value-in-App.ensures.within

pub returns-in_ok-push-in-App-clause-within : goal.returns-in_ok-push-in-App-clause-within
returns-in_ok-push-in-App-clause-within c =
    number_within c.args.pool.now.trees c.decode_application.new.pool.trees c.take_last.new.numbers.items
    c.push-in-App.new.self.items c.in-Some.number
    c.in_ok-value-in-App.ensures.grows.1
    (part_within c.args.pool.now.trees c.args.values.now.items c.take_last.new.numbers.items
    (length c.args.values.now.items - length c.as_slice.result.now)
    c.in_ok-arguments-in-App.ensures.rest c.requires.values)
    c.in_ok-push-in-App.ensures.items (value_within c)

pub returns-in_ok-push-in-App-clause-values : goal.returns-in_ok-push-in-App-clause-values
returns-in_ok-push-in-App-clause-values c cs =
    value_here (find_symbol c.args.context.now.theory.now (history_of c.args.pool.now c.args.context.now.past.now)) cs
    c.args.pool.now.trees c.decode_application.new.pool.trees
    c.take_last.new.numbers.items c.push-in-App.new.self.items c.in-Some.number
    (value_of (find_symbol c.args.context.now.theory.now (history_of c.args.pool.now c.args.context.now.past.now))
    c.in-App.symbol (map (tree_in c.args.pool.now.trees) c.in_ok-arguments-in-App.arguments))
    (values_after (find_symbol c.args.context.now.theory.now (history_of c.args.pool.now c.args.context.now.past.now))
    (c.args.term.now ∷ cs) (map (tree_in c.args.pool.now.trees) c.args.values.now.items))
    c.in_ok-value-in-App.ensures.grows.1
    (part_within c.args.pool.now.trees c.args.values.now.items c.take_last.new.numbers.items
    (length c.args.values.now.items - length c.as_slice.result.now)
    c.in_ok-arguments-in-App.ensures.rest c.requires.values)
    c.in_ok-push-in-App.ensures.items (value_within c)
    (ap (option_map (tree_in c.decode_application.new.pool.trees)) (sym c.in-Some.is)
    ∙ c.in_ok-value-in-App.ensures.value)
    (next_application (find_symbol c.args.context.now.theory.now
    (history_of c.args.pool.now c.args.context.now.past.now)) c.in-App.symbol c.in-App.arguments c.args.term.now cs
    c.args.pool.now.trees c.args.values.now.items
    (length c.as_slice.result.now) c.in_ok-arguments-in-App.arguments c.take_last.new.numbers.items
    (ap view_coded (sym c.in-App.is) ∙ c.node.ensures)
    (ap length c.as_slice.ensures) c.in_ok-arguments-in-App.ensures.last c.in_ok-arguments-in-App.ensures.rest)
