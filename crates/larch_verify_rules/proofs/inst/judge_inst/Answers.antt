use Rattle.std.proofs.Common.{◌≡◌, Some, sym, ◌∙◌, ap, subst}
use Rattle.std.specs.Prelude.{IfSome}
use Rattle.std.specs.Option.{option_map, option_and_then}
use Rattle.larch_verify_meaning.specs.BoxRules.{equation_alone}
use Rattle.larch_verify_meaning.specs.Context.{find_line, find_symbol}
use Rattle.larch_verify_meaning.specs.Decoding.{each, decode_binding}
use Rattle.larch_verify_pool.specs.Substitution.{AreBindings, entries_of}
use Rattle.larch_verify_history.specs.Past.{equated_in, history_of}
use Rattle.larch_verify_history.proofs.Staying.{history_same}
use Rattle.larch_verify_rules.proofs.Instances.{no_line, twice_bound, different_as, stated_instance}
use Rattle.larch_verify_rules.proofs.inst.judge_inst.Goals as goal

pub returns-in_default-clause-says : goal.returns-in_default-clause-says
returns-in_default-clause-says c =
    no_line (find_symbol c.args.context.now.theory.now (history_of c.args.pool.now c.args.context.now.past.now))
    (history_of c.args.pool.now c.args.context.now.past.now)
    c.args.line c.args.bindings.now (c.in_default.ensures.says c.args.pool.now)

pub returns-then-not-are_different-clause-says : goal.returns-then-not-are_different-clause-says
returns-then-not-are_different-clause-says c =
    let d : each
    (decode_binding (find_symbol c.args.context.now.theory.now
    (history_of c.args.pool.now c.args.context.now.past.now))) c.args.bindings.now
    ≡ Some (entries_of c.decode_bindings.new.pool.trees c.in-Some-by.by.items) =
    sym c.in_ok-by.ensures.says ∙ ap
    (option_map (λ by. entries_of c.decode_bindings.new.pool.trees by.items)) c.in-Some-by.is in
    let w : AreBindings c.decode_bindings.new.pool.trees c.in-Some-by.by.items =
    subst (λ o. IfSome o (λ by. AreBindings c.decode_bindings.new.pool.trees by.items)) c.in-Some-by.is
    c.in_ok-by.ensures.within in
    twice_bound (find_symbol c.args.context.now.theory.now (history_of c.args.pool.now c.args.context.now.past.now))
    (history_of c.args.pool.now c.args.context.now.past.now)
    c.args.line c.args.bindings.now
    (different_as c.decode_bindings.new.pool.trees
    (find_symbol c.args.context.now.theory.now (history_of c.args.pool.now c.args.context.now.past.now))
    c.args.bindings.now
    c.in-Some-by.by.items c.deref.result.now c.in_ok-are_different.are_different _ c.are_apart.ensures w d
    c.deref.ensures.value
    c.in_ok-are_different.ensures c.if-not-are_different.true)

pub returns-clause-says : goal.returns-clause-says
returns-clause-says c =
    let d : each
    (decode_binding (find_symbol c.args.context.now.theory.now
    (history_of c.args.pool.now c.args.context.now.past.now))) c.args.bindings.now
    ≡ Some (entries_of c.decode_bindings.new.pool.trees c.in-Some-by.by.items) =
    sym c.in_ok-by.ensures.says ∙ ap
    (option_map (λ by. entries_of c.decode_bindings.new.pool.trees by.items)) c.in-Some-by.is in
    let w : AreBindings c.decode_bindings.new.pool.trees c.in-Some-by.by.items =
    subst (λ o. IfSome o (λ by. AreBindings c.decode_bindings.new.pool.trees by.items)) c.in-Some-by.is
    c.in_ok-by.ensures.within in
    let i : Some (equated_in c.decode_bindings.new.pool c.in-Some.sides)
    ≡ option_and_then equation_alone (find_line (history_of c.args.pool.now c.args.context.now.past.now) c.args.line) =
    c.in-Some.ensures.says c.decode_bindings.new.pool
    ∙ ap (λ h. option_and_then equation_alone (find_line h c.args.line))
    (history_same c.args.context.now.theory.now c.args.pool.now c.decode_bindings.new.pool c.args.context.now.past.now
    c.requires c.in_ok-by.ensures.grows) in
    stated_instance (find_symbol c.args.context.now.theory.now (history_of c.args.pool.now c.args.context.now.past.now))
    c.decode_bindings.new.pool
    (history_of c.args.pool.now c.args.context.now.past.now) c.args.line c.args.bindings.now c.deref-2.result.now
    c.in-Some.sides
    (equated_in c.instance.new.pool c.in_ok-stated.stated)
    (different_as c.decode_bindings.new.pool.trees
    (find_symbol c.args.context.now.theory.now (history_of c.args.pool.now c.args.context.now.past.now))
    c.args.bindings.now
    c.in-Some-by.by.items c.deref.result.now c.in_ok-are_different.are_different _ c.are_apart.ensures w d
    c.deref.ensures.value
    c.in_ok-are_different.ensures c.if-not-are_different.false)
    (d ∙ ap (λ bs. Some (entries_of c.decode_bindings.new.pool.trees bs)) (sym c.deref-2.ensures.value)) i
    c.in_ok-stated.ensures.says
