use Rattle.std.proofs.Common.{◌≡◌, ◌<◌, length, not, bytes_eq, Some, None, sym, ◌∙◌, ap, subst}
use Rattle.std.specs.Prelude.{IfSome}
use Rattle.std.specs.Option.{option_map}
use Rattle.larch_term.specs.Sorts.{sort_of}
use Rattle.larch_verify_meaning.specs.Context.{find_symbol}
use Rattle.larch_verify_meaning.specs.Decoding.{decode}
use Rattle.larch_verify_pool.specs.Pooled.{tree_in, no_tree}
use Rattle.larch_verify_pool.proofs.Front.{front_at}
use Rattle.larch_verify_history.specs.Past.{history_of}
use Rattle.larch_verify_history.proofs.Staying.{history_same, past_stays}
use Rattle.larch_verify_decoding.proofs.Steps.{equation_none, equation_some, equation_unequal}
use Rattle.larch_verify_decoding.proofs.decoding.decode_equation.Goals as goal

pub decode-requires-2 : goal.decode-requires-2
decode-requires-2 c =
    past_stays c.args.context.now.theory.now c.args.pool.now c.decode.new.pool c.args.context.now.past.now c.requires
    c.in_ok-left.ensures.grows

pub returns-in_default-right-clause-says : goal.returns-in_default-right-clause-says
returns-in_default-right-clause-says c =
    equation_none (find_symbol c.args.context.now.theory.now (history_of c.args.pool.now c.args.context.now.past.now))
    c.args.equation.now (tree_in c.decode.new.pool.trees c.in-Some.left)
    (ap (option_map (tree_in c.decode.new.pool.trees)) (sym c.in-Some.is) ∙ c.in_ok-left.ensures.says)
    (ap (option_map (tree_in c.decode-2.new.pool.trees)) (sym c.in_default-right.is) ∙ c.in_ok-right.ensures.says
    ∙ ap (λ h. decode (find_symbol c.args.context.now.theory.now h) c.args.equation.now.right)
    (history_same c.args.context.now.theory.now c.args.pool.now c.decode.new.pool c.args.context.now.past.now c.requires
    c.in_ok-left.ensures.grows))

pub returns-then-ne-clause-says : goal.returns-then-ne-clause-says
returns-then-ne-clause-says c =
    let l : Some (tree_in c.decode-2.new.pool.trees c.in-Some.left)
    ≡ decode (find_symbol c.args.context.now.theory.now (history_of c.args.pool.now c.args.context.now.past.now))
    c.args.equation.now.left =
    ap Some (front_at c.decode.new.pool.trees c.decode-2.new.pool.trees c.in-Some.left no_tree
    c.in_ok-right.ensures.grows.1
    (subst (λ o. IfSome o (λ n. n < length c.decode.new.pool.trees)) c.in-Some.is c.in_ok-left.ensures.within))
    ∙ ap (option_map (tree_in c.decode.new.pool.trees)) (sym c.in-Some.is) ∙ c.in_ok-left.ensures.says in
    let r : Some (tree_in c.decode-2.new.pool.trees c.in-Some-right.right)
    ≡ decode (find_symbol c.args.context.now.theory.now (history_of c.args.pool.now c.args.context.now.past.now))
    c.args.equation.now.right =
    ap (option_map (tree_in c.decode-2.new.pool.trees)) (sym c.in-Some-right.is) ∙ c.in_ok-right.ensures.says
    ∙ ap (λ h. decode (find_symbol c.args.context.now.theory.now h) c.args.equation.now.right)
    (history_same c.args.context.now.theory.now c.args.pool.now c.decode.new.pool c.args.context.now.past.now c.requires
    c.in_ok-left.ensures.grows) in
    equation_unequal (find_symbol c.args.context.now.theory.now
    (history_of c.args.pool.now c.args.context.now.past.now)) c.args.equation.now
    (tree_in c.decode-2.new.pool.trees c.in-Some.left)
    (tree_in c.decode-2.new.pool.trees c.in-Some-right.right) c.ne.result
    l r (c.ne.ensures ∙ (λ i. not (bytes_eq (c.sort_of.ensures i) (c.sort_of-2.ensures i)))) c.if-ne.true

pub returns-clause-says : goal.returns-clause-says
returns-clause-says c =
    let l : Some (tree_in c.decode-2.new.pool.trees c.in-Some.left)
    ≡ decode (find_symbol c.args.context.now.theory.now (history_of c.args.pool.now c.args.context.now.past.now))
    c.args.equation.now.left =
    ap Some (front_at c.decode.new.pool.trees c.decode-2.new.pool.trees c.in-Some.left no_tree
    c.in_ok-right.ensures.grows.1
    (subst (λ o. IfSome o (λ n. n < length c.decode.new.pool.trees)) c.in-Some.is c.in_ok-left.ensures.within))
    ∙ ap (option_map (tree_in c.decode.new.pool.trees)) (sym c.in-Some.is) ∙ c.in_ok-left.ensures.says in
    let r : Some (tree_in c.decode-2.new.pool.trees c.in-Some-right.right)
    ≡ decode (find_symbol c.args.context.now.theory.now (history_of c.args.pool.now c.args.context.now.past.now))
    c.args.equation.now.right =
    ap (option_map (tree_in c.decode-2.new.pool.trees)) (sym c.in-Some-right.is) ∙ c.in_ok-right.ensures.says
    ∙ ap (λ h. decode (find_symbol c.args.context.now.theory.now h) c.args.equation.now.right)
    (history_same c.args.context.now.theory.now c.args.pool.now c.decode.new.pool c.args.context.now.past.now c.requires
    c.in_ok-left.ensures.grows) in
    equation_some (find_symbol c.args.context.now.theory.now (history_of c.args.pool.now c.args.context.now.past.now))
    c.args.equation.now
    (tree_in c.decode-2.new.pool.trees c.in-Some.left)
    (tree_in c.decode-2.new.pool.trees c.in-Some-right.right) c.ne.result
    l r (c.ne.ensures ∙ (λ i. not (bytes_eq (c.sort_of.ensures i) (c.sort_of-2.ensures i)))) c.if-ne.false
