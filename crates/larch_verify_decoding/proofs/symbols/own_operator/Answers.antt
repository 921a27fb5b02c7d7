use Rattle.std.proofs.Common.{◌≡◌, slice_get, sym, ◌∙◌, ap}
use Rattle.std.specs.Option.{option_and_then}
use Rattle.larch_base.specs.ByNumber.{numbered}
use Rattle.larch_verify_decoding.proofs.Owned.{own_number_within, own_numbered}
use Rattle.larch_verify_decoding.proofs.symbols.own_operator.Goals as goal

pub returns-clause-operator : goal.returns-clause-operator
returns-clause-operator c =
    let e : c.copied.result ≡ numbered c.args.context.now.past.now.own.items c.args.number =
    c.copied.ensures ∙ c.numbered.ensures ∙ ap (λ ks. numbered ks c.args.number) c.deref.ensures.value in
    ap (option_and_then (slice_get c.args.pool.now.operators)) e
    ∙ own_numbered c.args.pool.now.operators c.args.context.now.past.now.own.items
    c.args.context.now.theory.now.operators c.args.number c.requires.own

pub returns-clause-within : goal.returns-clause-within
returns-clause-within c =
    own_number_within c.args.pool.now.operators c.args.context.now.past.now.own.items
    c.args.context.now.theory.now.operators c.args.number c.copied.result c.requires.own
    (sym (c.copied.ensures ∙ c.numbered.ensures ∙ ap (λ ks. numbered ks c.args.number) c.deref.ensures.value))
