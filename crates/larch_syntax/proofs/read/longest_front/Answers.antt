use Rattle.std.proofs.Common.{◌≡◌, ◌+◌, Ok, drop, get_or, ◌∙◌, ap, rules}
use Rattle.std.proofs.lemmas.Result.{err_from_is_err_and}
use Rattle.larch_syntax.specs.Read.{longest}
use Rattle.larch_syntax.proofs.Fronts.{cut_at, goes_on, refused, stops}
use Rattle.larch_syntax.proofs.read.longest_front.Goals as goal

pub returns-in_err-more : goal.returns-in_err-more
returns-in_err-more c =
    let here : get_or c.args.tokens.now c.loop-taken.taken c.index-tokens-taken.result ≡ c.index-tokens-taken.result =
    search rules in
    let left = cut_at c.args.tokens.now c.loop-taken.taken c.index-tokens-taken.result c.loop-taken-test.true here in
    let p = err_from_is_err_and c.from_residual.result c.from_residual.ensures.1 in
    rw (p.1, p.2)
    (refused c.args.lists c.loop-taken.heads c.loop-taken.taken c.loop-taken.state c.in_err-more.field-0.0
    c.index-tokens-taken.result (drop (c.loop-taken.taken + 1) c.args.tokens.now)
    (drop c.loop-taken.taken c.args.tokens.now)
    (longest c.args.lists 0 0 c.args.state c.args.tokens.now) c.in_err-more.ensures left c.loop-taken.invariant)

pub returns-in-Stops : goal.returns-in-Stops
returns-in-Stops c =
    let here : get_or c.args.tokens.now c.loop-taken.taken c.index-tokens-taken.result ≡ c.index-tokens-taken.result =
    search rules in
    let left = cut_at c.args.tokens.now c.loop-taken.taken c.index-tokens-taken.result c.loop-taken-test.true here in
    stops c.args.lists c.loop-taken.heads c.loop-taken.taken c.loop-taken.state c.in-Stops.whole
    c.index-tokens-taken.result (drop (c.loop-taken.taken + 1) c.args.tokens.now)
    (drop c.loop-taken.taken c.args.tokens.now) (longest c.args.lists 0 0 c.args.state c.args.tokens.now)
    (c.in_ok-more.ensures ∙ ap Ok c.in-Stops.is) left c.loop-taken.invariant

pub loop-taken-preserved : goal.loop-taken-preserved
loop-taken-preserved c =
    let here : get_or c.args.tokens.now c.loop-taken.taken c.index-tokens-taken.result ≡ c.index-tokens-taken.result =
    search rules in
    let left = cut_at c.args.tokens.now c.loop-taken.taken c.index-tokens-taken.result c.loop-taken-test.true here in
    goes_on c.args.lists c.loop-taken.heads c.in-On.more c.loop-taken.taken c.loop-taken.state c.in-On.after
    c.index-tokens-taken.result (drop (c.loop-taken.taken + 1) c.args.tokens.now)
    (drop c.loop-taken.taken c.args.tokens.now) (longest c.args.lists 0 0 c.args.state c.args.tokens.now)
    (c.in_ok-more.ensures ∙ ap Ok c.in-On.is) left c.loop-taken.invariant
