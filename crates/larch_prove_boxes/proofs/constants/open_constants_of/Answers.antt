use Rattle.std.proofs.Common.{subst, ◌∙◌}
use Rattle.larch_prove_invariant.specs.Unopened.{unopened_in}
use Rattle.larch_prove_boxes.specs.Extras.{MakeEach, bare_boxes}
use Rattle.larch_prove_boxes.proofs.Extras.{OpensEach, each_open, if_both, known_through, term_known, term_open}
use Rattle.larch_prove_boxes.proofs.constants.open_constants_of.Goals as goal

pub returns-clause-constants : goal.returns-clause-constants
returns-clause-constants c =
    let fs = c.as_slice.result.now in
    let e = c.as_slice.ensures ∙ c.in_ok-constants.ensures in
    if_both (λ xs. MakeEach xs fs) (λ xs. MakeEach xs fs) _ c.open_each.result (λ xs m n. subst (MakeEach xs) e m)
    c.open_each.ensures.constants c.open_each.ensures.constants

pub returns-clause-holds : goal.returns-clause-holds
returns-clause-holds c =
    let fs = c.as_slice.result.now in
    let a = c.args.builder.now in
    let b = c.open_each.new.builder in
    let e = c.as_slice.ensures ∙ c.in_ok-constants.ensures in
    if_both (λ xs. MakeEach xs fs) (OpensEach a b fs) _ c.open_each.result
    (λ xs m o t s levels k ks idle now h.
    term_open t s a b c.args.block.now c.args.opened.now levels k ks c.args.term.now fs xs e o idle now h)
    c.open_each.ensures.constants c.open_each.ensures.holds

pub returns-clause-opened : goal.returns-clause-opened
returns-clause-opened c =
    let fs = c.as_slice.result.now in
    let a = c.args.builder.now in
    let b = c.open_each.new.builder in
    let e = c.as_slice.ensures ∙ c.in_ok-constants.ensures in
    if_both (λ xs. MakeEach xs fs) (OpensEach a b fs) _ c.open_each.result
    (λ xs m o t s levels k ks idle now h.
    let there = term_open t s a b c.args.block.now c.args.opened.now levels k ks c.args.term.now fs xs e o idle now h in
    each_open a b xs (unopened_in c.args.block.now c.args.opened.now c.args.term.now) c.args.opened.now
    (subst (MakeEach xs) e m) now there.0)
    c.open_each.ensures.constants c.open_each.ensures.holds

pub returns-clause-known : goal.returns-clause-known
returns-clause-known c =
    let fs = c.as_slice.result.now in
    let a = c.args.builder.now in
    let b = c.open_each.new.builder in
    let e = c.as_slice.ensures ∙ c.in_ok-constants.ensures in
    if_both (λ xs. MakeEach xs fs) (OpensEach a b fs) _ c.open_each.result
    (λ xs m o t s levels k ks idle now h over words.
    let there = term_open t s a b c.args.block.now c.args.opened.now levels k ks c.args.term.now fs xs e o idle now h in
    term_known t s a b c.args.block.now c.args.opened.now levels k ks c.args.term.now xs (subst (MakeEach xs) e m) now
    there.0 there.1 over words)
    c.open_each.ensures.constants c.open_each.ensures.holds

pub returns-clause-stays : goal.returns-clause-stays
returns-clause-stays c =
    let fs = c.as_slice.result.now in
    let a = c.args.builder.now in
    let b = c.open_each.new.builder in
    let e = c.as_slice.ensures ∙ c.in_ok-constants.ensures in
    if_both (λ xs. MakeEach xs fs) (OpensEach a b fs) _ c.open_each.result
    (λ xs m o t s levels k ks u idle now h known.
    let there = term_open t s a b c.args.block.now c.args.opened.now levels k ks c.args.term.now fs xs e o idle now h in
    known_through a b (bare_boxes xs) u there.0 known)
    c.open_each.ensures.constants c.open_each.ensures.holds
