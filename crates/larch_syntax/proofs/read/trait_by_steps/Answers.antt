use Rattle.std.proofs.Common.{◌≡◌, ◌∙◌, Ok, Err, None, ap, subst, sym}
use Rattle.std.specs.Prelude.{IfSome}
use Rattle.std.proofs.lemmas.Result.{err_from_is_err_and}
use Rattle.larch_base.specs.Answering.{Answers}
use Rattle.larch_grammar.specs.declared.machine.State.TheVariants.{Start}
use Rattle.larch_syntax.specs.Read.{longest}
use Rattle.larch_syntax.specs.Refusal.{cause}
use Rattle.larch_syntax.proofs.Fronts.{trait_at, trait_read, trait_refused}
use Rattle.larch_syntax.proofs.read.trait_by_steps.Goals as goal

pub returns-in_err-whole : goal.returns-in_err-whole
returns-in_err-whole c =
    let p = err_from_is_err_and c.from_residual.result c.from_residual.ensures.1 in
    let o = cause c.in_err-whole.field-0.0 in
    rw (p.1, p.2)
    (trait_refused c.args.lists c.args.tokens.now.end Start c.args.tokens.now.tokens c.in_err-whole.field-0.0
    (subst (λ ts. IfSome o (λ fault. longest c.args.lists 0 0 Start ts ≡ Err fault)) c.as_slice.ensures
    c.in_err-whole.ensures))

pub returns-in-Some : goal.returns-in-Some
returns-in-Some c =
    let found = c.in_ok-whole.field-0 in
    let e = subst (λ ts. longest c.args.lists 0 0 Start ts ≡ Ok found) c.as_slice.ensures c.in_ok-whole.ensures in
    trait_read c.args.lists c.args.tokens.now.end Start c.args.tokens.now.tokens found e
    ∙ ap (λ n. trait_at c.args.tokens.now.end n found.whole) c.in-Some.is

pub returns-in-None : goal.returns-in-None
returns-in-None c =
    let found = c.in_ok-whole.field-0 in
    let e = subst (λ ts. longest c.args.lists 0 0 Start ts ≡ Ok found) c.as_slice.ensures c.in_ok-whole.ensures in
    subst (Answers cause c.whole_trait.result)
    (ap (λ p. trait_at p None found.whole) c.end.ensures
    ∙ sym (trait_read c.args.lists c.args.tokens.now.end Start c.args.tokens.now.tokens found e
    ∙ ap (λ n. trait_at c.args.tokens.now.end n found.whole) c.in-None.is))
    c.whole_trait.ensures
