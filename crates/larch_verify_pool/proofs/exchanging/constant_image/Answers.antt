use Rattle.std.proofs.Common.{◌≡◌, ◌+◌, ◌-◌, slice_get, sym, ◌∙◌, ap, arith}
use Rattle.larch_term.specs.Operator.{boxed}
use Rattle.larch_verify_pool.specs.Exchanging.{constant_image}
use Rattle.larch_verify_pool.specs.Pooled.{name_of}
use Rattle.larch_verify_pool.proofs.Constants.{constant_plain, constant_at}
use Rattle.larch_verify_pool.proofs.exchanging.constant_image.Goals as goal

pub returns-in-Plain : goal.returns-in-Plain
returns-in-Plain c =
    sym (ap (λ n. constant_image c.args.of_box c.args.first c.args.images.now (name_of n)) c.in-Plain.is
    ∙ constant_plain c.args.of_box c.args.first c.args.images.now c.in-Plain.field-0)

pub returns-else-constant-first : goal.returns-else-constant-first
returns-else-constant-first c =
    let b : c.in-Boxed.other ≡ c.args.of_box = omega (arith, c.if-other-of_box.false) in
    let k : c.in-Boxed.constant ≡ c.args.first + (c.in-Boxed.constant - c.args.first) =
    omega (arith, c.if-constant-first.false) in
    let got : c.image_at.result ≡ slice_get c.args.images.now (c.in-Boxed.constant - c.args.first) =
    c.image_at.ensures in
    got
    ∙ sym (ap (λ n. constant_image c.args.of_box c.args.first c.args.images.now (name_of n)) c.in-Boxed.is
    ∙ ap (λ o. constant_image c.args.of_box c.args.first c.args.images.now (boxed o c.in-Boxed.constant)) b
    ∙ ap (λ l. constant_image c.args.of_box c.args.first c.args.images.now (boxed c.args.of_box l)) k
    ∙ constant_at c.args.of_box c.args.first c.args.images.now (c.in-Boxed.constant - c.args.first))
