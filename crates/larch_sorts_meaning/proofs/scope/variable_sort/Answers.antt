use Rattle.std.proofs.Common.{◌≡◌, ◌∙◌, ◌==◌, true, false, length, subst, ap, sym}
use Rattle.larch_sorts_meaning.proofs.Unread.{no_variable}
use Rattle.larch_sorts_meaning.proofs.scope.variable_sort.Goals as goal

pub returns-then-not-is_empty : goal.returns-then-not-is_empty
returns-then-not-is_empty c =
    no_variable c.args.scope.now c.args.name.now c.args.arguments.now
    (λ e. let f : (length c.as_slice.result.now == 0) ≡ false = sym c.is_empty.ensures ∙ c.if-not-is_empty.true in
    let g : length c.as_slice.result.now ≡ 0 = ap length c.as_slice.ensures ∙ e in
    let h : true ≡ false = subst (λ n. (n == 0) ≡ false) g f in cc)
