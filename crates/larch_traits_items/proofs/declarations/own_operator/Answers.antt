use Rattle.std.proofs.Common.{if◌then◌else◌, Ok, Err, sym, ◌∙◌, ap}
use Rattle.larch_base.specs.declared.code.Code.TheVariants.{BuiltIn}
use Rattle.larch_term.specs.BuiltIn.{is_built_in}
use Rattle.larch_term.proofs.BuiltIns.{built_in_told}
use Rattle.larch_sorts.specs.SortsMeaningFaults.{fault}
use Rattle.larch_traits_items.specs.Declarations.{operator_of}
use Rattle.larch_traits_items.proofs.declarations.own_operator.Goals as goal

pub returns-then-is_built_in : goal.returns-then-is_built_in
returns-then-is_built_in c =
    let f = operator_of c.args.sig.now c.args.form.now in
    ap (λ b. if b then Err (fault BuiltIn c.args.form.now.pos) else Ok f)
    (ap is_built_in (sym c.in_ok-operator.ensures)
    ∙ sym (built_in_told c.in_ok-operator.operator c.is_built_in.result c.is_built_in.ensures)
    ∙ c.if-is_built_in.true)

pub returns : goal.returns
returns c =
    let f = operator_of c.args.sig.now c.args.form.now in
    ap (λ b. if b then Err (fault BuiltIn c.args.form.now.pos) else Ok f)
    (ap is_built_in (sym c.in_ok-operator.ensures)
    ∙ sym (built_in_told c.in_ok-operator.operator c.is_built_in.result c.is_built_in.ensures)
    ∙ c.if-is_built_in.false)
    ∙ ap Ok (sym c.in_ok-operator.ensures)
