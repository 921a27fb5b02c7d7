use Rattle.std.proofs.Common.{sym, ◌∙◌, ap}
use Rattle.std.proofs.lemmas.Bool.Decides.{Decides-eqb}
use Rattle.larch_store.specs.Numbered.{number_of, term_of}
use Rattle.larch_store.proofs.store.Store.same.Goals as goal

pub returns : goal.returns
returns c =
    let l = c.args.left.now in
    let r = c.args.right.now in
    let d = Decides-eqb c.number.result c.number-2.result in (
      λ t. ap term_of (c.terms_have_numbers.ensures.numbers l r c.requires.left c.requires.right
          (sym c.number.ensures ∙ d.0 t ∙ c.number-2.ensures)),
      λ e. d.1 (c.number.ensures ∙ ap number_of
          (c.terms_have_numbers.ensures.terms l r c.requires.left c.requires.right e) ∙ sym c.number-2.ensures),
    )
