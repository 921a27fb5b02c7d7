use Rattle.std.proofs.Common.{◌≡◌, ◌∷◌, [], false, None, ap, sym, subst, ◌∙◌}
use Rattle.larch_grammar.specs.Machine.{begin_term}
use Rattle.larch_grammar.specs.declared.machine.Frame.TheVariants.{InFields, InList}
use Rattle.larch_grammar.specs.declared.machine.Listing.TheVariants.{Bracketed}
use Rattle.larch_syntax_heads.specs.Outcome.{Settles, closes, outcome}
use Rattle.larch_syntax.proofs.Defaults.{bracket_open}
use Rattle.larch_syntax.proofs.begin.begin_bracket.Goals as goal

pub returns-else-closes : goal.returns-else-closes
returns-else-closes c =
    let is_open : closes c.args.bracket c.args.terminal ≡ false = sym c.closes.ensures ∙ c.if-closes.false in
    let inside : c.in-Ok.stack ≡ InFields ∷ c.args.stack = c.in-Ok.ensures in
    subst (Settles c.begin_first.result)
    (ap (λ taking. outcome taking None)
    (ap (λ k. begin_term c.args.terminal (InList (Bracketed c.args.bracket c.args.front c.args.pos) [] ∷ k)) inside
    ∙ sym (bracket_open c.args.bracket c.args.front c.args.pos c.args.stack c.args.terminal is_open)))
    c.begin_first.ensures
