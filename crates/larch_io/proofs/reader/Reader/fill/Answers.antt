use Rattle.std.proofs.Common.{◌≡◌, rules, false, sym, ap, ◌∙◌, refl, eqb-true}
use Rattle.larch_io.specs.Reader.{Taken}
use Rattle.larch_io.proofs.Front.{takes_read, front_kept}
use Rattle.larch_io.proofs.reader.Reader.fill.Goals as goal

pub returns-clause-taken : goal.returns-clause-taken
returns-clause-taken g c =
    let opened = sym (c.self-2.view_is ∙ c.compact.ensures) in
    let early : c.args.self.now.ended ≡ false =
    sym (ap (λ (reader : Taken). reader.ended) c.self.view_is) ∙ c.if-self.false in
    takes_read c.args.self.now _ _ _ c.self-2.inside.start c.self-2.inside.bytes.items c.append_piece.new.bytes.items
    (ap (λ (reader : Taken). reader.kept) opened) refl
    (search rules) c.in_ok-count.ensures.front c.in_ok-count.ensures.consumed early
    (λ none. c.in_ok-count.ensures.end (eqb-true _ _ none)) (sym (ap (λ (reader : Taken). reader.count) opened))

pub returns-clause-front : goal.returns-clause-front
returns-clause-front g c =
    let opened = sym (c.self-2.view_is ∙ c.compact.ensures) in
    front_kept c.self-2.inside.start _ c.self-2.inside.bytes.items c.append_piece.new.bytes.items
    (ap (λ (reader : Taken). reader.kept) opened) (search rules) c.in_ok-count.ensures.front
