-- Name by name.
use Rattle.std.proofs.Common.{ap, sym, ◌∙◌}
use Rattle.larch_prove_settings.proofs.Named.{all_named, more_named, other_name, other_told, same_told}
use Rattle.larch_prove_settings.proofs.references.are_named.Goals as goal
use Rattle.larch_raw.specs.declared.declared.RawWord.{RawWord}

pub returns-then-ne : goal.returns-then-ne
returns-then-ne c =
    other_name c.args.sorts.now c.args.words.now c.loop-i.i c.index-sorts-i.result c.index-words-i.result
    c.loop-i-test.true c.if-sorts-words.false c.index-sorts-i.is c.index-words-i.is
    (λ q. other_told _ _ c.ne.result c.ne.ensures c.if-ne.true
    (q ∙ ap (λ (w : RawWord). w.name) c.index-words-i.is))

pub loop-i-preserved : goal.loop-i-preserved
loop-i-preserved c =
    more_named c.args.sorts.now c.args.words.now c.loop-i.i c.index-sorts-i.result c.index-words-i.result
    c.loop-i-test.true c.if-sorts-words.false c.index-sorts-i.is c.index-words-i.is
    (same_told _ _ c.ne.result c.ne.ensures c.if-ne.false ∙ sym (ap (λ (w : RawWord). w.name) c.index-words-i.is))
    c.loop-i.invariant

pub returns : goal.returns
returns c =
    all_named c.args.sorts.now c.args.words.now c.loop-i.i c.loop-i-test.false c.if-sorts-words.false
    c.loop-i.invariant
