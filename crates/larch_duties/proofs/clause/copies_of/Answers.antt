use Rattle.std.proofs.Common.{◌∙◌, ◌∷◌, ◌++◌, ◌+◌, ap, sym, map}
use Rattle.std.proofs.lemmas.List.{append-nil, drop_all}
use Rattle.larch_duties_meaning.specs.Conversions.{bytes_of, copies}
use Rattle.larch_duties.proofs.Copying.{next_copy, word_found}
use Rattle.larch_duties.proofs.clause.copies_of.Goals as goal

pub loop-i-init : goal.loop-i-init
loop-i-init c = (
  map (λ f. bytes_of f.name) c.args.operators.now,
  c.in_ok-taken.ensures,
  ap (λ cs. cs ++ copies 1 (map (λ f. bytes_of f.name) c.args.operators.now) c.args.converted.now) c.new-copies.ensures,
)

pub loop-i-preserved : goal.loop-i-preserved
loop-i-preserved c = (
  c.in_ok-word.word ∷ c.loop-i.invariant.0,
  word_found c.loop-i.taken.keys c.take_word.new.names.keys c.loop-i.invariant.0 c.in_ok-word.word c.loop-i.invariant.1
      c.in_ok-take_word.ensures,
  next_copy c.loop-i.i c.loop-i.invariant.0 c.loop-i.copies c.push.new.self
      (copies 1 (map (λ f. bytes_of f.name) c.args.operators.now) c.args.converted.now)
      c.args.converted.now c.index-converted-i.result c.in_ok-operator.operator c.in_ok-word.word c.loop-i-test.true
      (sym c.index-converted-i.is)
      c.in_ok-operator.ensures (c.in_ok-word.ensures c.loop-i.invariant.0 c.loop-i.invariant.1) c.in_ok-push.ensures.ok
      c.loop-i.invariant.2,
)

pub returns : goal.returns
returns c =
    sym (append-nil c.loop-i.copies)
    ∙ sym (ap (λ fs. c.loop-i.copies ++ copies (c.loop-i.i + 1) c.loop-i.invariant.0 fs)
    (drop_all c.loop-i.i c.args.converted.now c.loop-i-test.false))
    ∙ c.loop-i.invariant.2
