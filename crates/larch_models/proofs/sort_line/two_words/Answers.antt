use Rattle.larch_models.proofs.SortWords.{third_word}
use Rattle.larch_models.proofs.sort_line.two_words.Goals as goal

pub returns-in-Some-clause-none : goal.returns-in-Some-clause-none
returns-in-Some-clause-none c known vs word =
    third_word c.args.text.now c.in_ok-first.first.now c.in_ok-first.second.now _ _ known vs word
    c.in_ok-first.ensures.some c.in-Some.ensures.some
