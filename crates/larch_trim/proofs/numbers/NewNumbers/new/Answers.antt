use Rattle.std.proofs.Common.{◌≡◌, ◌<◌, ◌≤◌, ◌+◌, ◌++◌, ◌∷◌, ◌∙◌, [], suc, length, sym, ap, subst, arith}
use Rattle.larch_trim_meaning.specs.Trimmed.{new_number}
use Rattle.larch_trim.proofs.Keeping.{HasNumbers, count_on, count_same, longer, mark_is, numbers_found, numbers_more}
use Rattle.larch_trim.proofs.numbers.NewNumbers.new.Goals.{then-marked, else-marked}
use Rattle.larch_trim.proofs.numbers.NewNumbers.new.Goals as goal

pub loop-marked-preserved : goal.loop-marked-preserved
loop-marked-preserved c =
    let marks = c.args.marks.now in
    let i = c.loop-marked.marked-index in
    let numbers = c.loop-marked.numbers in
    let lt : i < length marks = c.loop-marked-test.true in
    let long = c.loop-marked.invariant.long in
    let fits = c.loop-marked.invariant.fits in
    let pushed : c.push.new.self ≡ numbers ++ c.if-marked.all ∷ [] = c.in_ok-push.ensures.ok in
    let all : c.if-marked.all ≡ new_number marks (i + 1) =
    elim c.if-marked.branch [
      | then-marked w ↦ count_on marks i c.loop-marked.all c.if-marked.all (mark_is marks i _ lt ∙ w.if-marked.true)
          w.all-is c.loop-marked.invariant.all
      | else-marked w ↦ count_same marks i c.loop-marked.all c.if-marked.all (mark_is marks i _ lt ∙ w.if-marked.false)
          w.all-is c.loop-marked.invariant.all
    ] in
    let fit : c.if-marked.all ≤ i + 1 =
    elim c.if-marked.branch [
      | then-marked w ↦ let more = w.all-is in omega (arith, more, fits)
      | else-marked w ↦ let same = w.all-is in omega (arith, same, fits)
    ] in
    let next : i + 1 ≡ suc (length numbers) = omega (arith, long) in
    record {
      long = ap length pushed ∙ longer numbers c.if-marked.all ∙ ap (λ n. n + 1) long;
      each = subst (HasNumbers marks) (sym pushed)
          (numbers_more marks numbers c.if-marked.all c.loop-marked.invariant.each (all ∙ ap (new_number marks) next));
      all = all;
      fits = fit;
    }

pub returns : goal.returns
returns c n =
    let marks = c.args.marks.now in
    let i = c.loop-marked.marked-index in
    let le : length marks ≤ i = c.loop-marked-test.false in
    let within : i ≤ length marks = c.loop-marked.auto.marked-index-end in
    let end : i ≡ length marks = omega (arith, le, within) in
    numbers_found marks c.loop-marked.numbers c.loop-marked.all c.loop-marked.invariant.each
    (c.loop-marked.invariant.long ∙ end) (c.loop-marked.invariant.all ∙ ap (new_number marks) end) n
