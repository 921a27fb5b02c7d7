use Rattle.std.proofs.Common.{◌≡◌, ◌+◌, ◌++◌, length, take, drop, sym, ap, ◌∙◌, add-zero, length-take-le}
use Rattle.std.proofs.Common.{take-append-drop}
use Rattle.larch_io.proofs.Front.{takes_kept}
use Rattle.larch_io.proofs.take.take_exact.Goals as goal

pub returns-clause-bytes : goal.returns-clause-bytes
returns-clause-bytes g c =
    let kept = c.gather.new.reader.kept in
    let count = c.args.count in
    let given : c.from_vec.result ≡ take count kept = c.from_vec.ensures ∙ c.in_ok-bytes.ensures.ok in
    let rest : c.take_front.new.self.kept ≡ drop count kept =
    c.in_ok-bytes.ensures.rest ∙ ap (λ n. drop n kept) (add-zero count) in
    let long : length (take count kept) ≡ count = length-take-le count kept c.in_ok-gather.ensures.kept in
    takes_kept _ c.gather.new.reader _ _ _ _ c.gather.ensures.taken
    (sym (take-append-drop count kept) ∙ ap (λ front. front ++ drop count kept) (sym given)
    ∙ ap (λ behind. c.from_vec.result ++ behind) (sym rest))
    (c.in_ok-bytes.ensures.counted
    ∙ ap (λ n. c.gather.new.reader.count + n) (add-zero count ∙ sym (ap length given ∙ long)))
    c.take_front.ensures.ended
