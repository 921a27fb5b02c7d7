use Rattle.std.proofs.Common.{◌≡◌, ◌+◌, ◌<◌, ◌≤◌, ◌^◌, ◌++◌, ◌∷◌, [], List, drop, length, get_or, sym, subst, ◌∙◌, ap}
use Rattle.std.proofs.Common.{arith}
use Rattle.std.proofs.lemmas.List.{drop_all, drop_more, length-append, length-map}
use Rattle.larch_certificate.specs.declared.line.Line.{Line}
use Rattle.larch_certificate_text.specs.CertificateText.{Writable}
use Rattle.larch_verify_meaning.specs.Acceptance.{Accepts}
use Rattle.larch_verify_meaning.specs.LastLine.{EndsWithoutStatedClause}
use Rattle.larch_derive_join.specs.Joined.{join_parts, joined_from, joined_line, joined_lines, lemma_of}
use Rattle.larch_derive_join.proofs.Accepted.{joined_accepted, joined_ends}
use Rattle.larch_derive_join.proofs.Lengths.{joined_length}
use Rattle.larch_derive_join.proofs.Writable.{joined_writable}
use Rattle.larch_derive_join.proofs.join.inline.Goals as goal

pub loop-part-preserved : goal.loop-part-preserved
loop-part-preserved c =
    let lines = c.loop-part.lines in
    let lemmas = c.loop-part.lemmas.items in
    let parts = c.args.parts.now in
    let p = c.part-item.result in
    let i = c.loop-part.part-index in
    let same : c.as_slice-part-items.result.now ≡ parts = c.as_slice-part-items.ensures in
    let further = drop (i + 1) parts in
    let more : List Line = joined_lines (length lines) lemmas p in
    let pushed : c.push_part.new.lines ≡ lines ++ more =
    c.in_ok-push_part.ensures ∙ ap (λ ys. lines ++ joined_lines (length lines) ys p) c.as_slice.ensures.value in
    let number : c.line_count.result ≡ length lines + length p.certificate =
    c.line_count.ensures ∙ ap length pushed ∙ length-append lines more
    ∙ ap (λ n. length lines + n) (length-map p.certificate (joined_line (length lines) lemmas p)) in
    let items : c.push.new.self.items ≡ lemmas ++ lemma_of (length lines) p ∷ [] =
    c.in_ok-push.ensures.items ∙ ap (λ y. lemmas ++ y ∷ []) (c.lemma_of.ensures (length lines) number) in
    let is : p ≡ get_or parts i p = c.part-item.is ∙ ap (λ ps. get_or ps i p) same in
    let lt : i < length parts = subst (λ ps. i < length ps) same c.loop-part-test.true in
    let rest : p ∷ further ≡ drop i parts = ap (λ q. q ∷ further) is ∙ sym (drop_more parts i p lt) in
    record {
      lines =
          ap (λ ls. joined_from ls c.push.new.self.items further) pushed
          ∙ ap (λ ys. joined_from (lines ++ more) ys further) items ∙ ap (joined_from lines lemmas) rest
          ∙ c.loop-part.invariant.lines;
      fits = rw (sym c.line_count.ensures) (omega arith);
    }

pub returns : goal.returns
returns c =
    let parts = c.args.parts.now in
    let i = c.loop-part.part-index in
    let joined : c.loop-part.lines ≡ join_parts parts =
    ap (joined_from c.loop-part.lines c.loop-part.lemmas.items)
    (sym (drop_all i parts (subst (λ ps. length ps ≤ i) c.as_slice-part-items.ensures c.loop-part-test.false)))
    ∙ c.loop-part.invariant.lines in
    let fits : length (join_parts parts) < 2 ^ 64 =
    subst (λ ls. length ls < 2 ^ 64) joined c.loop-part.invariant.fits in
    record {
      lines = joined;
      accepted = λ whole last d. subst (Accepts whole last) (sym joined) (joined_accepted whole parts last d fits);
      ends = λ whole last d. subst (EndsWithoutStatedClause whole) (sym joined) (joined_ends whole parts last d fits);
      writable = λ w. subst Writable (sym joined) (joined_writable parts w fits);
      count = ap length joined ∙ joined_length parts;
    }
