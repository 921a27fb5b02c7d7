use Rattle.std.proofs.Common.{◌≡◌, sym, ◌∙◌, ap}
use Rattle.std.specs.Option.{option_map, option_and_then}
use Rattle.larch_base.specs.ByNumber.{numbered}
use Rattle.larch_verify_meaning.specs.Context.{find_open}
use Rattle.larch_verify_history.specs.Past.{IsEquated, box_in, equated_in, history_of}
use Rattle.larch_verify_rules.proofs.Hypotheses.{numbered_map, numbered_all, hypothesis}
use Rattle.larch_verify_rules.proofs.hyp.judge_hyp.Goals as goal

pub returns-in_default-clause-says : goal.returns-in_default-clause-says
returns-in_default-clause-says c p =
    ap (option_and_then (λ box. numbered box.hypotheses c.args.number)) (c.in_default.ensures.known p)

pub returns-clause-says : goal.returns-clause-says
returns-clause-says c p =
    let e : c.copied.result ≡ numbered c.in-Some.known.now.hypotheses c.args.number =
    c.copied.ensures ∙ c.numbered.ensures ∙ ap (λ es. numbered es c.args.number) c.as_slice.ensures in
    hypothesis (find_open (history_of p c.args.past.now) c.args.of_box) (box_in p c.in-Some.known.now) c.args.number
    (option_map (equated_in p) c.copied.result) (c.in-Some.ensures.known p)
    (ap (option_map (equated_in p)) e ∙ sym (numbered_map (equated_in p) c.in-Some.known.now.hypotheses c.args.number))

pub returns-clause-within : goal.returns-clause-within
returns-clause-within c p h =
    numbered_all (IsEquated p) c.in-Some.known.now.hypotheses c.args.number c.copied.result
    (c.in-Some.ensures.within p h)
    (c.copied.ensures ∙ c.numbered.ensures ∙ ap (λ es. numbered es c.args.number) c.as_slice.ensures)
