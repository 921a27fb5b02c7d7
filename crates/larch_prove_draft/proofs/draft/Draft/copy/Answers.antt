-- All that a proof goes by is the same in a copy.
use Rattle.std.proofs.Common.{ap, map, refl, ◌∙◌}
use Rattle.larch_prove_draft.proofs.Copies.{proof_copied}
use Rattle.larch_prove_draft.proofs.draft.Draft.copy.Goals as goal

pub returns : goal.returns
returns c t s store p w =
    proof_copied t s store c.args.self.now (record {
      builder = c.in_ok-builder.builder;
      current = c.in_ok-current.current;
      below = c.in_ok-below.below;
      is_proved = c.args.self.now.is_proved;
      checking = c.args.self.now.checking;
      waiting = c.in_ok-waiting.waiting;
      next_hypothesis = c.args.self.now.next_hypothesis;
      next_derived = c.args.self.now.next_derived;
    }) p c.in_ok-builder.ensures c.in_ok-current.ensures.same c.in_ok-current.ensures.kept c.in_ok-current.ensures.said
    (c.in_ok-below.ensures ∙ ap (map (λ l. l.value)) c.deref.ensures.value) refl refl
    (c.in_ok-waiting.ensures.items ∙ c.deref-2.ensures.value) refl refl w
