use Rattle.larch_rewrite_step.specs.Encoding.{AreEncodings, AreOfStore}
use Rattle.larch_derive.specs.Predicates.{Extends}
use Rattle.larch_store.specs.Numbered.{term_of}
use Rattle.larch_store.specs.Stored.{Grows}
use Rattle.larch_rewrite.specs.Kept.{IsFront}
use Rattle.larch_rewrite.specs.Level.{IsStored, Works}
use Rattle.larch_rewrite.specs.RuleSet.{sides_in}
use Rattle.larch_rewrite.specs.Ways.{MayBegin, Says}
use Rattle.larch_rewrite.proofs.machine.run.Given as goal

abbrev pub invariant-loop : goal.invariant-loop
invariant-loop l = record {
  stored : IsStored l.store l.kept l.pending.frames.items l.turn;
  grows : Grows l.fn.store l.store;
  front : IsFront l.fn.kept l.kept;
  works : Works (sides_in l.rules) (term_of l.term) l.budget l.kept l.pending.frames.items l.turn l.pending.means.left;
  extends : MayBegin l.fn.builder l.rules l.fn.kept (term_of l.term) → Extends l.fn.builder l.builder;
  says : MayBegin l.fn.builder l.rules l.fn.kept (term_of l.term)
      → Says l.builder l.rules l.kept l.pending.frames.items l.turn;
  belong : AreOfStore l.store l.pending.means.encodings;
  encodings : MayBegin l.fn.builder l.rules l.fn.kept (term_of l.term)
      → AreEncodings l.builder l.pending.means.encodings;
}
