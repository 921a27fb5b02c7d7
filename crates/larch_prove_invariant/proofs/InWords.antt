-- What is held of levels is in words.
use Rattle.std.specs.Prelude.{◌≡◌, ℕ, List, [], ◌∷◌, map, All, Contains, Option, None, Some, refl}
use Rattle.std.proofs.Common.{subst, sym}
use Rattle.std.proofs.lemmas.List.Elements.{All-cons, All-contains, All-nil}
use Rattle.larch_base.proofs.Lists.{all_from}
use Rattle.larch_base.proofs.Members.{contains_later, contains_map, contains_right}
use Rattle.larch_term.specs.Operator.{PlainOperator}
use Rattle.larch_term.specs.declared.statement.Statement.{Statement}
use Rattle.larch_term.specs.declared.statement.Theory.{Theory}
use Rattle.larch_derive.specs.Words.{AreWordedOperators, IsWordedStatement, IsWordedTheory}
use Rattle.larch_derive.specs.declared.builder.Builder.{Builder}
use Rattle.larch_derive.specs.declared.open_box.OpenBox.{OpenBox}
use Rattle.larch_derive.proofs.Growth.{known_left, known_right}
use Rattle.larch_derive.proofs.Words.{known_worded, theory_worded}
use Rattle.larch_methods.specs.DeriveBoxesBoxes.{MaySuppose}
use Rattle.larch_methods.specs.RewriteMeaningSides.{Sides}
use Rattle.larch_methods.specs.ProveMeaningFacts.{Fact}
use Rattle.larch_methods.specs.ProveMeaningLevels.{Level, Proof}
use Rattle.larch_methods.specs.ProvePlansPlanning.{equate}
use Rattle.larch_methods.specs.Opening.{MayBegin}
use Rattle.larch_prove_invariant.specs.Book.{Done, Kept, Running, levels_of}
use Rattle.larch_prove_invariant.specs.Holding.{HasFacts, Holds, HoldsLevels, HoldsProof, Runs, theory_for}
use Rattle.larch_prove_invariant.specs.InWords.{AreWordedSides, IsInWords, IsWordedFact, IsWordedLevel, IsWordedProof}
use Rattle.larch_prove_invariant.proofs.Begin.{subgoals_may_begin}
use Rattle.larch_prove_invariant.proofs.Held.{boxes_held, current_said, holding_stands, none_waits, running_is}
use Rattle.larch_prove_invariant.proofs.PlanWords.{IsWordedSubgoal, planned_worded}

-- facts that lines say
facts_worded : (b : Builder) (facts : List Fact) (lines : List ℕ) → HasFacts b facts lines → All IsWordedFact facts
facts_worded b [] [] h = All-nil IsWordedFact
facts_worded b [] (n ∷ ns) h = absurd h
facts_worded b (f ∷ fs) [] h = absurd h
facts_worded b (f ∷ fs) (n ∷ ns) h =
    All-cons IsWordedFact f fs (
      known_worded b f.sides.left (known_left b n f.sides.left f.sides.right h.0),
      known_worded b f.sides.right (known_right b n f.sides.left f.sides.right h.0),
    ) (facts_worded b fs ns h.1)

-- what may be supposed
supposed_worded : (b : Builder) (x : OpenBox) (s : Statement) → MaySuppose b x s → IsWordedStatement s
unfolding MaySuppose
supposed_worded b x s (st, h) = h.words

hypotheses_worded : (b : Builder) (x : OpenBox) (es : List Sides) → All (MaySuppose b x) (map equate es)
    → All AreWordedSides es
hypotheses_worded b x es h =
    all_from AreWordedSides es (λ e c. supposed_worded b x (equate e)
    (All-contains (MaySuppose b x) (map equate es) (equate e) h (contains_map equate es e c)))

-- the subgoals that are still to be opened
remaining_worded : (t : Theory) (s : Statement) (b : Builder) (k : Kept) (ks : List Kept) → Holds t s b (k ∷ ks)
    → (o : Option Running) → k.book.running ≡ o → All IsInWords k.level.remaining
remaining_worded t s b k ks (a, (i, (w, h))) None e =
    subst (All IsInWords) (sym (none_waits h.outside b k e h.running)) (All-nil IsInWords)
remaining_worded t s b k ks (a, (i, (w, h))) (Some r) e =
    let u : Runs h.outside b k.level r = running_is h.outside b k r e h.running in
    let words = planned_worded h.outside b k.level.goal r u.planned in
    let begins = subgoals_may_begin t s b k ks r (a, (i, (w, h))) e in
    all_from IsInWords k.level.remaining (λ g c.
    let there : Contains r.plan.subgoals g =
    subst (λ gs. Contains gs g) (sym u.order) (contains_right (map (λ (d : Done). d.subgoal) r.done)
    (r.now ∷ k.level.remaining) g (contains_later r.now g k.level.remaining c)) in
    let own = All-contains IsWordedSubgoal r.plan.subgoals g words there in
    let may = All-contains (MayBegin b) r.plan.subgoals g begins there in
    record {
      constants = own.constants;
      hypotheses = hypotheses_worded b (record { number = 0; constants = g.constants }) g.hypotheses (may.supposed 0);
      goal = own.goal;
    })

level_worded : (t : Theory) (s : Statement) (b : Builder) (k : Kept) (ks : List Kept) → Holds t s b (k ∷ ks)
    → IsWordedLevel k.level
level_worded t s b k ks h =
    let said = current_said t s b k ks h in
    record {
      facts = facts_worded b k.level.facts.rules k.book.lines said.facts;
      goal = known_worded b k.level.goal (known_right b k.book.way k.book.first k.level.goal said.way);
      remaining = remaining_worded t s b k ks h k.book.running refl;
    }

levels_worded : (t : Theory) (s : Statement) (b : Builder) (ks : List Kept) → Holds t s b ks
    → All IsWordedLevel (levels_of ks)
levels_worded t s b [] h = All-nil IsWordedLevel
levels_worded t s b (k ∷ ks) (a, (i, (w, h))) =
    All-cons IsWordedLevel k.level (levels_of ks) (level_worded t s b k ks (a, (i, (w, h)))) (levels_worded t s a ks i)

pub held_worded : (t : Theory) (s : Statement) (b : Builder) (cs : List PlainOperator) (levels : List Level)
    (ks : List Kept) → HoldsLevels t s b cs levels ks → All IsWordedLevel levels × AreWordedOperators cs
held_worded t s b cs levels ks h =
    (subst (All IsWordedLevel) h.levels_are (levels_worded t s b ks h.held), h.constants.words)

pub proof_worded : (s : Statement) (b : Builder) (p : Proof) (ks : List Kept) → HoldsProof s b p ks → IsWordedProof p
proof_worded s b p ks h =
    let t = theory_for p in
    let w = held_worded t s b p.constants (p.current ∷ p.below) ks h.levels in
    record {
      theory = subst IsWordedTheory (boxes_held t s b ks h.levels.held).0
          (theory_worded b (holding_stands t s b ks h.levels.held));
      constants = w.1;
      levels = w.0;
    }
