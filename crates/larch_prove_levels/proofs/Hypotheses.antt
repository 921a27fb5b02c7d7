-- Hypotheses one after the other.
use Rattle.std.specs.Prelude.{◌≡◌, ℕ, ◌<◌, List, [], ◌∷◌, ◌++◌, Result, Ok, Err}
use Rattle.std.proofs.Common.{ap, sym, ◌∙◌}
use Rattle.std.proofs.lemmas.Bool.{lt-ltb}
use Rattle.std.proofs.lemmas.List.{append_assoc}
use Rattle.larch_base.specs.declared.code.Code.{Code}
use Rattle.larch_prove_boxes.specs.OrderPrecedenceRanked.{Ranked}
use Rattle.larch_prove_levels.specs.Supposing.{Supposed, TellsCode, with_hypotheses, with_hypothesis}
use Rattle.larch_prove_levels.proofs.Telling.{tells_first, tells_same}
use Rattle.larch_prove_boxes.specs.ProveMeaningFacts.{Facts, Manner, add, add_waiting, max_fact_number, most_taken}
use Rattle.larch_prove_adding.specs.RewriteRefusalRewriteRefusal.{RewriteRefusal}
use Rattle.larch_prove_adding.specs.RewriteMeaningSides.{Sides}
use Rattle.larch_prove_adding.specs.RewriteMeaningWork.{OverSize, within_size}
use Rattle.larch_base_meaning.specs.Steps.{after}

-- a number that no name may have is refused as too large
pub too_many : (manner : Manner) (e : Sides) (facts : Facts) (b : ℕ) → max_fact_number < manner.name.number
    → add manner e facts b ≡ OverSize
unfolding add
too_many manner e facts b l =
    ap (λ x. within_size x (add_waiting (most_taken b) manner 0 (e ∷ []) facts b))
    (lt-ltb max_fact_number manner.name.number l)

more_behind : (ranks : List Ranked) (limit : ℕ) (es ds : List Sides) (made : Supposed) (r : Result Supposed Code)
    → ((x : Supposed) → with_hypotheses ranks limit es x ≡ Ok made
    → with_hypotheses ranks limit (es ++ ds) x ≡ with_hypotheses ranks limit ds made)
    → after r (with_hypotheses ranks limit es) ≡ Ok made
    → after r (with_hypotheses ranks limit (es ++ ds)) ≡ with_hypotheses ranks limit ds made
more_behind ranks limit es ds made (Ok x) go h = go x h
more_behind ranks limit es ds made (Err code) go h = absurd (cc)

-- hypotheses behind others
pub with_more : (ranks : List Ranked) (limit : ℕ) (es ds : List Sides) (so made : Supposed)
    → with_hypotheses ranks limit es so ≡ Ok made
    → with_hypotheses ranks limit (es ++ ds) so ≡ with_hypotheses ranks limit ds made
with_more ranks limit [] ds so made e = ap (λ r. after r (with_hypotheses ranks limit ds)) e
with_more ranks limit (e ∷ es) ds so made h =
    more_behind ranks limit es ds made (with_hypothesis ranks limit e so)
    (λ x k. with_more ranks limit es ds x made k) h

-- one more
pub with_one_more : (ranks : List Ranked) (limit : ℕ) (es : List Sides) (e : Sides) (so made next : Supposed)
    → with_hypotheses ranks limit es so ≡ Ok made → with_hypothesis ranks limit e made ≡ Ok next
    → with_hypotheses ranks limit (es ++ e ∷ []) so ≡ Ok next
with_one_more ranks limit es e so made next h k =
    with_more ranks limit es (e ∷ []) so made h ∙ ap (λ r. after r (with_hypotheses ranks limit [])) k

-- what refuses one refuses all
pub one_refused : (ranks : List Ranked) (limit : ℕ) (es ds : List Sides) (e : Sides) (so made : Supposed)
    (r : RewriteRefusal) → with_hypotheses ranks limit es so ≡ Ok made
    → TellsCode (with_hypothesis ranks limit e made) r → TellsCode (with_hypotheses ranks limit (es ++ e ∷ ds) so) r
one_refused ranks limit es ds e so made r h k =
    tells_same _ _ r (with_more ranks limit es (e ∷ ds) so made h)
    (tells_first (with_hypothesis ranks limit e made) (with_hypotheses ranks limit ds) r k)

-- one more of things is taken, of which others are left
pub one_taken : {X : Type 0} (all so_far rest more : List X) (x : X) → all ≡ so_far ++ rest → rest ≡ x ∷ more
    → all ≡ (so_far ++ x ∷ []) ++ more
one_taken all so_far rest more x e d = e ∙ ap (λ ys. so_far ++ ys) d ∙ sym (append_assoc so_far (x ∷ []) more)
