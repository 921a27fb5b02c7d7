-- What a token does behind `implies` where the whole that ends before it is forgotten.
use Rattle.std.proofs.Common.{◌≡◌, true, false, cond, Option, Some, None, IfOk, Result, Ok, Err, List, [], ◌∷◌, refl}
use Rattle.std.proofs.Common.{sym, ap, ◌∙◌}
use Rattle.larch_raw.specs.RawTree.{RawTree}
use Rattle.larch_raw.specs.declared.declared.RawWord.{RawWord}
use Rattle.larch_raw.specs.declared.equation.RawTrait.{RawTrait}
use Rattle.larch_grammar.specs.Machine.{Taking, after_word, final, finish, hand, open_item, word_frames}
use Rattle.larch_grammar.specs.Terminal.{ends_reference}
use Rattle.larch_grammar.specs.Trees.{call_tree}
use Rattle.larch_grammar.specs.declared.machine.Frame.{Frame}
use Rattle.larch_grammar.specs.declared.machine.Frame.TheVariants.{InFields}
use Rattle.larch_grammar.specs.declared.machine.State.TheVariants.{AfterWord, BehindFirst}
use Rattle.larch_grammar.specs.declared.machine.Waiting.{Waiting}
use Rattle.larch_grammar.specs.declared.machine.Waiting.TheVariants.{Item}
use Rattle.larch_grammar.specs.declared.machine.Whole.{Whole}
use Rattle.larch_grammar.specs.declared.terminal.Terminal.{Terminal}
use Rattle.larch_syntax_heads.specs.Outcome.{Settles, hand_over, outcome, settle, step_state}
use Rattle.larch_syntax_heads.specs.declared.outcome.Outcome.{Outcome}
use Rattle.larch_syntax.specs.Implied.{without_whole}

forgotten : (taking : Taking) (whole : Option Whole)
    → settle (without_whole (outcome taking whole)) ≡ outcome taking None
forgotten None whole = refl
forgotten (Some taken) whole = refl

-- where no list of references goes on, what comes of a token is what the other reading says
goes_on : (t : Terminal) (taking : Taking) → ends_reference t ≡ false
    → outcome taking None ≡ outcome (cond (ends_reference t) None taking) None
goes_on t taking e = sym (ap (λ b. outcome (cond b None taking) None) e)

-- behind a word and its arguments
pub group_forgotten : (raw : RawTrait) (w : RawWord) (ts : List RawTree) (t : Terminal) (r : RawTree) (k l : List Frame)
    (waiting : Waiting) (found answer : Outcome)
    → ends_reference t ≡ false → waiting ≡ Item (open_item raw [] []) → k ≡ word_frames w waiting → l ≡ InFields ∷ k
    → r ≡ call_tree w ts → found ≡ hand_over r l t
    → answer ≡ without_whole found → settle answer ≡ step_state (BehindFirst raw w ts) t
group_forgotten raw w ts t r k l waiting found answer e item frames inside tree f a =
    let all : l ≡ InFields ∷ word_frames w (Item (open_item raw [] [])) =
    inside ∙ ap (λ x. InFields ∷ x) (frames ∙ ap (λ x. word_frames w x) item) in
    ap settle (a ∙ ap without_whole f) ∙ forgotten (hand true r l t) (finish r l)
    ∙ ap (λ x. outcome (hand true x l t) None) tree ∙ ap (λ x. outcome (hand true (call_tree w ts) x t) None) all
    ∙ goes_on t (hand true (call_tree w ts) (InFields ∷ word_frames w (Item (open_item raw [] []))) t) e

-- behind a word alone
pub word_forgotten : {E : Type 0} (raw : RawTrait) (w : RawWord) (t : Terminal) (k : List Frame) (waiting : Waiting)
    (found : Outcome) (result : Result Outcome E)
    → ends_reference t ≡ false → waiting ≡ Item (open_item raw [] []) → k ≡ word_frames w waiting
    → settle found ≡ step_state (AfterWord w k) t
    → IfOk result (λ answer. answer ≡ without_whole (settle found))
    → Settles result
    (outcome (cond (ends_reference t) None (after_word true w (word_frames w (Item (open_item raw [] []))) t)) None)
word_forgotten raw w t k waiting found (Err memory) e item frames f a = tt
word_forgotten raw w t k waiting found (Ok answer) e item frames f a =
    let all : k ≡ word_frames w (Item (open_item raw [] [])) = frames ∙ ap (λ x. word_frames w x) item in
    ap settle (a ∙ ap without_whole f) ∙ forgotten (after_word true w k t) (final (AfterWord w k))
    ∙ ap (λ x. outcome (after_word true w x t) None) all
    ∙ goes_on t (after_word true w (word_frames w (Item (open_item raw [] []))) t) e
