-- With and without symbols that are let in the machine steps the same, except at such a symbol.
use Rattle.std.proofs.Common.{◌≡◌, Bool, true, false, cond, Some, None, List, [], ◌∷◌, ap, ◌∙◌}
use Rattle.larch_lexer.specs.declared.token.Token.{Token}
use Rattle.larch_grammar_law.specs.Mark.{is_mixed}
use Rattle.larch_grammar_law.specs.declared.mark.Mark.{Mark}
use Rattle.larch_grammar_law.specs.declared.mark.Mark.TheVariants.{Chained}
use Rattle.larch_grammar_law.proofs.Walking.{none_some, some_equal}
use Rattle.larch_raw.specs.declared.declared.RawWord.{RawWord}
use Rattle.larch_raw.specs.declared.equation.RawEquation.{RawEquation}
use Rattle.larch_raw.specs.declared.equation.RawTrait.{RawTrait}
use Rattle.larch_raw.specs.declared.equation.RawVar.{RawVar}
use Rattle.larch_raw.specs.RawTree.{RawTree}
use Rattle.larch_grammar.specs.Terminal.{ends_reference, terminal_of}
use Rattle.larch_grammar.specs.Machine.{Taking, after_symbol, after_word, behind_first, first_word, hand, implied_word}
use Rattle.larch_grammar.specs.Machine.{step, step_at, word_behind, word_frames, open_item}
use Rattle.larch_grammar.specs.Trees.{call_tree, if_tree, chain_tree, postfix_tree, prefix_tree}
use Rattle.larch_grammar.specs.declared.terminal.Terminal.{Terminal}
use Rattle.larch_grammar.specs.declared.terminal.Terminal.TheVariants.{Word, Symbol, Connective, Equality, Colon, Dot}
use Rattle.larch_grammar.specs.declared.terminal.Terminal.TheVariants.{Open, OpenBracket, Generated, Partitioned}
use Rattle.larch_grammar.specs.declared.machine.Frame.{Frame}
use Rattle.larch_grammar.specs.declared.machine.Frame.TheVariants.{InFields, InStrays, Prefixed, InPostfixes, InInfixes}
use Rattle.larch_grammar.specs.declared.machine.Frame.TheVariants.{InEqualities, InConnectives, InElse}
use Rattle.larch_grammar.specs.declared.machine.State.{State}
use Rattle.larch_grammar.specs.declared.machine.State.TheVariants.{BehindFirst, FirstWord, ImpliedWord, WordBehind}
use Rattle.larch_grammar.specs.declared.machine.State.TheVariants.{AfterWord, AfterSymbol, Have}
use Rattle.larch_grammar.specs.declared.machine.Waiting.TheVariants.{Item}

-- two steps, with and without the symbols that are let in: each is the other, where what the first counts isn't MIXED
abbrev Alike : Taking → Taking → Type 0
Alike a b =
    ((m : Mark) (k : State) → a ≡ Some (m, k) → is_mixed m ≡ false → b ≡ Some (m, k))
    × ((m : Mark) (k : State) → b ≡ Some (m, k) → a ≡ Some (m, k))

same : (a : Taking) → Alike a a
same a = (λ m k e h. e, λ m k e. e)

let_in : (n : State) → Alike (Some (Chained true, n)) None
let_in n =
    (λ m k e h. let q : true ≡ false = ap (λ x. is_mixed x.0) (some_equal e) ∙ h in cc, λ m k e. absurd (none_some e))

hand_alike : (k : List Frame) (r : RawTree) (t : Terminal) → Alike (hand true r k t) (hand false r k t)
hand_alike [] r t = same None
hand_alike (InFields ∷ k) r (Dot p) = same _
hand_alike (InFields ∷ k) r (Colon p) = same _
hand_alike (InFields ∷ k) r (OpenBracket b p) = same _
hand_alike (InFields ∷ k) r t = hand_alike k r t
hand_alike (InStrays ∷ k) r (Symbol x) = let_in _
hand_alike (InStrays ∷ k) r t = hand_alike k r t
hand_alike (Prefixed x ∷ k) r t = hand_alike k (prefix_tree x r) t
hand_alike (InPostfixes ∷ k) r (Symbol x) = same _
hand_alike (InPostfixes ∷ k) r t = hand_alike k r t
hand_alike (InInfixes None ∷ k) r (Symbol x) = same _
hand_alike (InInfixes None ∷ k) r t = hand_alike k r t
hand_alike (InInfixes (Some l) ∷ k) r (Symbol x) = same _
hand_alike (InInfixes (Some l) ∷ k) r t = hand_alike k (chain_tree (Some l) r) t
hand_alike (InEqualities l ∷ k) r (Equality x) = same _
hand_alike (InEqualities l ∷ k) r t = hand_alike k (chain_tree l r) t
hand_alike (InConnectives l ∷ k) r (Connective x) = same _
hand_alike (InConnectives l ∷ k) r t = hand_alike k (chain_tree l r) t
hand_alike (InElse p a b ∷ k) r t = hand_alike k (if_tree p a b r) t
hand_alike (f ∷ k) r t = same _

after_word_alike : (w : RawWord) (k : List Frame) (t : Terminal)
    → Alike (after_word true w k t) (after_word false w k t)
after_word_alike w k (Open p) = same _
after_word_alike w k t = hand_alike (InFields ∷ k) (call_tree w []) t

after_symbol_alike : (x : RawWord) (r : RawTree) (k : List Frame) (t : Terminal)
    → Alike (after_symbol true x r k t) (after_symbol false x r k t)
after_symbol_alike x r k (Word w) = same _
after_symbol_alike x r k (Open p) = same _
after_symbol_alike x r k (OpenBracket b p) = same _
after_symbol_alike x r k t = hand_alike (InPostfixes ∷ k) (postfix_tree x r) t

first_word_alike : (raw : RawTrait) (w : RawWord) (t : Terminal)
    → Alike (first_word true raw w t) (first_word false raw w t)
first_word_alike raw w Generated = same _
first_word_alike raw w Partitioned = same _
first_word_alike raw w t = after_word_alike w (word_frames w (Item (open_item raw [] []))) t

word_behind_alike : (raw : RawTrait) (vs : List RawVar) (es : List RawEquation) (w : RawWord) (t : Terminal)
    → Alike (word_behind true raw vs es w t) (word_behind false raw vs es w t)
word_behind_alike raw vs es w Generated = same _
word_behind_alike raw vs es w Partitioned = same _
word_behind_alike raw vs es w t = after_word_alike w (word_frames w (Item (open_item raw vs es))) t

unless_alike : (e : Bool) (a b : Taking) → Alike a b → Alike (cond e None a) (cond e None b)
unless_alike true a b h = same None
unless_alike false a b h = h

implied_word_alike : (raw : RawTrait) (w : RawWord) (t : Terminal)
    → Alike (implied_word true raw w t) (implied_word false raw w t)
implied_word_alike raw w Generated = same _
implied_word_alike raw w Partitioned = same _
implied_word_alike raw w (Open p) = same _
implied_word_alike raw w t =
    unless_alike (ends_reference t) _ _ (after_word_alike w (word_frames w (Item (open_item raw [] []))) t)

behind_first_alike : (raw : RawTrait) (w : RawWord) (ts : List RawTree) (t : Terminal)
    → Alike (behind_first true raw w ts t) (behind_first false raw w ts t)
behind_first_alike raw w ts t =
    unless_alike (ends_reference t) _ _
    (hand_alike (InFields ∷ word_frames w (Item (open_item raw [] []))) (call_tree w ts) t)

alike : (n : State) (t : Terminal) → Alike (step true n t) (step false n t)
alike (FirstWord raw w) t = first_word_alike raw w t
alike (ImpliedWord raw w) t = implied_word_alike raw w t
alike (BehindFirst raw w ts) t = behind_first_alike raw w ts t
alike (WordBehind j w) t = word_behind_alike j.raw j.variables j.equations w t
alike (AfterWord w k) t = after_word_alike w k t
alike (AfterSymbol x r k) t = after_symbol_alike x r k t
alike (Have r k) t = hand_alike k r t
alike n t = same _

-- where nothing MIXED is counted a step with the symbols that are let in is one without them
pub agree : (n : State) (t : Terminal) (m : Mark) (k : State) → step true n t ≡ Some (m, k) → is_mixed m ≡ false
    → step false n t ≡ Some (m, k)
agree n t = (alike n t).0

-- a step without the symbols that are let in is one with them
pub stray : (n : State) (t : Terminal) (m : Mark) (k : State) → step false n t ≡ Some (m, k)
    → step true n t ≡ Some (m, k)
stray n t = (alike n t).1

-- the same of the tokens of a text, where references follow `implies` or not
pub agree_at : (g : Bool) (n : State) (t : Token) (m : Mark) (k : State) → step_at g true n t ≡ Some (m, k)
    → is_mixed m ≡ false → step_at g false n t ≡ Some (m, k)
agree_at g n t = agree n (terminal_of g t)

pub stray_at : (g : Bool) (n : State) (t : Token) (m : Mark) (k : State) → step_at g false n t ≡ Some (m, k)
    → step_at g true n t ≡ Some (m, k)
stray_at g n t = stray n (terminal_of g t)
