-- No state takes a token that stands nowhere, so what it does there is how the text ends.
use Rattle.std.proofs.Common.{◌≡◌, ◌∙◌, ℕ, Bool, true, Option, Some, None, List, [], ◌∷◌, refl, sym, ap}
use Rattle.larch_base.specs.declared.position.Pos.{Pos}
use Rattle.larch_raw.specs.RawTree.{RawTree}
use Rattle.larch_raw.specs.declared.declared.RawForm.{RawForm}
use Rattle.larch_grammar.specs.Machine.{after_form, end_marks, final, hand, step}
use Rattle.larch_grammar.specs.Trees.{chain_tree, if_tree, infix_name, mixfix, postfix_name, postfix_tree, prefix_tree}
use Rattle.larch_grammar.specs.Trees.{call_tree}
use Rattle.larch_grammar.specs.declared.machine.Frame.{Frame}
use Rattle.larch_grammar.specs.declared.machine.Frame.TheVariants.{InFields, InStrays, Prefixed, InPostfixes, InInfixes}
use Rattle.larch_grammar.specs.declared.machine.Frame.TheVariants.{InEqualities, InConnectives, InParentheses, InList}
use Rattle.larch_grammar.specs.declared.machine.Frame.TheVariants.{InIf, InThen, InElse, InLeft, InRight, InExempted}
use Rattle.larch_grammar.specs.declared.machine.Listing.TheVariants.{Call, First as call_first, Bracketed}
use Rattle.larch_grammar.specs.declared.machine.RefKind.TheVariants.{Included, Assumed, First, Further}
use Rattle.larch_grammar.specs.declared.machine.VariablesFor.TheVariants.{Quantified, Exempted}
use Rattle.larch_grammar.specs.declared.machine.Naming.{Naming}
use Rattle.larch_grammar.specs.declared.machine.Naming.TheVariants.{Declared, Referred, Formal, Actual, Renaming}
use Rattle.larch_grammar.specs.declared.machine.Naming.TheVariants.{Renamed, Lone, Converted}
use Rattle.larch_grammar.specs.declared.machine.State.{State}
use Rattle.larch_grammar.specs.declared.machine.State.TheVariants.{AfterGroup, AfterTraitRef, AfterRefName}
use Rattle.larch_grammar.specs.declared.machine.State.TheVariants.{AfterSymbolForm, AfterMarkerSymbol, AfterFormBracket}
use Rattle.larch_grammar.specs.declared.machine.State.TheVariants.{AfterBracketMarker, AfterForm, AfterWord, NeedFirst}
use Rattle.larch_grammar.specs.declared.machine.State.TheVariants.{AfterSymbol, Have}
use Rattle.larch_grammar.specs.declared.machine.Waiting.TheVariants.{Alone, Item}
use Rattle.larch_grammar.specs.declared.machine.Whole.{Whole}
use Rattle.larch_grammar.specs.declared.terminal.Bracket.{Bracket}
use Rattle.larch_grammar.specs.declared.terminal.Bracket.TheVariants.{Square, Curly}
use Rattle.larch_grammar.specs.declared.terminal.Terminal.TheVariants.{Other}
use Rattle.larch_syntax_heads.specs.Outcome.{outcome, step_state}
use Rattle.larch_syntax_heads.specs.declared.outcome.Outcome.{Outcome}
use Rattle.larch_syntax_heads.specs.declared.outcome.Outcome.TheVariants.{Stops}

hand_nothing : (r : RawTree) (k : List Frame) → hand true r k Other ≡ None
hand_nothing r [] = refl
hand_nothing r (InFields ∷ k) = hand_nothing r k
hand_nothing r (InStrays ∷ k) = hand_nothing r k
hand_nothing r (Prefixed x ∷ k) = hand_nothing (prefix_tree x r) k
hand_nothing r (InPostfixes ∷ k) = hand_nothing r k
hand_nothing r (InInfixes None ∷ k) = hand_nothing r k
hand_nothing r (InInfixes (Some l) ∷ k) = hand_nothing (chain_tree (Some l) r) k
hand_nothing r (InEqualities l ∷ k) = hand_nothing (chain_tree l r) k
hand_nothing r (InConnectives l ∷ k) = hand_nothing (chain_tree l r) k
hand_nothing r (InParentheses ∷ k) = refl
hand_nothing r (InList (Call w) ts ∷ k) = refl
hand_nothing r (InList (call_first raw w) ts ∷ k) = refl
hand_nothing r (InList (Bracketed Square l p) ts ∷ k) = refl
hand_nothing r (InList (Bracketed Curly l p) ts ∷ k) = refl
hand_nothing r (InIf p ∷ k) = refl
hand_nothing r (InThen p a ∷ k) = refl
hand_nothing r (InElse p a b ∷ k) = hand_nothing (if_tree p a b r) k
hand_nothing r (InLeft p Alone ∷ k) = refl
hand_nothing r (InLeft p (Item j) ∷ k) = refl
hand_nothing r (InRight p l q Alone ∷ k) = refl
hand_nothing r (InRight p l q (Item j) ∷ k) = refl
hand_nothing r (InExempted p c ∷ k) = refl

form_nothing : (n : Naming) (f : RawForm) → after_form n f Other ≡ None
form_nothing (Declared raw fs) f = refl
form_nothing (Referred c rs) f = refl
form_nothing (Formal name fs) f = refl
form_nothing (Actual n) f = refl
form_nothing (Renaming n) f = refl
form_nothing (Renamed n f) g = refl
form_nothing Lone f = refl
form_nothing (Converted raw rs) f = refl

marks_nothing : (n : Naming) (behind : Bool) (b : Bracket) (m : ℕ) (p : Pos) → end_marks n behind b m p Other ≡ None
marks_nothing n behind Square m p = refl
marks_nothing n behind Curly m p = refl

step_nothing : (n : State) → step true n Other ≡ None
step_nothing (AfterSymbolForm n x) = form_nothing n (mixfix (infix_name x.name) 2 x.pos)
step_nothing (AfterMarkerSymbol n p x) = form_nothing n (mixfix (postfix_name x.name) 1 p)
step_nothing (AfterFormBracket c) = marks_nothing c.naming c.behind c.bracket 0 c.pos
step_nothing (AfterBracketMarker c m) = marks_nothing c.naming c.behind c.bracket m c.pos
step_nothing (AfterForm n f) = form_nothing n f
step_nothing (AfterWord w k) = hand_nothing (call_tree w []) k
step_nothing (NeedFirst Square l p k) = refl
step_nothing (NeedFirst Curly l p k) = refl
step_nothing (AfterSymbol x r k) = hand_nothing (postfix_tree x r) k
step_nothing (Have r k) = hand_nothing r k
step_nothing (AfterRefName raw Included w) = refl
step_nothing (AfterRefName raw Assumed w) = refl
step_nothing (AfterRefName raw First w) = refl
step_nothing (AfterRefName raw Further w) = refl
step_nothing (AfterTraitRef raw Included) = refl
step_nothing (AfterTraitRef raw Assumed) = refl
step_nothing (AfterTraitRef raw First) = refl
step_nothing (AfterTraitRef raw Further) = refl
step_nothing (AfterGroup (Quantified raw) vs) = refl
step_nothing (AfterGroup (Exempted raw rs) vs) = refl
step_nothing n = refl

pub stops_at_end : (n : State) → step_state n Other ≡ Stops (final n)
stops_at_end n = ap (λ o. outcome o (final n)) (step_nothing n)

-- a whole that ends there is the state's
pub ended_so : (n : State) (o : Outcome) (w : Option Whole) → o ≡ step_state n Other → o ≡ Stops w → w ≡ final n
ended_so n o w e s = let q : Stops w ≡ Stops (final n) = sym s ∙ e ∙ stops_at_end n in cc

-- and one ends there
pub ends_so : (n : State) (o : Outcome) → o ≡ step_state n Other → ((w : Option Whole) → o ≡ Stops w → ⊥) → ⊥
ends_so n o e h = h (final n) (e ∙ stops_at_end n)
