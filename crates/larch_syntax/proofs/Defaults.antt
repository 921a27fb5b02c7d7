-- Tokens of which a definition has no case of their own.
use Rattle.std.specs.Prelude.{◌≡◌, cond, Option, None, true, false, refl, List, [], ◌∷◌}
use Rattle.larch_base.specs.declared.position.Pos.{Pos}
use Rattle.larch_raw.specs.RawTree.{RawTree}
use Rattle.larch_raw.specs.declared.declared.RawForm.{RawForm}
use Rattle.larch_raw.specs.declared.declared.RawOpRef.{RawOpRef}
use Rattle.larch_raw.specs.declared.declared.RawWord.{RawWord}
use Rattle.larch_raw.specs.declared.equation.RawEquation.{RawEquation}
use Rattle.larch_raw.specs.declared.equation.RawTrait.{RawTrait}
use Rattle.larch_raw.specs.declared.equation.RawVar.{RawVar}
use Rattle.larch_grammar.specs.Machine.{after_converted, after_form, after_group, after_implies, after_trait_ref}
use Rattle.larch_grammar.specs.Machine.{after_ref_name, after_operator_ref, after_symbol, after_word, begin_bracket}
use Rattle.larch_grammar.specs.Machine.{begin_conversion, begin_exempted, begin_item, begin_operand, begin_post}
use Rattle.larch_grammar.specs.Machine.{begin_prefixed, begin_quantified, begin_term, behind_refs, close_conversion}
use Rattle.larch_grammar.specs.Machine.{first_word, hand, hand_equation, hand_exempted, implied_word, need_exempted}
use Rattle.larch_grammar.specs.Machine.{open_conversion, plainly, with_clause, with_reference, word_behind, word_frames}
use Rattle.larch_grammar.specs.Machine.{open_item}
use Rattle.larch_grammar.specs.Terms.{formula_of}
use Rattle.larch_grammar.specs.Trees.{bracket_tree, call_tree, postfix_tree}
use Rattle.larch_grammar.specs.declared.terminal.Bracket.{Bracket}
use Rattle.larch_grammar.specs.declared.terminal.Bracket.TheVariants.{Square, Curly}
use Rattle.larch_grammar.specs.declared.terminal.Terminal.{Terminal}
use Rattle.larch_grammar.specs.declared.terminal.Terminal.TheVariants.{Word, Symbol, Not, Equates, Colon, Comma}
use Rattle.larch_grammar.specs.declared.terminal.Terminal.TheVariants.{Semicolon, Open, OpenBracket, CloseBracket}
use Rattle.larch_grammar.specs.declared.terminal.Terminal.TheVariants.{Exempting, ForAll, Generated, Partitioned, If}
use Rattle.larch_grammar.specs.declared.machine.Clause.{Clause}
use Rattle.larch_grammar.specs.declared.machine.Frame.{Frame}
use Rattle.larch_grammar.specs.declared.machine.Frame.TheVariants.{InConnectives, InEqualities, InFields, InInfixes}
use Rattle.larch_grammar.specs.declared.machine.Frame.TheVariants.{InLeft, InList, InPostfixes, InStrays}
use Rattle.larch_grammar.specs.declared.machine.Listing.TheVariants.{Bracketed}
use Rattle.larch_grammar.specs.declared.machine.Naming.TheVariants.{Converted, Referred}
use Rattle.larch_grammar.specs.declared.machine.OpenConversion.{OpenConversion}
use Rattle.larch_grammar.specs.declared.machine.RefKind.{RefKind}
use Rattle.larch_grammar.specs.declared.machine.VariablesFor.{VariablesFor}
use Rattle.larch_grammar.specs.Composition.{close_ref, open_ref}
use Rattle.larch_grammar.specs.Terminal.{ends_reference}
use Rattle.larch_grammar.specs.Traits.{with_conversion}
use Rattle.larch_grammar.specs.declared.machine.State.TheVariants.{Have}
use Rattle.larch_grammar.specs.declared.machine.Waiting.{Waiting}
use Rattle.larch_grammar.specs.declared.machine.Waiting.TheVariants.{Item}
use Rattle.larch_syntax_heads.specs.Outcome.{closes}

pub other_operand : (t : Terminal) (k : List Frame) → ((y : RawWord) → t ≡ Symbol y → ⊥)
    → ((y : RawWord) → t ≡ Not y → ⊥) → begin_operand t k ≡ begin_post t (InInfixes None ∷ k)
other_operand (Symbol y) k h i = absurd (h y refl)
other_operand (Not y) k h i = absurd (i y refl)
other_operand t k h i = refl

pub other_prefixed : (t : Terminal) (k : List Frame) → ((y : RawWord) → t ≡ Symbol y → ⊥)
    → ((y : RawWord) → t ≡ Not y → ⊥) → begin_prefixed t k ≡ begin_post t (InStrays ∷ k)
other_prefixed (Symbol y) k h i = absurd (h y refl)
other_prefixed (Not y) k h i = absurd (i y refl)
other_prefixed t k h i = refl

pub other_term : (t : Terminal) (k : List Frame) → ((p : Pos) → t ≡ If p → ⊥)
    → begin_term t k ≡ begin_operand t (InEqualities None ∷ InConnectives None ∷ k)
other_term (If p) k h = absurd (h p refl)
other_term t k h = refl

pub other_group : (sc : VariablesFor) (vs : List RawVar) (t : Terminal) → (t ≡ Comma → ⊥)
    → after_group sc vs t ≡ begin_quantified sc vs t
other_group sc vs Comma h = absurd (h refl)
other_group sc vs t h = refl

pub other_ref : (raw : RawTrait) (b : RefKind) (t : Terminal) → (t ≡ Comma → ⊥)
    → after_trait_ref raw b t ≡ behind_refs b raw t
other_ref raw b Comma h = absurd (h refl)
other_ref raw b t h = refl

pub other_ref_name : (raw : RawTrait) (b : RefKind) (w : RawWord) (t : Terminal) → ((p : Pos) → t ≡ Open p → ⊥)
    → after_ref_name raw b w t ≡ after_trait_ref (close_ref (open_ref raw b w [])) b t
other_ref_name raw b w (Open p) h = absurd (h p refl)
other_ref_name raw b w t h = refl

pub other_implies : (raw : RawTrait) (t : Terminal) → ((w : RawWord) → t ≡ Word w → ⊥)
    → after_implies raw t ≡ begin_item raw t
other_implies raw (Word w) h = absurd (h w refl)
other_implies raw t h = refl

pub other_implied : (raw : RawTrait) (w : RawWord) (t : Terminal) → (t ≡ Generated → ⊥) → (t ≡ Partitioned → ⊥)
    → ((p : Pos) → t ≡ Open p → ⊥)
    → implied_word true raw w t ≡ cond (ends_reference t) None
    (after_word true w (word_frames w (Item (open_item raw [] []))) t)
other_implied raw w Generated h i j = absurd (h refl)
other_implied raw w Partitioned h i j = absurd (i refl)
other_implied raw w (Open p) h i j = absurd (j p refl)
other_implied raw w t h i j = refl

pub other_converted_form : (raw : RawTrait) (rs : List RawOpRef) (f : RawForm) (t : Terminal)
    → ((p : Pos) → t ≡ Colon p → ⊥)
    → after_form (Converted raw rs) f t ≡ after_converted raw (with_reference rs f) t
other_converted_form raw rs f (Colon p) h = absurd (h p refl)
other_converted_form raw rs f t h = refl

pub other_converted : (raw : RawTrait) (rs : List RawOpRef) (t : Terminal) → (t ≡ Comma → ⊥) → (t ≡ Exempting → ⊥)
    → after_converted raw rs t ≡ begin_conversion (with_conversion raw rs [] []) t
other_converted raw rs Comma h i = absurd (h refl)
other_converted raw rs Exempting h i = absurd (i refl)
other_converted raw rs t h i = refl

pub other_exempted_term : (c : OpenConversion) (t : Terminal) → (t ≡ Comma → ⊥)
    → hand_exempted c t ≡ begin_conversion (close_conversion c) t
other_exempted_term c Comma h = absurd (h refl)
other_exempted_term c t h = refl

pub other_exempted : (raw : RawTrait) (rs : List RawOpRef) (t : Terminal) → (t ≡ ForAll → ⊥)
    → need_exempted raw rs t ≡ begin_exempted (open_conversion raw rs [] []) t
other_exempted raw rs ForAll h = absurd (h refl)
other_exempted raw rs t h = refl

pub other_reference : (c : Clause) (rs : List RawOpRef) (t : Terminal) → (t ≡ Comma → ⊥) → (t ≡ Semicolon → ⊥)
    → after_operator_ref c rs t ≡ begin_item (with_clause c rs) t
other_reference c rs Comma h i = absurd (h refl)
other_reference c rs Semicolon h i = absurd (i refl)
other_reference c rs t h i = refl

pub other_referred : (c : Clause) (rs : List RawOpRef) (f : RawForm) (t : Terminal) → ((p : Pos) → t ≡ Colon p → ⊥)
    → after_form (Referred c rs) f t ≡ after_operator_ref c (with_reference rs f) t
other_referred c rs f (Colon p) h = absurd (h p refl)
other_referred c rs f t h = refl

pub other_symbol : (x : RawWord) (r : RawTree) (k : List Frame) (t : Terminal) → ((y : RawWord) → t ≡ Word y → ⊥)
    → ((p : Pos) → t ≡ Open p → ⊥) → ((b : Bracket) (p : Pos) → t ≡ OpenBracket b p → ⊥)
    → after_symbol true x r k t ≡ hand true (postfix_tree x r) (InPostfixes ∷ k) t
other_symbol x r k (Word y) h i j = absurd (h y refl)
other_symbol x r k (Open p) h i j = absurd (i p refl)
other_symbol x r k (OpenBracket b p) h i j = absurd (j b p refl)
other_symbol x r k t h i j = refl

pub other_word : (w : RawWord) (k : List Frame) (t : Terminal) → ((p : Pos) → t ≡ Open p → ⊥)
    → after_word true w k t ≡ hand true (call_tree w []) (InFields ∷ k) t
other_word w k (Open p) h = absurd (h p refl)
other_word w k t h = refl

pub other_first : (raw : RawTrait) (w : RawWord) (t : Terminal) → (t ≡ Generated → ⊥) → (t ≡ Partitioned → ⊥)
    → first_word true raw w t ≡ after_word true w (word_frames w (Item (open_item raw [] []))) t
other_first raw w Generated h i = absurd (h refl)
other_first raw w Partitioned h i = absurd (i refl)
other_first raw w t h i = refl

pub other_behind : (raw : RawTrait) (vs : List RawVar) (es : List RawEquation) (w : RawWord) (t : Terminal)
    → (t ≡ Generated → ⊥) → (t ≡ Partitioned → ⊥)
    → word_behind true raw vs es w t ≡ after_word true w (word_frames w (Item (open_item raw vs es))) t
other_behind raw vs es w Generated h i = absurd (h refl)
other_behind raw vs es w Partitioned h i = absurd (i refl)
other_behind raw vs es w t h i = refl

pub bracket_closed : (b : Bracket) (l : Option RawTree) (p : Pos) (k : List Frame) (t : Terminal) → closes b t ≡ true
    → begin_bracket b l p k t ≡ plainly (Have (bracket_tree b l p []) (InFields ∷ k))
bracket_closed Square l p k (CloseBracket Square) h = refl
bracket_closed Curly l p k (CloseBracket Curly) h = refl
bracket_closed Square l p k t h = let n : ⊥ = cc in absurd n
bracket_closed Curly l p k t h = let n : ⊥ = cc in absurd n

pub bracket_open : (b : Bracket) (l : Option RawTree) (p : Pos) (k : List Frame) (t : Terminal) → closes b t ≡ false
    → begin_bracket b l p k t ≡ begin_term t (InList (Bracketed b l p) [] ∷ InFields ∷ k)
bracket_open Square l p k (CloseBracket Square) h = let n : ⊥ = cc in absurd n
bracket_open Curly l p k (CloseBracket Curly) h = let n : ⊥ = cc in absurd n
bracket_open Square l p k t h = refl
bracket_open Curly l p k t h = refl

pub other_left : (r : RawTree) (p : Pos) (w : Waiting) (k : List Frame) (t : Terminal) → ((q : Pos) → t ≡ Equates q → ⊥)
    → hand true r (InLeft p w ∷ k) t ≡ hand_equation (formula_of r p) w t
other_left r p w k (Equates q) h = absurd (h q refl)
other_left r p w k t h = refl
