-- Where the tokens may end, nothing need follow; and every state can be completed.
use Rattle.std.proofs.Common.{◌≡◌, ℕ, Bool, inl, Option, Some, None, List, [], ◌∷◌, ◌++◌, codes, map, refl}
use Rattle.larch_base.specs.Position.{start_of_text}
use Rattle.larch_base.specs.declared.position.Pos.{Pos}
use Rattle.larch_lexer.specs.declared.token.Kind.{Kind}
use Rattle.larch_lexer.specs.declared.token.Kind.TheVariants as kind
use Rattle.larch_lexer.specs.declared.token.Token.{Token}
use Rattle.larch_grammar_law.specs.Walks.{Taken}
use Rattle.larch_grammar_law.specs.declared.mark.Mark.{Mark}
use Rattle.larch_grammar_law.specs.declared.mark.Mark.TheVariants.{Head}
use Rattle.larch_grammar_law.proofs.Walking.{none_some, some_equal}
use Rattle.larch_raw.specs.declared.equation.ClauseKind.TheVariants as clause_kind
use Rattle.larch_raw.specs.RawTree.{RawTree, qualified}
use Rattle.larch_raw.specs.declared.declared.RawForm.{RawForm}
use Rattle.larch_raw.specs.declared.declared.RawOpRef.{RawOpRef}
use Rattle.larch_raw.specs.declared.declared.RawWord.{RawWord}
use Rattle.larch_raw.specs.declared.equation.RawEquation.{RawEquation}
use Rattle.larch_raw.specs.declared.equation.RawTrait.{RawTrait}
use Rattle.larch_raw.specs.declared.equation.RawVar.{RawVar}
use Rattle.larch_grammar.specs.declared.terminal.Bracket.{Bracket}
use Rattle.larch_grammar.specs.declared.terminal.Bracket.TheVariants.{Square, Curly}
use Rattle.larch_grammar.specs.declared.terminal.Terminal.TheVariants.{Word}
use Rattle.larch_grammar.specs.declared.machine.Before.{Before}
use Rattle.larch_grammar.specs.declared.machine.Before.TheVariants as before
use Rattle.larch_grammar.specs.declared.machine.Clause.{Clause}
use Rattle.larch_grammar.specs.declared.machine.Frame.{Frame}
use Rattle.larch_grammar.specs.declared.machine.Frame.TheVariants.{InFields, InStrays, Prefixed, InPostfixes, InInfixes}
use Rattle.larch_grammar.specs.declared.machine.Frame.TheVariants.{InEqualities, InConnectives, InParentheses, InList}
use Rattle.larch_grammar.specs.declared.machine.Frame.TheVariants.{InIf, InThen, InElse, InLeft, InRight, InExempted}
use Rattle.larch_grammar.specs.declared.machine.Listing.TheVariants.{Call, First as call_first, Bracketed}
use Rattle.larch_grammar.specs.declared.machine.Naming.{Naming}
use Rattle.larch_grammar.specs.declared.machine.Naming.TheVariants.{Declared, Referred, Formal, Actual, Renaming}
use Rattle.larch_grammar.specs.declared.machine.Naming.TheVariants.{Renamed, Lone, Converted}
use Rattle.larch_grammar.specs.declared.machine.OpenFields.{OpenFields}
use Rattle.larch_grammar.specs.declared.machine.RefKind.{RefKind}
use Rattle.larch_grammar.specs.declared.machine.RefKind.TheVariants.{Included, Assumed, First, Further}
use Rattle.larch_grammar.specs.declared.machine.VariablesFor.{VariablesFor}
use Rattle.larch_grammar.specs.declared.machine.VariablesFor.TheVariants.{Quantified, Exempted}
use Rattle.larch_grammar.specs.declared.machine.OpenRef.{OpenRef}
use Rattle.larch_grammar.specs.declared.machine.Signing.{Signing}
use Rattle.larch_grammar.specs.declared.machine.Signing.TheVariants.{Declaration, Reference, Replacement, LoneForm}
use Rattle.larch_grammar.specs.declared.machine.Signing.TheVariants.{Conversion}
use Rattle.larch_grammar.specs.declared.machine.State.{State}
use Rattle.larch_grammar.specs.declared.machine.State.TheVariants.{Start, AfterName, AfterFormals, NeedTrait, AfterHead}
use Rattle.larch_grammar.specs.declared.machine.State.TheVariants.{ShortWord, NeedConstants, NeedConstant}
use Rattle.larch_grammar.specs.declared.machine.State.TheVariants.{AfterConstant, NeedFields, NeedName, AfterNames}
use Rattle.larch_grammar.specs.declared.machine.State.TheVariants.{NeedFurtherName, NeedNamesSort, AfterField, NeedRef}
use Rattle.larch_grammar.specs.declared.machine.State.TheVariants.{AfterRefName, AfterTraitRef, AfterRename, InPart}
use Rattle.larch_grammar.specs.declared.machine.State.TheVariants.{NeedForm, AfterSymbolForm, AfterDotForm}
use Rattle.larch_grammar.specs.declared.machine.State.TheVariants.{AfterLeadingMarker, AfterMarkerSymbol}
use Rattle.larch_grammar.specs.declared.machine.State.TheVariants.{AfterFormBracket, AfterBracketMarker}
use Rattle.larch_grammar.specs.declared.machine.State.TheVariants.{NeedBracketMarker, AfterForm, NeedSig, AfterSort}
use Rattle.larch_grammar.specs.declared.machine.State.TheVariants.{NeedSort, NeedRange, AfterOperatorRef, AfterLone}
use Rattle.larch_grammar.specs.declared.machine.State.TheVariants.{InItems, FirstWord, AfterSemicolon, WordBehind}
use Rattle.larch_grammar.specs.declared.machine.State.TheVariants.{ClauseWord, NeedBy, NeedVariable, AfterVariable}
use Rattle.larch_grammar.specs.declared.machine.State.TheVariants.{NeedFurtherVariable, NeedVariableSort, AfterGroup}
use Rattle.larch_grammar.specs.declared.machine.State.TheVariants.{AfterImplies, ImpliedWord, BehindFirst}
use Rattle.larch_grammar.specs.declared.machine.State.TheVariants.{AfterConverted, NeedExempted, NeedFurtherExempted}
use Rattle.larch_grammar.specs.declared.machine.State.TheVariants.{NeedEquation, NeedTerm, NeedOperand, NeedPrefixed}
use Rattle.larch_grammar.specs.declared.machine.State.TheVariants.{NeedPost, NeedField, NeedSortOf, AfterWord}
use Rattle.larch_grammar.specs.declared.machine.State.TheVariants.{NeedFirst, AfterSymbol, Have}
use Rattle.larch_grammar.specs.declared.machine.Waiting.{Waiting}
use Rattle.larch_grammar.specs.declared.machine.Waiting.TheVariants.{Alone, Item}
use Rattle.larch_grammar.specs.declared.machine.Whole.{Whole}
use Rattle.larch_grammar.specs.declared.machine.Whole.TheVariants as whole
use Rattle.larch_grammar.specs.Composition.{bare, close_fields, close_ref, no_field as no_further_field, no_ref}
use Rattle.larch_grammar.specs.Composition.{open_fields, open_ref}
use Rattle.larch_grammar.specs.Form.{bare_symbol, by_form, no_reference, no_word, postfix_form}
use Rattle.larch_grammar.specs.Terminal.{terminal_of}
use Rattle.larch_grammar.specs.Machine.{form_bracket, Taking, end_equation, end_form, final, finish, step, with_clause}
use Rattle.larch_grammar.specs.Machine.{word_frames, open_conversion, open_item}
use Rattle.larch_grammar.specs.Terms.{behind, formula_of, equation_of, no_connective, no_equality, no_field, no_infix}
use Rattle.larch_grammar.specs.Terms.{no_postfix, no_stray, no_symbol, word_alone}
use Rattle.larch_grammar.specs.Traits.{assertions, conversions, no_conversion, no_declaration, no_end, no_equation}
use Rattle.larch_grammar.specs.Traits.{no_exempted, no_item, nothing_exempted, parts, as_marked, with_conversion}
use Rattle.larch_grammar.specs.Traits.{with_equations}
use Rattle.larch_grammar.specs.Trees.{bracket_tree, call_tree, field_tree, if_tree, chain_tree, listing_tree}
use Rattle.larch_grammar.specs.Trees.{postfix_tree, prefix_tree}
use Rattle.larch_grammar.proofs.Fits.{Fits, FitsBehind, FitsBehindRefs, FitsBody, FitsConverted, FitsForm, FitsRefs}
use Rattle.larch_grammar.proofs.Fits.{FitsIn, FitsItems, FitsPost, FitsReferences, MayFollow}
use Rattle.larch_grammar.proofs.Back.{step_back}
use Rattle.larch_grammar.proofs.BackItems.{ended_by_equation, ended_by_item, equation_of_post, item_of_equation}
use Rattle.larch_grammar.proofs.BackTerms.{Back}

-- nothing behind the head of a trait
head_end : (s : Bool) (r : RawTrait) (z : Whole) → Some (whole.Trait r) ≡ Some z → FitsBody s r [] z
head_end s r z e = (r, parts (assertions (conversions no_conversion)), some_equal e)

-- no further items
items_end : (s : Bool) (b : Before) (r : RawTrait) (z : Whole) → Some (whole.Trait r) ≡ Some z → FitsItems s b r [] z
items_end s b r z e = ([], r, r, no_item, conversions no_conversion, some_equal e)

-- nothing behind a reference
follow_end : (b : RefKind) → MayFollow b []
follow_end Included = tt
follow_end Assumed = tt
follow_end First = refl
follow_end Further = tt

behind_refs_end : (s : Bool) (b : RefKind) (r : RawTrait) (z : Whole) → Some (whole.Trait r) ≡ Some z
    → FitsBehindRefs s b r [] z
behind_refs_end s Included r z e = head_end s r z e
behind_refs_end s Assumed r z e = head_end s r z e
behind_refs_end s First r z e = items_end s before.Anything r z e
behind_refs_end s Further r z e = items_end s before.Anything r z e

refs_end : (s : Bool) (b : RefKind) (r : RawTrait) (z : Whole) → Some (whole.Trait r) ≡ Some z → FitsRefs s b r [] z
refs_end s b r z e = ([], r, no_ref, follow_end b, behind_refs_end s b r z e)

-- nothing behind the references of a conversion
converted_end : (s : Bool) (r : RawTrait) (rs : List RawOpRef) (z : Whole)
    → Some (whole.Trait (with_conversion r rs [] [])) ≡ Some z → FitsConverted s r rs [] z
converted_end s r rs z e = ([], [], rs, [], [], no_reference, nothing_exempted, (_, no_conversion, some_equal e))

-- no further references
references_end : (s : Bool) (c : Clause) (rs : List RawOpRef) (z : Whole)
    → Some (whole.Trait (with_clause c rs)) ≡ Some z → FitsReferences s c rs [] z
references_end s c rs z e = ([], [], rs, no_reference, no_end, items_end s before.Anything (with_clause c rs) z e)

-- the tokens may end behind a form
form_fits : (s : Bool) (n : Naming) (f : RawForm) (z : Whole) → end_form n f ≡ Some z → FitsForm s n f [] z
form_fits s (Declared r fs) f z e = absurd (none_some e)
form_fits s (Referred c rs) f z e = λ h form. ([], _, by_form form, references_end s c _ z e)
form_fits s (Formal name fs) f z e = absurd (none_some e)
form_fits s (Actual n) f z e = absurd (none_some e)
form_fits s (Renaming n) f z e = absurd (none_some e)
form_fits s (Renamed n f) g z e = absurd (none_some e)
form_fits s (Converted r rs) f z e = λ h form. ([], _, by_form form, converted_end s r _ z e)
form_fits s Lone f z e = λ h form. ([], _, by_form form, refl, some_equal e)

-- the tokens may end behind an equation
behind_fits : (s : Bool) (e : RawEquation) (w : Waiting) (z : Whole) → end_equation e w ≡ Some z → FitsBehind s e w [] z
behind_fits s e Alone z q = (refl, some_equal q)
behind_fits s e (Item j) z q = (
  [],
  j.equations ++ e ∷ [],
  before.Equations,
  no_equation,
  items_end s before.Equations (with_equations j.raw j.variables (j.equations ++ e ∷ [])) z q,
)

-- the tokens may end behind a tree in these frames
finish_fits : (s : Bool) (r : RawTree) (k : List Frame) (z : Whole) → finish r k ≡ Some z → FitsIn s r k [] z
finish_fits s r [] z e = tt
finish_fits s r (InFields ∷ k) z e = ([], r, no_field, finish_fits s r k z e)
finish_fits s r (InStrays ∷ k) z e = ([], r, no_stray, finish_fits s r k z e)
finish_fits s r (Prefixed x ∷ k) z e = finish_fits s (prefix_tree x r) k z e
finish_fits s r (InPostfixes ∷ k) z e = ([], r, no_postfix, finish_fits s r k z e)
finish_fits s r (InInfixes None ∷ k) z e = ([], r, no_symbol, finish_fits s r k z e)
finish_fits s r (InInfixes (Some l) ∷ k) z e =
    ([], chain_tree (Some l) r, no_infix, finish_fits s (chain_tree (Some l) r) k z e)
finish_fits s r (InEqualities l ∷ k) z e = ([], chain_tree l r, no_equality, finish_fits s (chain_tree l r) k z e)
finish_fits s r (InConnectives l ∷ k) z e = ([], chain_tree l r, no_connective, finish_fits s (chain_tree l r) k z e)
finish_fits s r (InParentheses ∷ k) z e = absurd (none_some e)
finish_fits s r (InList h ts ∷ k) z e = absurd (none_some e)
finish_fits s r (InIf p ∷ k) z e = absurd (none_some e)
finish_fits s r (InThen p a ∷ k) z e = absurd (none_some e)
finish_fits s r (InElse p a b ∷ k) z e = finish_fits s (if_tree p a b r) k z e
finish_fits s r (InLeft p w ∷ k) z e = inl (behind_fits s (formula_of r p) w z e)
finish_fits s r (InRight p l q w ∷ k) z e = behind_fits s (equation_of l q r p) w z e
finish_fits s r (InExempted p c ∷ k) z e = ([], _, no_exempted, (_, no_conversion, some_equal e))

-- the tokens may end behind a word of a term
word_fits : (s : Bool) (w : RawWord) (k : List Frame) (z : Whole) → finish (call_tree w []) k ≡ Some z
    → FitsPost s k ((Word w, Head) ∷ []) z
word_fits s w k z e = ([], call_tree w [], word_alone no_field, finish_fits s (call_tree w []) k z e)

-- where the tokens may end, nothing need follow
pub final_fits : (s : Bool) (n : State) (z : Whole) → final n ≡ Some z → Fits s n [] z
final_fits s (AfterHead r) z e = head_end s r z e
final_fits s (AfterConstant r sort ws) z e = ([], ws, no_word, head_end s _ z e)
final_fits s (AfterField n) z e = ([], n.fields, no_further_field, head_end s (close_fields n) z e)
final_fits s (AfterRefName r b w) z e = ([], [], bare tt, refs_end s b (close_ref (open_ref r b w [])) z e)
final_fits s (AfterTraitRef r b) z e = refs_end s b r z e
final_fits s (InPart r) z e = ([], r, r, no_declaration, assertions (conversions no_conversion), some_equal e)
final_fits s (AfterSymbolForm n x) z e = ([], _, bare_symbol, form_fits s n _ z e)
final_fits s (AfterMarkerSymbol n p x) z e = ([], _, postfix_form, form_fits s n _ z e)
final_fits s (AfterForm n f) z e = form_fits s n f z e
final_fits s (AfterOperatorRef c rs) z e = references_end s c rs z e
final_fits s (AfterLone r) z e = (refl, some_equal e)
final_fits s (InItems r) z e = items_end s before.Anything r z e
final_fits s (AfterImplies r) z e = (refl, items_end s before.Anything r z e)
final_fits s (AfterConverted r rs) z e = converted_end s r rs z e
final_fits s (FirstWord r w) z e =
    item_of_equation s r ((Word w, Head) ∷ []) z
    (equation_of_post s w (Item (open_item r [] [])) [] z
    (word_fits s w (word_frames w (Item (open_item r [] []))) z e))
final_fits s (AfterSemicolon j) z e =
    ended_by_item s j.raw j.variables j.equations [] z
    (items_end s before.Semicolon (with_equations j.raw j.variables j.equations) z e)
final_fits s (WordBehind j w) z e =
    ended_by_equation s j.raw j.variables j.equations ((Word w, Head) ∷ []) z
    (equation_of_post s w (Item (open_item j.raw j.variables j.equations)) [] z
    (word_fits s w (word_frames w (Item (open_item j.raw j.variables j.equations))) z e))
final_fits s (AfterWord w k) z e = word_fits s w k z e
final_fits s (AfterSymbol x r k) z e =
    ([], postfix_tree x r, behind tt no_postfix, finish_fits s (postfix_tree x r) k z e)
final_fits s (Have r k) z e = finish_fits s r k z e
final_fits s _ z e = absurd (none_some e)

-- tokens that complete
abbrev some_token : Kind → List ℕ → Token
some_token kind text = record { kind = kind; text = text; pos = start_of_text }

abbrev word : Token
word = some_token kind.Word (codes "x")

abbrev symbol : Token
symbol = some_token kind.Run (codes "+")

abbrev marker : Token
marker = some_token kind.Marker (codes "__")

abbrev arrow : Token
arrow = some_token kind.Run (codes "->")

abbrev colon : Token
colon = some_token kind.Punctuation (codes ":")

abbrev semicolon : Token
semicolon = some_token kind.Punctuation (codes ";")

abbrev close : Token
close = some_token kind.Punctuation (codes ")")

abbrev close_square : Token
close_square = some_token kind.Punctuation (codes "]")

abbrev close_curly : Token
close_curly = some_token kind.Punctuation (codes "}")

abbrev the_trait : Token
the_trait = some_token kind.Word (codes "trait")

abbrev by : Token
by = some_token kind.Word (codes "by")

abbrev of_token : Token
of_token = some_token kind.Word (codes "of")

abbrev for_token : Token
for_token = some_token kind.Word (codes "for")

abbrev enumeration_token : Token
enumeration_token = some_token kind.Word (codes "enumeration")

abbrev generated : Token
generated = some_token kind.Word (codes "generated")

abbrev then : Token
then = some_token kind.Word (codes "then")

abbrev else : Token
else = some_token kind.Word (codes "else")

-- some tokens of a text complete a state
abbrev pub Completes : Bool → Bool → State → Type 0
Completes u s n = (i : List (Token × Mark)) × (z : Whole) × Fits s n (map (as_marked u) i) z

-- what completes the state behind a step completes the one before it
before_step : (u s : Bool) (n : State) (t : Token) (o : Taking) → Back s o (terminal_of u t) (Fits s n)
    → Taken o (λ m k. Completes u s k → Completes u s n)
before_step u s n t None h = tt
before_step u s n t (Some p) h = λ c. ((t, p.0) ∷ c.0, c.1, h (map (as_marked u) c.0) c.1 c.2)

-- this token, and then what completes the state behind it
onward : (u s : Bool) (n : State) (t : Token)
    → Taken (step s n (terminal_of u t)) (λ m k. Completes u s k → Completes u s n)
onward u s n t = before_step u s n t (step s n (terminal_of u t)) (step_back s n (terminal_of u t))

-- no tokens, where they may end
ended_in : (u s : Bool) (n : State) (z : Whole) → final n ≡ Some z → Completes u s n
ended_in u s n z e = ([], z, final_fits s n z e)

-- shorthands and references to traits

constant_some : (u s : Bool) (r : RawTrait) (sort : RawWord) (ws : List RawWord)
    → Completes u s (NeedConstant r sort ws)
constant_some u s r sort ws = onward u s (NeedConstant r sort ws) word (ended_in u s (AfterConstant r sort _) _ refl)

constants_some : (u s : Bool) (r : RawTrait) (sort : RawWord) → Completes u s (NeedConstants r sort)
constants_some u s r sort = onward u s (NeedConstants r sort) of_token (constant_some u s r sort [])

sort_some : (u s : Bool) (n : OpenFields) (ws : List RawWord) → Completes u s (NeedNamesSort n ws)
sort_some u s n ws = onward u s (NeedNamesSort n ws) word (ended_in u s (AfterField _) _ refl)

field_names_some : (u s : Bool) (n : OpenFields) (ws : List RawWord) → Completes u s (AfterNames n ws)
field_names_some u s n ws = onward u s (AfterNames n ws) colon (sort_some u s n ws)

fields_some : (u s : Bool) (n : OpenFields) → Completes u s (NeedName n)
fields_some u s n = onward u s (NeedName n) word (field_names_some u s n _)

ref_some : (u s : Bool) (r : RawTrait) (b : RefKind) → Completes u s (AfterTraitRef r b)
ref_some u s r b = ended_in u s (AfterTraitRef r b) _ refl

rename_some : (u s : Bool) (n : OpenRef) → Completes u s (AfterRename n)
rename_some u s n = onward u s (AfterRename n) close (ref_some u s (close_ref n) n.kind)

old_some : (u s : Bool) (n : OpenRef) (f g : RawForm) → Completes u s (AfterForm (Renamed n f) g)
old_some u s n f g = onward u s (AfterForm (Renamed n f) g) close (ref_some u s _ n.kind)

head_some : (u s : Bool) (w : RawWord) (fs : List RawForm) → Completes u s (NeedTrait w fs)
head_some u s w fs = onward u s (NeedTrait w fs) the_trait (ended_in u s (AfterHead _) _ refl)

formals_some : (u s : Bool) (w : RawWord) (fs : List RawForm) → Completes u s (AfterFormals w fs)
formals_some u s w fs = onward u s (AfterFormals w fs) colon (head_some u s w fs)

-- declarations and references
range_some : (u s : Bool) (n : Signing) (ws : List RawWord) → Completes u s (NeedRange n ws)
range_some u s (Declaration r fs) ws =
    onward u s (NeedRange (Declaration r fs) ws) word (ended_in u s (InPart _) _ refl)
range_some u s (Reference c rs f) ws =
    onward u s (NeedRange (Reference c rs f) ws) word (ended_in u s (AfterOperatorRef c _) _ refl)
range_some u s (Replacement n f g) ws = onward u s (NeedRange (Replacement n f g) ws) word (rename_some u s _)
range_some u s (Conversion r rs f) ws =
    onward u s (NeedRange (Conversion r rs f) ws) word (ended_in u s (AfterConverted r _) _ refl)
range_some u s (LoneForm f) ws = onward u s (NeedRange (LoneForm f) ws) word (ended_in u s (AfterLone _) _ refl)

sorts_some : (u s : Bool) (n : Signing) (ws : List RawWord) → Completes u s (AfterSort n ws)
sorts_some u s n ws = onward u s (AfterSort n ws) arrow (range_some u s n ws)

sig_some : (u s : Bool) (n : Signing) → Completes u s (NeedSig n)
sig_some u s n = onward u s (NeedSig n) arrow (range_some u s n [])

form_some : (u s : Bool) (n : Naming) (f : RawForm) → Completes u s (AfterForm n f)
form_some u s (Declared r fs) f =
    onward u s (AfterForm (Declared r fs) f) colon (sig_some u s (Declaration r (fs ++ f ∷ [])))
form_some u s (Referred c rs) f = ended_in u s (AfterForm (Referred c rs) f) _ refl
form_some u s (Formal name fs) f = onward u s (AfterForm (Formal name fs) f) close (formals_some u s name _)
form_some u s (Actual n) f = onward u s (AfterForm (Actual n) f) close (ref_some u s _ n.kind)
form_some u s (Renaming n) f =
    onward u s (AfterForm (Renaming n) f) for_token (onward u s (NeedForm (Renamed n f)) word (old_some u s n f _))
form_some u s (Renamed n f) g = old_some u s n f g
form_some u s (Converted r rs) f = ended_in u s (AfterForm (Converted r rs) f) _ refl
form_some u s Lone f = ended_in u s (AfterForm Lone f) _ refl

naming_some : (u s : Bool) (n : Naming) → Completes u s (NeedForm n)
naming_some u s n = onward u s (NeedForm n) word (form_some u s n _)

marks_some : (u s : Bool) (n : Naming) (front : Bool) (b : Bracket) (m : ℕ) (p : Pos)
    → Completes u s (AfterBracketMarker (form_bracket n front b p) m)
marks_some u s n front Square m p =
    onward u s (AfterBracketMarker (form_bracket n front Square p) m) close_square (form_some u s n _)
marks_some u s n front Curly m p =
    onward u s (AfterBracketMarker (form_bracket n front Curly p) m) close_curly (form_some u s n _)

by_some : (u s : Bool) (c : Clause) → Completes u s (NeedBy c)
by_some u s c = onward u s (NeedBy c) by (naming_some u s (Referred c []))

-- an equation is read
behind_some : (s : Bool) (e : RawEquation) (w : Waiting) → (z : Whole) × FitsBehind s e w [] z
behind_some s e Alone = (_, behind_fits s e Alone _ refl)
behind_some s e (Item j) = (_, behind_fits s e (Item (open_item j.raw j.variables j.equations)) _ refl)

-- a word in the frames of a term
word_done : (u s : Bool) (w : RawWord) (k : List Frame) → Completes u s (Have (call_tree w []) k)
    → Completes u s (AfterWord w (InInfixes None ∷ InEqualities None ∷ InConnectives None ∷ k))
word_done u s w k c =
    (c.0, c.1, (_, _, word_alone no_field, (_, _, no_symbol, (_, _, no_equality, (_, _, no_connective, c.2)))))

-- the word of the token, and as a term
abbrev the_word : RawWord
the_word = record { name = codes "x"; pos = start_of_text }

abbrev word_tree : RawTree
word_tree = call_tree the_word []

-- `else` and a word
else_some : (u s : Bool) (p : Pos) (a b : RawTree) (k : List Frame) → Completes u s (Have (if_tree p a b word_tree) k)
    → Completes u s (Have b (InThen p a ∷ k))
else_some u s p a b k c =
    onward u s (Have b (InThen p a ∷ k)) else
    (onward u s (NeedTerm (InElse p a b ∷ k)) word (word_done u s _ (InElse p a b ∷ k) c))

-- `then` and a word, `else` and a word
then_some : (u s : Bool) (p : Pos) (a : RawTree) (k : List Frame)
    → Completes u s (Have (if_tree p a word_tree word_tree) k) → Completes u s (Have a (InIf p ∷ k))
then_some u s p a k c =
    onward u s (Have a (InIf p ∷ k)) then
    (onward u s (NeedTerm (InThen p a ∷ k)) word (word_done u s _ (InThen p a ∷ k) (else_some u s p a word_tree k c)))

-- `;` behind the arguments of the word that begins an implied part
first_behind : (u s : Bool) (r : RawTrait) (w : RawWord) (ts : List RawTree) → Completes u s (BehindFirst r w ts)
first_behind u s r w ts =
    onward u s (BehindFirst r w ts) semicolon
    (ended_in u s (AfterSemicolon (open_item r [] (formula_of (call_tree w ts) w.pos ∷ []))) _ refl)

-- a term is read
have_some : (u s : Bool) (r : RawTree) (k : List Frame) → Completes u s (Have r k)
have_some u s r [] = ([], whole.Equation (formula_of r start_of_text), tt)
have_some u s r (InFields ∷ k) = let c = have_some u s r k in (c.0, c.1, (_, _, no_field, c.2))
have_some u s r (InStrays ∷ k) = let c = have_some u s r k in (c.0, c.1, (_, _, no_stray, c.2))
have_some u s r (Prefixed x ∷ k) = have_some u s (prefix_tree x r) k
have_some u s r (InPostfixes ∷ k) = let c = have_some u s r k in (c.0, c.1, (_, _, no_postfix, c.2))
have_some u s r (InInfixes None ∷ k) = let c = have_some u s r k in (c.0, c.1, (_, _, no_symbol, c.2))
have_some u s r (InInfixes (Some l) ∷ k) = let c = have_some u s (chain_tree (Some l) r) k in
    (c.0, c.1, (_, _, no_infix, c.2))
have_some u s r (InEqualities l ∷ k) = let c = have_some u s (chain_tree l r) k in (c.0, c.1, (_, _, no_equality, c.2))
have_some u s r (InConnectives l ∷ k) = let c = have_some u s (chain_tree l r) k in
    (c.0, c.1, (_, _, no_connective, c.2))
have_some u s r (InParentheses ∷ k) = onward u s (Have r (InParentheses ∷ k)) close (have_some u s r k)
have_some u s r (InList (Call w) ts ∷ k) =
    onward u s (Have r (InList (Call w) ts ∷ k)) close (have_some u s (listing_tree (Call w) (ts ++ r ∷ [])) k)
have_some u s r (InList (Bracketed Square l p) ts ∷ k) =
    onward u s (Have r (InList (Bracketed Square l p) ts ∷ k)) close_square
    (have_some u s (listing_tree (Bracketed Square l p) (ts ++ r ∷ [])) k)
have_some u s r (InList (Bracketed Curly l p) ts ∷ k) =
    onward u s (Have r (InList (Bracketed Curly l p) ts ∷ k)) close_curly
    (have_some u s (listing_tree (Bracketed Curly l p) (ts ++ r ∷ [])) k)
have_some u s r (InIf p ∷ k) = then_some u s p r k (have_some u s (if_tree p r word_tree word_tree) k)
have_some u s r (InThen p a ∷ k) = else_some u s p a r k (have_some u s (if_tree p a r word_tree) k)
have_some u s r (InElse p a b ∷ k) = have_some u s (if_tree p a b r) k
have_some u s r (InLeft p w ∷ k) = let c = behind_some s (formula_of r p) w in ([], c.0, inl c.1)
have_some u s r (InList (call_first raw w) ts ∷ k) =
    onward u s (Have r (InList (call_first raw w) ts ∷ k)) close (first_behind u s raw w (ts ++ r ∷ []))
have_some u s r (InExempted p c ∷ k) = ([], _, ([], _, no_exempted, (_, no_conversion, refl)))
have_some u s r (InRight p l q w ∷ k) = let c = behind_some s (equation_of l q r p) w in ([], c.0, c.1)

-- a word of a term is read
word_some : (u s : Bool) (w : RawWord) (k : List Frame) → Completes u s (AfterWord w k)
word_some u s w k = let c = have_some u s (call_tree w []) (InFields ∷ k) in
    (c.0, c.1, (c.2.0, c.2.1, word_alone c.2.2, c.2.3))

group_some : (u s : Bool) (r : VariablesFor) (vs : List RawVar) → Completes u s (AfterGroup r vs)
group_some u s (Quantified r) vs =
    onward u s (AfterGroup (Quantified r) vs) word
    (word_some u s the_word (word_frames the_word (Item (open_item r vs []))))
group_some u s (Exempted r rs) vs =
    onward u s (AfterGroup (Exempted r rs) vs) word
    (word_some u s the_word (InInfixes None ∷ InEqualities None ∷ InConnectives None
    ∷ InExempted start_of_text (open_conversion r rs vs []) ∷ []))

names_some : (u s : Bool) (r : VariablesFor) (vs : List RawVar) (ws : List RawWord)
    → Completes u s (AfterVariable r vs ws)
names_some u s r vs ws =
    onward u s (AfterVariable r vs ws) colon (onward u s (NeedVariableSort r vs ws) word (group_some u s r _))

first_some : (u s : Bool) (b : Bracket) (l : Option RawTree) (p : Pos) (k : List Frame)
    → Completes u s (NeedFirst b l p k)
first_some u s Square l p k =
    onward u s (NeedFirst Square l p k) close_square (have_some u s (bracket_tree Square l p []) (InFields ∷ k))
first_some u s Curly l p k =
    onward u s (NeedFirst Curly l p k) close_curly (have_some u s (bracket_tree Curly l p []) (InFields ∷ k))

brackets_some : (u s : Bool) (n : Naming) (front : Bool) (b : Bracket) (p : Pos)
    → Completes u s (AfterFormBracket (form_bracket n front b p))
brackets_some u s n front b p =
    onward u s (AfterFormBracket (form_bracket n front b p)) marker (marks_some u s n front b 1 p)

name_some : (u s : Bool) (w : RawWord) → Completes u s (AfterName w)
name_some u s w = onward u s (AfterName w) colon (head_some u s w [])

-- every state can be completed
pub some_fit : (u s : Bool) (n : State) → (i : List (Token × Mark)) × (z : Whole) × Fits s n (map (as_marked u) i) z
some_fit u s Start = onward u s Start word (name_some u s _)
some_fit u s (AfterName w) = name_some u s w
some_fit u s (AfterFormals w fs) = formals_some u s w fs
some_fit u s (NeedTrait w fs) = head_some u s w fs
some_fit u s (AfterHead r) = ended_in u s (AfterHead r) _ refl
some_fit u s (ShortWord r w) = onward u s (ShortWord r w) enumeration_token (constants_some u s r w)
some_fit u s (NeedConstants r w) = constants_some u s r w
some_fit u s (NeedConstant r sort ws) = constant_some u s r sort ws
some_fit u s (AfterConstant r sort ws) = ended_in u s (AfterConstant r sort ws) _ refl
some_fit u s (NeedFields r kind w) =
    onward u s (NeedFields r kind w) of_token (fields_some u s (open_fields r kind w []))
some_fit u s (NeedName n) = fields_some u s n
some_fit u s (AfterNames n ws) = field_names_some u s n ws
some_fit u s (NeedFurtherName n ws) = onward u s (NeedFurtherName n ws) word (field_names_some u s n _)
some_fit u s (NeedNamesSort n ws) = sort_some u s n ws
some_fit u s (AfterField n) = ended_in u s (AfterField n) _ refl
some_fit u s (NeedRef r b) = onward u s (NeedRef r b) word (ended_in u s (AfterRefName r b _) _ refl)
some_fit u s (AfterRefName r b w) = ended_in u s (AfterRefName r b w) _ refl
some_fit u s (AfterTraitRef r b) = ref_some u s r b
some_fit u s (AfterRename n) = rename_some u s n
some_fit u s (InPart r) = ended_in u s (InPart r) _ refl
some_fit u s (NeedForm n) = naming_some u s n
some_fit u s (AfterSymbolForm n x) = onward u s (AfterSymbolForm n x) marker (form_some u s n _)
some_fit u s (AfterDotForm n p) = onward u s (AfterDotForm n p) word (form_some u s n _)
some_fit u s (AfterLeadingMarker n p) =
    onward u s (AfterLeadingMarker n p) symbol (onward u s (AfterMarkerSymbol n p _) marker (form_some u s n _))
some_fit u s (AfterMarkerSymbol n p x) = onward u s (AfterMarkerSymbol n p x) marker (form_some u s n _)
some_fit u s (AfterFormBracket c) = brackets_some u s c.naming c.behind c.bracket c.pos
some_fit u s (AfterBracketMarker c m) = marks_some u s c.naming c.behind c.bracket m c.pos
some_fit u s (NeedBracketMarker c m) =
    onward u s (NeedBracketMarker c m) marker (marks_some u s c.naming c.behind c.bracket _ c.pos)
some_fit u s (AfterForm n f) = form_some u s n f
some_fit u s (NeedSig n) = sig_some u s n
some_fit u s (AfterSort n ws) = sorts_some u s n ws
some_fit u s (NeedSort n ws) = onward u s (NeedSort n ws) word (sorts_some u s n _)
some_fit u s (NeedRange n ws) = range_some u s n ws
some_fit u s (AfterOperatorRef c rs) = ended_in u s (AfterOperatorRef c rs) _ refl
some_fit u s (AfterLone r) = ended_in u s (AfterLone r) _ refl
some_fit u s (InItems r) = ended_in u s (InItems r) _ refl
some_fit u s (FirstWord r w) = ended_in u s (FirstWord r w) _ refl
some_fit u s (AfterSemicolon j) = ended_in u s (AfterSemicolon (open_item j.raw j.variables j.equations)) _ refl
some_fit u s (WordBehind j w) = ended_in u s (WordBehind (open_item j.raw j.variables j.equations) w) _ refl
some_fit u s (ClauseWord r w) =
    onward u s (ClauseWord r w) generated (by_some u s (record { raw = r; kind = clause_kind.Generated; sort = w }))
some_fit u s (NeedBy c) = by_some u s c
some_fit u s (NeedVariable r vs) = onward u s (NeedVariable r vs) word (names_some u s r vs _)
some_fit u s (AfterVariable r vs ws) = names_some u s r vs ws
some_fit u s (NeedFurtherVariable r vs ws) = onward u s (NeedFurtherVariable r vs ws) word (names_some u s r vs _)
some_fit u s (NeedVariableSort r vs ws) = onward u s (NeedVariableSort r vs ws) word (group_some u s r _)
some_fit u s (AfterGroup r vs) = group_some u s r vs
some_fit u s (AfterImplies r) = ended_in u s (AfterImplies r) _ refl
some_fit u s (ImpliedWord r w) =
    onward u s (ImpliedWord r w) semicolon
    (ended_in u s (AfterSemicolon (open_item r [] (formula_of (call_tree w []) w.pos ∷ []))) _ refl)
some_fit u s (BehindFirst r w ts) = first_behind u s r w ts
some_fit u s (AfterConverted r rs) = ended_in u s (AfterConverted r rs) _ refl
some_fit u s (NeedExempted r rs) =
    onward u s (NeedExempted r rs) word
    (word_some u s the_word (InInfixes None ∷ InEqualities None ∷ InConnectives None
    ∷ InExempted start_of_text (open_conversion r rs [] []) ∷ []))
some_fit u s (NeedFurtherExempted c) =
    onward u s (NeedFurtherExempted c) word
    (word_some u s the_word (InInfixes None ∷ InEqualities None ∷ InConnectives None ∷ InExempted start_of_text c ∷ []))
some_fit u s (NeedEquation w) = onward u s (NeedEquation w) word (word_some u s the_word (word_frames the_word w))
some_fit u s (NeedTerm k) =
    onward u s (NeedTerm k) word (word_some u s the_word (InInfixes None ∷ InEqualities None ∷ InConnectives None ∷ k))
some_fit u s (NeedOperand k) = onward u s (NeedOperand k) word (word_some u s the_word (InInfixes None ∷ k))
some_fit u s (NeedPrefixed k) = onward u s (NeedPrefixed k) word (word_some u s the_word (InStrays ∷ k))
some_fit u s (NeedPost k) = onward u s (NeedPost k) word (word_some u s the_word k)
some_fit u s (NeedField r p k) =
    onward u s (NeedField r p k) word (have_some u s (field_tree p the_word r) (InFields ∷ k))
some_fit u s (NeedSortOf r p k) = onward u s (NeedSortOf r p k) word (have_some u s (qualified r the_word p) k)
some_fit u s (AfterWord w k) = word_some u s w k
some_fit u s (NeedFirst b l p k) = first_some u s b l p k
some_fit u s (AfterSymbol x r k) =
    onward u s (AfterSymbol x r k) word
    (word_some u s the_word (InInfixes (Some (record { symbol = x; left = r })) ∷ k))
some_fit u s (Have r k) = have_some u s r k
