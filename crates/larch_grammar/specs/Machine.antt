-- The machine that takes one token at a time. It answers the mark of the token and the state behind it, or nothing
-- where no text of the grammar goes on so.
use Rattle.std.specs.Prelude.{ℕ, suc, Bool, true, false, cond, Option, Some, None, List, [], ◌∷◌, ◌++◌}
use Rattle.larch_base.specs.declared.position.Pos.{Pos}
use Rattle.larch_lexer.specs.declared.token.Token.{Token}
use Rattle.larch_grammar_law.specs.declared.mark.Mark.{Mark}
use Rattle.larch_grammar_law.specs.declared.mark.Mark.TheVariants as mark
use Rattle.larch_raw.specs.declared.declared.RawForm.{RawForm}
use Rattle.larch_raw.specs.declared.declared.RawOpRef.{RawOpRef}
use Rattle.larch_raw.specs.declared.declared.RawSig.{RawSig}
use Rattle.larch_raw.specs.declared.declared.RawWord.{RawWord}
use Rattle.larch_raw.specs.declared.equation.RawEquation.{RawEquation}
use Rattle.larch_raw.specs.declared.equation.ClauseKind.TheVariants as clause_kind
use Rattle.larch_raw.specs.declared.equation.RawItem.TheVariants as item
use Rattle.larch_raw.specs.declared.equation.RawTrait.{RawTrait}
use Rattle.larch_raw.specs.declared.equation.RawVar.{RawVar}
use Rattle.larch_raw.specs.declared.reference.RawActual.TheVariants as actual
use Rattle.larch_raw.specs.declared.shorthand.RawShorthand.TheVariants as shorthand
use Rattle.larch_raw.specs.RawTree.{RawTree, qualified}
use Rattle.larch_grammar.specs.declared.terminal.Bracket.{Bracket}
use Rattle.larch_grammar.specs.declared.terminal.Bracket.TheVariants.{Square, Curly}
use Rattle.larch_grammar.specs.declared.terminal.Terminal.{Terminal}
use Rattle.larch_grammar.specs.declared.terminal.Terminal.TheVariants.{Word, Symbol, Not, Connective, Equality, Equates}
use Rattle.larch_grammar.specs.declared.terminal.Terminal.TheVariants.{Arrow, Colon, Comma, Semicolon, Dot, Marker}
use Rattle.larch_grammar.specs.declared.terminal.Terminal.TheVariants.{Open, Close, OpenBracket, CloseBracket, ForAll}
use Rattle.larch_grammar.specs.declared.terminal.Terminal.TheVariants.{Trait, Introduces, Asserts, Implies, Converts}
use Rattle.larch_grammar.specs.declared.terminal.Terminal.TheVariants.{Exempting, Generated, Partitioned, By, Includes}
use Rattle.larch_grammar.specs.declared.terminal.Terminal.TheVariants.{Assumes, For, Enumeration, Tuple, Union, Of, If}
use Rattle.larch_grammar.specs.declared.terminal.Terminal.TheVariants.{Then, Else}
use Rattle.larch_grammar.specs.declared.machine.Clause.{Clause}
use Rattle.larch_grammar.specs.declared.machine.FieldsKind.TheVariants as fields_kind
use Rattle.larch_grammar.specs.declared.machine.FormBracket.{FormBracket}
use Rattle.larch_grammar.specs.declared.machine.Frame.{Frame}
use Rattle.larch_grammar.specs.declared.machine.Frame.TheVariants.{InFields, InStrays, Prefixed, InPostfixes, InInfixes}
use Rattle.larch_grammar.specs.declared.machine.Frame.TheVariants.{InEqualities, InConnectives, InParentheses, InList}
use Rattle.larch_grammar.specs.declared.machine.Frame.TheVariants.{InIf, InThen, InElse, InLeft, InRight, InExempted}
use Rattle.larch_grammar.specs.declared.machine.Link.{Link}
use Rattle.larch_grammar.specs.declared.machine.Listing.{Listing}
use Rattle.larch_grammar.specs.declared.machine.Listing.TheVariants.{Call, First as call_first, Bracketed}
use Rattle.larch_grammar.specs.declared.machine.Naming.{Naming}
use Rattle.larch_grammar.specs.declared.machine.Naming.TheVariants.{Declared, Referred, Formal, Actual, Renaming}
use Rattle.larch_grammar.specs.declared.machine.Naming.TheVariants.{Renamed, Lone, Converted}
use Rattle.larch_grammar.specs.declared.machine.OpenConversion.{OpenConversion}
use Rattle.larch_grammar.specs.declared.machine.OpenFields.{OpenFields}
use Rattle.larch_grammar.specs.declared.machine.OpenItem.{OpenItem}
use Rattle.larch_grammar.specs.declared.machine.OpenRef.{OpenRef}
use Rattle.larch_grammar.specs.declared.machine.RefKind.{RefKind}
use Rattle.larch_grammar.specs.declared.machine.RefKind.TheVariants.{Included, Assumed, First, Further}
use Rattle.larch_grammar.specs.declared.machine.VariablesFor.{VariablesFor}
use Rattle.larch_grammar.specs.declared.machine.VariablesFor.TheVariants.{Quantified, Exempted}
use Rattle.larch_grammar.specs.declared.machine.Signing.{Signing}
use Rattle.larch_grammar.specs.declared.machine.Signing.TheVariants.{Declaration, Reference, Replacement, LoneForm}
use Rattle.larch_grammar.specs.declared.machine.Signing.TheVariants.{Conversion}
use Rattle.larch_grammar.specs.declared.machine.State.{State}
use Rattle.larch_grammar.specs.declared.machine.State.TheVariants.{Start, AfterName, AfterFormals, NeedTrait, AfterHead}
use Rattle.larch_grammar.specs.declared.machine.State.TheVariants.{ShortWord, NeedConstants, NeedConstant}
use Rattle.larch_grammar.specs.declared.machine.State.TheVariants.{AfterConstant, NeedFields, NeedName, AfterNames}
use Rattle.larch_grammar.specs.declared.machine.State.TheVariants.{NeedFurtherName, NeedNamesSort, AfterField, NeedRef}
use Rattle.larch_grammar.specs.declared.machine.State.TheVariants.{AfterRefName, AfterTraitRef, AfterRename, InPart}
use Rattle.larch_grammar.specs.declared.machine.State.TheVariants.{NeedForm, AfterSymbolForm, AfterDotForm}
use Rattle.larch_grammar.specs.declared.machine.State.TheVariants.{AfterLeadingMarker, AfterMarkerSymbol}
use Rattle.larch_grammar.specs.declared.machine.State.TheVariants.{AfterFormBracket, AfterBracketMarker}
use Rattle.larch_grammar.specs.declared.machine.State.TheVariants.{NeedBracketMarker, AfterForm, NeedSig, AfterSort}
use Rattle.larch_grammar.specs.declared.machine.State.TheVariants.{NeedSort, NeedRange, AfterOperatorRef, AfterLone}
use Rattle.larch_grammar.specs.declared.machine.State.TheVariants.{InItems, FirstWord, AfterSemicolon, WordBehind}
use Rattle.larch_grammar.specs.declared.machine.State.TheVariants.{ClauseWord, NeedBy, NeedVariable, AfterVariable}
use Rattle.larch_grammar.specs.declared.machine.State.TheVariants.{NeedFurtherVariable, NeedVariableSort, AfterGroup}
use Rattle.larch_grammar.specs.declared.machine.State.TheVariants.{AfterImplies, ImpliedWord, BehindFirst}
use Rattle.larch_grammar.specs.declared.machine.State.TheVariants.{AfterConverted, NeedExempted, NeedFurtherExempted}
use Rattle.larch_grammar.specs.declared.machine.State.TheVariants.{NeedEquation, NeedTerm, NeedOperand, NeedPrefixed}
use Rattle.larch_grammar.specs.declared.machine.State.TheVariants.{NeedPost, NeedField, NeedSortOf, AfterWord}
use Rattle.larch_grammar.specs.declared.machine.State.TheVariants.{NeedFirst, AfterSymbol, Have}
use Rattle.larch_grammar.specs.declared.machine.Waiting.{Waiting}
use Rattle.larch_grammar.specs.declared.machine.Waiting.TheVariants.{Alone, Item}
use Rattle.larch_grammar.specs.declared.machine.Whole.{Whole}
use Rattle.larch_grammar.specs.declared.machine.Whole.TheVariants as whole
use Rattle.larch_grammar.specs.Composition.{close_fields, close_ref, fields_at, next_kind, open_fields, open_ref}
use Rattle.larch_grammar.specs.Composition.{with_actual, with_fields, with_shorthand}
use Rattle.larch_grammar.specs.Depth.{depth_of}
use Rattle.larch_grammar.specs.Form.{variables_at}
use Rattle.larch_grammar.specs.Terminal.{ends_reference, terminal_of, position_of}
use Rattle.larch_grammar.specs.Terms.{opens, opens_head, chain_link, formula_of, equation_of}
use Rattle.larch_grammar.specs.Traits.{implying, empty_trait, with_conversion, with_declaration, with_item}
use Rattle.larch_grammar.specs.Traits.{with_equations}
use Rattle.larch_grammar.specs.Trees.{infix_name, prefix_name, postfix_name, field_name, prefix_tree, postfix_tree}
use Rattle.larch_grammar.specs.Trees.{field_tree, call_tree, bracket_tree, listing_tree, if_tree, chain_tree, mixfix}
use Rattle.larch_grammar.specs.Trees.{plain_form, bracket_form}

-- the mark and the state of a step, if there is one
abbrev pub Taking : Type 0
Taking = Option (Mark × State)

-- a token outside all equations
abbrev pub outside : State → Taking
outside after = Some (mark.Outside, after)

-- a token of an equation at which nothing is counted
abbrev pub plainly : State → Taking
plainly after = Some (mark.Plain, after)

-- a head token
abbrev pub at_head : State → Taking
at_head after = Some (mark.Head, after)

-- terms: what begins a Post

-- a bracket opens, behind this operand if there is one
abbrev pub open_bracket : Bracket → Pos → Option RawTree → List Frame → Taking
open_bracket b p l k = Some (opens_head (suc (depth_of k)), NeedFirst b l p k)

-- the first token of a Post
abbrev pub begin_post : Terminal → List Frame → Taking
begin_post (Word w) k = at_head (AfterWord w k)
begin_post (Open p) k = Some (opens (suc (depth_of k)), NeedTerm (InParentheses ∷ InFields ∷ k))
begin_post (OpenBracket b p) k = open_bracket b p None k
begin_post _ k = None

-- the first token behind a prefix symbol
abbrev pub begin_prefixed : Terminal → List Frame → Taking
begin_prefixed (Symbol x) k = at_head (NeedPrefixed (Prefixed x ∷ k))
begin_prefixed (Not x) k = at_head (NeedPrefixed (Prefixed x ∷ k))
begin_prefixed t k = begin_post t (InStrays ∷ k)

-- the first token of an Oper
abbrev pub begin_operand : Terminal → List Frame → Taking
begin_operand (Symbol x) k = at_head (NeedPrefixed (Prefixed x ∷ k))
begin_operand (Not x) k = at_head (NeedPrefixed (Prefixed x ∷ k))
begin_operand t k = begin_post t (InInfixes None ∷ k)

-- the first token of a term
abbrev pub begin_term : Terminal → List Frame → Taking
begin_term (If p) k = Some (opens_head (suc (depth_of k)), NeedTerm (InIf p ∷ k))
begin_term t k = begin_operand t (InEqualities None ∷ InConnectives None ∷ k)

-- the first token of an equation
abbrev pub begin_equation : Terminal → Waiting → Taking
begin_equation t w = begin_term t (InLeft (position_of t) w ∷ [])

-- items: what may stand where an item may begin

-- an open item: the trait before it, its variables and its equations
abbrev pub open_item : RawTrait → List RawVar → List RawEquation → OpenItem
open_item raw vs es = record { raw = raw; variables = vs; equations = es }

-- `implies` is read, and whether references follow it
abbrev pub behind_implies : Bool → RawTrait → State
behind_implies false raw = AfterImplies raw
behind_implies true raw = NeedRef raw First

-- a part behind the declarations
abbrev pub begin_claim : RawTrait → Terminal → Taking
begin_claim raw Asserts = cond raw.implies None (outside (InItems raw))
begin_claim raw (Implies lists) = cond raw.implies None (outside (behind_implies lists (implying raw)))
begin_claim raw Converts = outside (NeedForm (Converted raw []))
begin_claim raw _ = None

-- a part, or an item that needs no `;` before it
abbrev pub begin_part : RawTrait → Terminal → Taking
begin_part raw ForAll = outside (NeedVariable (Quantified raw) [])
begin_part raw t = begin_claim raw t

-- the first token of any item, or a part
abbrev pub begin_item : RawTrait → Terminal → Taking
begin_item raw (Word w) = at_head (FirstWord raw w)
begin_item raw ForAll = begin_part raw ForAll
begin_item raw Asserts = begin_part raw Asserts
begin_item raw (Implies lists) = begin_part raw (Implies lists)
begin_item raw Converts = begin_part raw Converts
begin_item raw t = begin_equation t (Item (open_item raw [] []))

-- an equation is read, and a token stands behind it
abbrev pub hand_equation : RawEquation → Waiting → Terminal → Taking
hand_equation e Alone t = None
hand_equation e (Item j) Semicolon = outside (AfterSemicolon (open_item j.raw j.variables (j.equations ++ e ∷ [])))
hand_equation e (Item j) (Word w) = outside (ClauseWord (with_equations j.raw j.variables (j.equations ++ e ∷ [])) w)
hand_equation e (Item j) t = begin_part (with_equations j.raw j.variables (j.equations ++ e ∷ [])) t

-- the symbol of a chain
abbrev pub symbol_of : Option Link → Option RawWord
symbol_of None = None
symbol_of (Some link) = Some link.symbol

-- a term of a list is read: another one follows, or the list ends
abbrev pub hand_list : RawTree → Listing → List RawTree → List Frame → Terminal → Taking
hand_list r h ts k Comma = plainly (NeedTerm (InList h (ts ++ r ∷ []) ∷ k))
hand_list r (Call w) ts k Close = plainly (Have (listing_tree (Call w) (ts ++ r ∷ [])) k)
hand_list r (call_first raw w) ts k Close = plainly (BehindFirst raw w (ts ++ r ∷ []))
hand_list r (Bracketed Square l p) ts k (CloseBracket Square) =
    plainly (Have (listing_tree (Bracketed Square l p) (ts ++ r ∷ [])) k)
hand_list r (Bracketed Curly l p) ts k (CloseBracket Curly) =
    plainly (Have (listing_tree (Bracketed Curly l p) (ts ++ r ∷ [])) k)
hand_list r h ts k _ = None

-- conversions

-- a conversion that is open
abbrev pub open_conversion : RawTrait → List RawOpRef → List RawVar → List RawEquation → OpenConversion
open_conversion raw rs vs es = record { raw = raw; converted = rs; variables = vs; exempted = es }

-- the same with a term more that is exempted
abbrev pub with_exempted : OpenConversion → RawEquation → OpenConversion
with_exempted c e = record c { exempted = c.exempted ++ e ∷ [] }

-- the trait with it as a conversion more
abbrev pub close_conversion : OpenConversion → RawTrait
close_conversion c = with_conversion c.raw c.converted c.variables c.exempted

-- a further conversion
abbrev pub begin_conversion : RawTrait → Terminal → Taking
begin_conversion raw Converts = outside (NeedForm (Converted raw []))
begin_conversion raw _ = None

-- a term that is exempted is read, the last of these, and a token stands behind it
abbrev pub hand_exempted : OpenConversion → Terminal → Taking
hand_exempted c Comma = outside (NeedFurtherExempted c)
hand_exempted c t = begin_conversion (close_conversion c) t

-- the first token of a term that is exempted
abbrev pub begin_exempted : OpenConversion → Terminal → Taking
begin_exempted c t = begin_term t (InExempted (position_of t) c ∷ [])

-- `exempting` is read
abbrev pub need_exempted : RawTrait → List RawOpRef → Terminal → Taking
need_exempted raw rs ForAll = outside (NeedVariable (Exempted raw rs) [])
need_exempted raw rs t = begin_exempted (open_conversion raw rs [] []) t

-- a reference of a conversion is read, the last of these, and a token stands behind it
abbrev pub after_converted : RawTrait → List RawOpRef → Terminal → Taking
after_converted raw rs Comma = outside (NeedForm (Converted raw rs))
after_converted raw rs Exempting = outside (NeedExempted raw rs)
after_converted raw rs t = begin_conversion (with_conversion raw rs [] []) t

-- a term is read, and a token stands behind it: the innermost frame takes the token, or hands on what it makes of the
-- term
abbrev pub hand : Bool → RawTree → List Frame → Terminal → Taking
hand s r [] t = None
hand s r (InFields ∷ k) (Dot p) = at_head (NeedField r p k)
hand s r (InFields ∷ k) (Colon p) = at_head (NeedSortOf r p k)
hand s r (InFields ∷ k) (OpenBracket b p) = open_bracket b p (Some r) k
hand s r (InFields ∷ k) t = hand s r k t
hand s r (InStrays ∷ k) (Symbol x) = cond s (Some (mark.Chained true, Have (postfix_tree x r) (InStrays ∷ k))) None
hand s r (InStrays ∷ k) t = hand s r k t
hand s r (Prefixed x ∷ k) t = hand s (prefix_tree x r) k t
hand s r (InPostfixes ∷ k) (Symbol x) = at_head (Have (postfix_tree x r) (InPostfixes ∷ k))
hand s r (InPostfixes ∷ k) t = hand s r k t
hand s r (InInfixes None ∷ k) (Symbol x) = at_head (AfterSymbol x r k)
hand s r (InInfixes None ∷ k) t = hand s r k t
hand s r (InInfixes (Some l) ∷ k) (Symbol x) =
    Some (
      chain_link (Some l.symbol) x,
      NeedPost (InInfixes (Some (record { symbol = x; left = chain_tree (Some l) r })) ∷ k),
    )
hand s r (InInfixes (Some l) ∷ k) t = hand s (chain_tree (Some l) r) k t
hand s r (InEqualities l ∷ k) (Equality x) =
    Some (
      chain_link (symbol_of l) x,
      NeedOperand (InEqualities (Some (record { symbol = x; left = chain_tree l r })) ∷ k),
    )
hand s r (InEqualities l ∷ k) t = hand s (chain_tree l r) k t
hand s r (InConnectives l ∷ k) (Connective x) =
    Some (
      chain_link (symbol_of l) x,
      NeedOperand (InEqualities None ∷ InConnectives (Some (record { symbol = x; left = chain_tree l r })) ∷ k),
    )
hand s r (InConnectives l ∷ k) t = hand s (chain_tree l r) k t
hand s r (InParentheses ∷ k) Close = plainly (Have r k)
hand s r (InParentheses ∷ k) t = None
hand s r (InList h ts ∷ k) t = hand_list r h ts k t
hand s r (InIf p ∷ k) Then = plainly (NeedTerm (InThen p r ∷ k))
hand s r (InIf p ∷ k) t = None
hand s r (InThen p a ∷ k) Else = plainly (NeedTerm (InElse p a r ∷ k))
hand s r (InThen p a ∷ k) t = None
hand s r (InElse p a b ∷ k) t = hand s (if_tree p a b r) k t
hand s r (InLeft p w ∷ k) (Equates q) = at_head (NeedTerm (InRight p r q w ∷ k))
hand s r (InLeft p w ∷ k) t = hand_equation (formula_of r p) w t
hand s r (InRight p l q w ∷ k) t = hand_equation (equation_of l q r p) w t
hand s r (InExempted p c ∷ k) t = hand_exempted (with_exempted c (formula_of r p)) t

-- the whole, where the tokens may end behind an equation
abbrev pub end_equation : RawEquation → Waiting → Option Whole
end_equation e Alone = Some (whole.Equation e)
end_equation e (Item j) = Some (whole.Trait (with_equations j.raw j.variables (j.equations ++ e ∷ [])))

-- the whole, where the tokens may end behind a term
abbrev pub finish : RawTree → List Frame → Option Whole
finish r [] = None
finish r (InFields ∷ k) = finish r k
finish r (InStrays ∷ k) = finish r k
finish r (Prefixed x ∷ k) = finish (prefix_tree x r) k
finish r (InPostfixes ∷ k) = finish r k
finish r (InInfixes l ∷ k) = finish (chain_tree l r) k
finish r (InEqualities l ∷ k) = finish (chain_tree l r) k
finish r (InConnectives l ∷ k) = finish (chain_tree l r) k
finish r (InParentheses ∷ k) = None
finish r (InList h ts ∷ k) = None
finish r (InIf p ∷ k) = None
finish r (InThen p a ∷ k) = None
finish r (InElse p a b ∷ k) = finish (if_tree p a b r) k
finish r (InLeft p w ∷ k) = end_equation (formula_of r p) w
finish r (InRight p l q w ∷ k) = end_equation (equation_of l q r p) w
finish r (InExempted p c ∷ k) = Some (whole.Trait (close_conversion (with_exempted c (formula_of r p))))

-- a word is read: its arguments begin, or it stands alone
abbrev pub after_word : Bool → RawWord → List Frame → Terminal → Taking
after_word s w k (Open p) = Some (opens (suc (depth_of k)), NeedTerm (InList (Call w) [] ∷ InFields ∷ k))
after_word s w k t = hand s (call_tree w []) (InFields ∷ k) t

-- a bracket is open: it ends, or its first term begins
abbrev pub begin_bracket : Bracket → Option RawTree → Pos → List Frame → Terminal → Taking
begin_bracket Square l p k (CloseBracket Square) = plainly (Have (bracket_tree Square l p []) (InFields ∷ k))
begin_bracket Curly l p k (CloseBracket Curly) = plainly (Have (bracket_tree Curly l p []) (InFields ∷ k))
begin_bracket b l p k t = begin_term t (InList (Bracketed b l p) [] ∷ InFields ∷ k)

-- a term and a symbol are read: the symbol is infix where a Post begins, and postfix elsewhere
abbrev pub after_symbol : Bool → RawWord → RawTree → List Frame → Terminal → Taking
after_symbol s x r k (Word w) = begin_post (Word w) (InInfixes (Some (record { symbol = x; left = r })) ∷ k)
after_symbol s x r k (Open p) = begin_post (Open p) (InInfixes (Some (record { symbol = x; left = r })) ∷ k)
after_symbol s x r k (OpenBracket b p) =
    begin_post (OpenBracket b p) (InInfixes (Some (record { symbol = x; left = r })) ∷ k)
after_symbol s x r k t = hand s (postfix_tree x r) (InPostfixes ∷ k) t

-- the frames of an equation that begins with a word
abbrev pub word_frames : RawWord → Waiting → List Frame
word_frames w e = InInfixes None ∷ InEqualities None ∷ InConnectives None ∷ InLeft w.pos e ∷ []

-- forms, signatures and clauses

-- a bracket that is open in a form
abbrev pub form_bracket : Naming → Bool → Bracket → Pos → FormBracket
form_bracket n behind b p = record { naming = n; behind = behind; bracket = b; pos = p }

-- the first token of a form
abbrev pub begin_form : Naming → Terminal → Taking
begin_form n (Word w) = outside (AfterForm n (plain_form w))
begin_form n (Symbol x) = outside (AfterSymbolForm n x)
begin_form n (Dot p) = outside (AfterDotForm n p)
begin_form n (Marker p) = outside (AfterLeadingMarker n p)
begin_form n (OpenBracket b p) = outside (AfterFormBracket (form_bracket n false b p))
begin_form n _ = None

-- the trait with a clause of these references
abbrev pub with_clause : Clause → List RawOpRef → RawTrait
with_clause c rs = with_item c.raw (item.Clause c.kind c.sort rs)

-- a reference is read, the last of these, and a token stands behind it
abbrev pub after_operator_ref : Clause → List RawOpRef → Terminal → Taking
after_operator_ref c rs Comma = outside (NeedForm (Referred c rs))
after_operator_ref c rs Semicolon = outside (InItems (with_clause c rs))
after_operator_ref c rs t = begin_item (with_clause c rs) t

-- the references with one more, which is a form alone
abbrev pub with_reference : List RawOpRef → RawForm → List RawOpRef
with_reference rs f = rs ++ record { form = f; sig = None } ∷ []

-- an actual is read, the last of these, and a token stands behind it
abbrev pub after_actual : OpenRef → Terminal → Taking
after_actual o Comma = outside (NeedForm (Actual o))
after_actual o Close = outside (AfterTraitRef (close_ref o) o.kind)
after_actual o _ = None

-- the same of a replacement
abbrev pub after_rename : OpenRef → Terminal → Taking
after_rename o Comma = outside (NeedForm (Renaming o))
after_rename o Close = outside (AfterTraitRef (close_ref o) o.kind)
after_rename o _ = None

-- a form is read, and a token stands behind it
abbrev pub after_form : Naming → RawForm → Terminal → Taking
after_form (Declared raw fs) f Comma = outside (NeedForm (Declared raw (fs ++ f ∷ [])))
after_form (Declared raw fs) f (Colon p) = outside (NeedSig (Declaration raw (fs ++ f ∷ [])))
after_form (Declared raw fs) f _ = None
after_form (Referred c rs) f (Colon p) = outside (NeedSig (Reference c rs f))
after_form (Referred c rs) f t = after_operator_ref c (with_reference rs f) t
after_form (Formal name fs) f Comma = outside (NeedForm (Formal name (fs ++ f ∷ [])))
after_form (Formal name fs) f Close = outside (AfterFormals name (fs ++ f ∷ []))
after_form (Formal name fs) f _ = None
after_form (Actual o) f For = outside (NeedForm (Renamed o f))
after_form (Actual o) f t = after_actual (with_actual o (actual.Plain f)) t
after_form (Renaming o) f For = outside (NeedForm (Renamed o f))
after_form (Renaming o) f _ = None
after_form (Renamed o f) g (Colon p) = outside (NeedSig (Replacement o f g))
after_form (Renamed o f) g t = after_rename (with_actual o (actual.Replace f g None)) t
after_form Lone f (Colon p) = outside (NeedSig (LoneForm f))
after_form Lone f _ = None
after_form (Converted raw rs) f (Colon p) = outside (NeedSig (Conversion raw rs f))
after_form (Converted raw rs) f t = after_converted raw (with_reference rs f) t

-- a signature is read: what waits for it takes it
abbrev pub hand_sig : Signing → RawSig → State
hand_sig (Declaration raw fs) sig = InPart (with_declaration raw (record { forms = fs; sig = sig }))
hand_sig (Reference c rs f) sig = AfterOperatorRef c (rs ++ record { form = f; sig = Some sig } ∷ [])
hand_sig (Replacement o f g) sig = AfterRename (with_actual o (actual.Replace f g (Some sig)))
hand_sig (LoneForm f) sig = AfterLone (record { form = f; sig = Some sig })
hand_sig (Conversion raw rs f) sig = AfterConverted raw (rs ++ record { form = f; sig = Some sig } ∷ [])

-- a symbol that begins a form is read
abbrev pub after_symbol_form : Naming → RawWord → Terminal → Taking
after_symbol_form n x (Marker p) = outside (AfterForm n (mixfix (prefix_name x.name) 1 x.pos))
after_symbol_form n x t = after_form n (mixfix (infix_name x.name) 2 x.pos) t

-- a `__` that begins a form is read
abbrev pub after_leading_marker : Naming → Pos → Terminal → Taking
after_leading_marker n p (Dot q) = outside (AfterDotForm n p)
after_leading_marker n p (Symbol x) = outside (AfterMarkerSymbol n p x)
after_leading_marker n p (OpenBracket b q) = outside (AfterFormBracket (form_bracket n true b p))
after_leading_marker n p _ = None

-- a `__` and a symbol are read
abbrev pub after_marker_symbol : Naming → Pos → RawWord → Terminal → Taking
after_marker_symbol n p x (Marker q) = outside (AfterForm n (mixfix (infix_name x.name) 2 p))
after_marker_symbol n p x t = after_form n (mixfix (postfix_name x.name) 1 p) t

-- the bracket of a form ends
abbrev pub end_marks : Naming → Bool → Bracket → ℕ → Pos → Terminal → Taking
end_marks n behind Square m p (CloseBracket Square) = outside (AfterForm n (bracket_form behind Square m p))
end_marks n behind Curly m p (CloseBracket Curly) = outside (AfterForm n (bracket_form behind Curly m p))
end_marks n behind b m p _ = None

-- a bracket of a form is open
abbrev pub after_form_bracket : FormBracket → Terminal → Taking
after_form_bracket c (Marker q) = outside (AfterBracketMarker c 1)
after_form_bracket c t = end_marks c.naming c.behind c.bracket 0 c.pos t

-- so many markers stand in it
abbrev pub after_bracket_marker : FormBracket → ℕ → Terminal → Taking
after_bracket_marker c m Comma = outside (NeedBracketMarker c m)
after_bracket_marker c m t = end_marks c.naming c.behind c.bracket m c.pos t

-- the word that begins a clause is read
abbrev pub clause_word : RawTrait → RawWord → Terminal → Taking
clause_word raw w Generated = outside (NeedBy (record { raw = raw; kind = clause_kind.Generated; sort = w }))
clause_word raw w Partitioned = outside (NeedBy (record { raw = raw; kind = clause_kind.Partitioned; sort = w }))
clause_word raw w _ = None

-- a word that begins an item is read, where the equation would be the first of its item
abbrev pub first_word : Bool → RawTrait → RawWord → Terminal → Taking
first_word s raw w Generated = clause_word raw w Generated
first_word s raw w Partitioned = clause_word raw w Partitioned
first_word s raw w t = after_word s w (word_frames w (Item (open_item raw [] []))) t

-- a word behind the `;` of these equations is read
abbrev pub word_behind : Bool → RawTrait → List RawVar → List RawEquation → RawWord → Terminal → Taking
word_behind s raw vs es w Generated = clause_word (with_equations raw vs es) w Generated
word_behind s raw vs es w Partitioned = clause_word (with_equations raw vs es) w Partitioned
word_behind s raw vs es w t = after_word s w (word_frames w (Item (open_item raw vs es))) t

-- the `;` of these equations is read
abbrev pub after_semicolon : RawTrait → List RawVar → List RawEquation → Terminal → Taking
after_semicolon raw vs es (Word w) = at_head (WordBehind (open_item raw vs es) w)
after_semicolon raw vs es ForAll = begin_part (with_equations raw vs es) ForAll
after_semicolon raw vs es Asserts = begin_part (with_equations raw vs es) Asserts
after_semicolon raw vs es (Implies lists) = begin_part (with_equations raw vs es) (Implies lists)
after_semicolon raw vs es Converts = begin_part (with_equations raw vs es) Converts
after_semicolon raw vs es t = begin_equation t (Item (open_item raw vs es))

-- what variables are read for begins: an equation, or a term that is exempted
abbrev pub begin_quantified : VariablesFor → List RawVar → Terminal → Taking
begin_quantified (Quantified raw) vs t = begin_equation t (Item (open_item raw vs []))
begin_quantified (Exempted raw rs) vs t = begin_exempted (open_conversion raw rs vs []) t

-- variables with their sorts are read
abbrev pub after_group : VariablesFor → List RawVar → Terminal → Taking
after_group sc vs Comma = outside (NeedVariable sc vs)
after_group sc vs t = begin_quantified sc vs t

-- `introduces` or a declaration is read
abbrev pub in_part : RawTrait → Terminal → Taking
in_part raw Introduces = outside (InPart raw)
in_part raw Asserts = begin_claim raw Asserts
in_part raw (Implies lists) = begin_claim raw (Implies lists)
in_part raw Converts = begin_claim raw Converts
in_part raw t = begin_form (Declared raw []) t

-- the head of a trait is read, or a shorthand or references of it
abbrev pub after_head : RawTrait → Terminal → Taking
after_head raw (Word w) = outside (ShortWord raw w)
after_head raw Includes = outside (NeedRef raw Included)
after_head raw Assumes = outside (NeedRef raw Assumed)
after_head raw Introduces = outside (InPart raw)
after_head raw t = begin_claim raw t

-- the word that begins a shorthand is read
abbrev pub short_word : RawTrait → RawWord → Terminal → Taking
short_word raw w Enumeration = outside (NeedConstants raw w)
short_word raw w Tuple = outside (NeedFields raw fields_kind.Tuple w)
short_word raw w Union = outside (NeedFields raw fields_kind.Union w)
short_word raw w _ = None

-- a constant of an enumeration is read, the last of these
abbrev pub after_constant : RawTrait → RawWord → List RawWord → Terminal → Taking
after_constant raw sort ws Comma = outside (NeedConstant raw sort ws)
after_constant raw sort ws t = after_head (with_shorthand raw (shorthand.Enumeration sort ws)) t

-- fields with their sorts are read
abbrev pub after_field : OpenFields → Terminal → Taking
after_field o Comma = outside (NeedName o)
after_field o t = after_head (close_fields o) t

-- what follows references: for the first one of an implied part a token that ends a list of them
abbrev pub behind_refs : RefKind → RawTrait → Terminal → Taking
behind_refs Included raw t = after_head raw t
behind_refs Assumed raw t = after_head raw t
behind_refs First raw t = cond (ends_reference t) (begin_item raw t) None
behind_refs Further raw t = begin_item raw t

-- a reference is read, which is for this
abbrev pub after_trait_ref : RawTrait → RefKind → Terminal → Taking
after_trait_ref raw b Comma = outside (NeedRef raw (next_kind b))
after_trait_ref raw b t = behind_refs b raw t

-- the name of a trait that is referred to is read
abbrev pub after_ref_name : RawTrait → RefKind → RawWord → Terminal → Taking
after_ref_name raw b w (Open p) = outside (NeedForm (Actual (open_ref raw b w [])))
after_ref_name raw b w t = after_trait_ref (close_ref (open_ref raw b w [])) b t

-- behind `implies` an item or a part may stand
abbrev pub after_implies : RawTrait → Terminal → Taking
after_implies raw (Word w) = at_head (ImpliedWord raw w)
after_implies raw t = begin_item raw t

-- the same and a word are read: it begins no references
abbrev pub implied_word : Bool → RawTrait → RawWord → Terminal → Taking
implied_word s raw w Generated = clause_word raw w Generated
implied_word s raw w Partitioned = clause_word raw w Partitioned
implied_word s raw w (Open p) = Some (opens 1, NeedTerm (InList (call_first raw w) [] ∷ []))
implied_word s raw w t = cond (ends_reference t) None (after_word s w (word_frames w (Item (open_item raw [] []))) t)

-- the same and its arguments are read
abbrev pub behind_first : Bool → RawTrait → RawWord → List RawTree → Terminal → Taking
behind_first s raw w ts t =
    cond (ends_reference t) None (hand s (call_tree w ts) (InFields ∷ word_frames w (Item (open_item raw [] []))) t)

-- the mark of a token and the state behind it
abbrev pub step : Bool → State → Terminal → Taking
step s Start (Word name) = outside (AfterName name)
step s (AfterName name) (Colon p) = outside (NeedTrait name [])
step s (AfterName name) (Open p) = outside (NeedForm (Formal name []))
step s (AfterFormals name fs) (Colon p) = outside (NeedTrait name fs)
step s (NeedTrait name fs) Trait = outside (AfterHead (empty_trait name fs))
step s (AfterHead raw) t = after_head raw t
step s (ShortWord raw w) t = short_word raw w t
step s (NeedConstants raw sort) Of = outside (NeedConstant raw sort [])
step s (NeedConstant raw sort ws) (Word w) = outside (AfterConstant raw sort (ws ++ w ∷ []))
step s (AfterConstant raw sort ws) t = after_constant raw sort ws t
step s (NeedFields raw kind sort) Of = outside (NeedName (open_fields raw kind sort []))
step s (NeedName o) (Word w) = outside (AfterNames o (w ∷ []))
step s (AfterNames o ws) Comma = outside (NeedFurtherName o ws)
step s (AfterNames o ws) (Colon p) = outside (NeedNamesSort o ws)
step s (NeedFurtherName o ws) (Word w) = outside (AfterNames o (ws ++ w ∷ []))
step s (NeedNamesSort o ws) (Word sort) = outside (AfterField (with_fields o (fields_at ws sort)))
step s (AfterField o) t = after_field o t
step s (NeedRef raw b) (Word w) = outside (AfterRefName raw b w)
step s (AfterRefName raw b w) t = after_ref_name raw b w t
step s (AfterTraitRef raw b) t = after_trait_ref raw b t
step s (AfterRename o) t = after_rename o t
step s (InPart raw) t = in_part raw t
step s (NeedForm n) t = begin_form n t
step s (AfterSymbolForm n x) t = after_symbol_form n x t
step s (AfterDotForm n p) (Word w) = outside (AfterForm n (mixfix (field_name w.name) 1 p))
step s (AfterLeadingMarker n p) t = after_leading_marker n p t
step s (AfterMarkerSymbol n p x) t = after_marker_symbol n p x t
step s (AfterFormBracket c) t = after_form_bracket c t
step s (AfterBracketMarker c m) t = after_bracket_marker c m t
step s (NeedBracketMarker c m) (Marker q) = outside (AfterBracketMarker c (suc m))
step s (AfterForm n f) t = after_form n f t
step s (NeedSig n) (Word w) = outside (AfterSort n (w ∷ []))
step s (NeedSig n) Arrow = outside (NeedRange n [])
step s (AfterSort n ws) Comma = outside (NeedSort n ws)
step s (AfterSort n ws) Arrow = outside (NeedRange n ws)
step s (NeedSort n ws) (Word w) = outside (AfterSort n (ws ++ w ∷ []))
step s (NeedRange n ws) (Word w) = outside (hand_sig n (record { domain = ws; range = w }))
step s (AfterOperatorRef c rs) t = after_operator_ref c rs t
step s (InItems raw) t = begin_item raw t
step s (FirstWord raw w) t = first_word s raw w t
step s (AfterSemicolon j) t = after_semicolon j.raw j.variables j.equations t
step s (WordBehind j w) t = word_behind s j.raw j.variables j.equations w t
step s (ClauseWord raw w) t = clause_word raw w t
step s (NeedBy c) By = outside (NeedForm (Referred c []))
step s (NeedVariable sc vs) (Word w) = outside (AfterVariable sc vs (w ∷ []))
step s (AfterVariable sc vs ws) Comma = outside (NeedFurtherVariable sc vs ws)
step s (AfterVariable sc vs ws) (Colon p) = outside (NeedVariableSort sc vs ws)
step s (NeedFurtherVariable sc vs ws) (Word w) = outside (AfterVariable sc vs (ws ++ w ∷ []))
step s (NeedVariableSort sc vs ws) (Word sort) = outside (AfterGroup sc (vs ++ variables_at ws sort))
step s (AfterGroup sc vs) t = after_group sc vs t
step s (AfterImplies raw) t = after_implies raw t
step s (ImpliedWord raw w) t = implied_word s raw w t
step s (BehindFirst raw w ts) t = behind_first s raw w ts t
step s (AfterConverted raw rs) t = after_converted raw rs t
step s (NeedExempted raw rs) t = need_exempted raw rs t
step s (NeedFurtherExempted c) t = begin_exempted c t
step s (NeedEquation w) t = begin_equation t w
step s (NeedTerm k) t = begin_term t k
step s (NeedOperand k) t = begin_operand t k
step s (NeedPrefixed k) t = begin_prefixed t k
step s (NeedPost k) t = begin_post t k
step s (NeedField r p k) (Word w) = plainly (Have (field_tree p w r) (InFields ∷ k))
step s (NeedSortOf r p k) (Word w) = plainly (Have (qualified r w p) k)
step s (AfterWord w k) t = after_word s w k t
step s (NeedFirst b l p k) t = begin_bracket b l p k t
step s (AfterSymbol x r k) t = after_symbol s x r k t
step s (Have r k) t = hand s r k t
step s _ _ = None

-- the whole, where the tokens may end behind a form
abbrev pub end_form : Naming → RawForm → Option Whole
end_form (Referred c rs) f = Some (whole.Trait (with_clause c (with_reference rs f)))
end_form (Converted raw rs) f = Some (whole.Trait (with_conversion raw (with_reference rs f) [] []))
end_form Lone f = Some (whole.Reference (record { form = f; sig = None }))
end_form _ f = None

-- the whole, where the tokens may end in this state
abbrev pub final : State → Option Whole
final (AfterHead raw) = Some (whole.Trait raw)
final (AfterConstant raw sort ws) = Some (whole.Trait (with_shorthand raw (shorthand.Enumeration sort ws)))
final (AfterField o) = Some (whole.Trait (close_fields o))
final (AfterRefName raw b w) = Some (whole.Trait (close_ref (open_ref raw b w [])))
final (AfterTraitRef raw b) = Some (whole.Trait raw)
final (InPart raw) = Some (whole.Trait raw)
final (AfterSymbolForm n x) = end_form n (mixfix (infix_name x.name) 2 x.pos)
final (AfterMarkerSymbol n p x) = end_form n (mixfix (postfix_name x.name) 1 p)
final (AfterForm n f) = end_form n f
final (AfterOperatorRef c rs) = Some (whole.Trait (with_clause c rs))
final (AfterLone r) = Some (whole.Reference r)
final (InItems raw) = Some (whole.Trait raw)
final (AfterImplies raw) = Some (whole.Trait raw)
final (AfterConverted raw rs) = Some (whole.Trait (with_conversion raw rs [] []))
final (FirstWord raw w) = finish (call_tree w []) (word_frames w (Item (open_item raw [] [])))
final (AfterSemicolon j) = Some (whole.Trait (with_equations j.raw j.variables j.equations))
final (WordBehind j w) = finish (call_tree w []) (word_frames w (Item (open_item j.raw j.variables j.equations)))
final (AfterWord w k) = finish (call_tree w []) k
final (AfterSymbol x r k) = finish (postfix_tree x r) k
final (Have r k) = finish r k
final _ = None

-- the same at a token of a text, where references follow `implies` or not
abbrev pub step_at : Bool → Bool → State → Token → Taking
step_at lists s n t = step s n (terminal_of lists t)

-- the whole as a trait
abbrev pub as_trait : Option Whole → Option RawTrait
as_trait (Some (whole.Trait raw)) = Some raw
as_trait _ = None

-- the whole as an equation
abbrev pub as_equation : Option Whole → Option RawEquation
as_equation (Some (whole.Equation raw)) = Some raw
as_equation _ = None

-- the whole as a reference
abbrev pub as_reference : Option Whole → Option RawOpRef
as_reference (Some (whole.Reference reference)) = Some reference
as_reference _ = None
