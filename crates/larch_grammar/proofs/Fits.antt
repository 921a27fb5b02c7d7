-- What may follow in each state of the machine, so that the whole is this trait or this equation.
use Rattle.std.proofs.Common.{◌≡◌, ℕ, suc, Bool, true, false, not, IsTrue, ◌⊎◌, Option, Some, None, List, [], ◌∷◌, ◌++◌}
use Rattle.std.proofs.Common.{subst}
use Rattle.larch_base.specs.declared.position.Pos.{Pos}
use Rattle.larch_grammar_law.specs.declared.mark.Mark.{Mark}
use Rattle.larch_grammar_law.specs.declared.mark.Mark.TheVariants.{Outside, Plain, Head}
use Rattle.larch_raw.specs.RawTree.{RawTree}
use Rattle.larch_raw.specs.declared.declared.RawForm.{RawForm}
use Rattle.larch_raw.specs.declared.declared.RawOpRef.{RawOpRef}
use Rattle.larch_raw.specs.declared.declared.RawSig.{RawSig}
use Rattle.larch_raw.specs.declared.declared.RawWord.{RawWord}
use Rattle.larch_raw.specs.declared.equation.RawEquation.{RawEquation}
use Rattle.larch_raw.specs.declared.equation.ClauseKind.{ClauseKind}
use Rattle.larch_raw.specs.declared.equation.ClauseKind.TheVariants as clause_kind
use Rattle.larch_raw.specs.declared.equation.RawItem.{RawItem}
use Rattle.larch_raw.specs.declared.equation.RawTrait.{RawTrait}
use Rattle.larch_raw.specs.declared.equation.RawVar.{RawVar}
use Rattle.larch_raw.specs.declared.reference.RawActual.{RawActual}
use Rattle.larch_raw.specs.declared.reference.RawActual.TheVariants as actual
use Rattle.larch_raw.specs.declared.reference.RawRef.{RawRef}
use Rattle.larch_raw.specs.declared.shorthand.RawField.{RawField}
use Rattle.larch_raw.specs.declared.shorthand.RawShorthand.TheVariants as shorthand
use Rattle.larch_grammar.specs.declared.terminal.Bracket.{Bracket}
use Rattle.larch_grammar.specs.declared.terminal.Terminal.{Terminal}
use Rattle.larch_grammar.specs.declared.terminal.Terminal.TheVariants.{Word, Symbol, Equates, Arrow, Colon, Comma}
use Rattle.larch_grammar.specs.declared.terminal.Terminal.TheVariants.{Semicolon, Dot, Marker, Close, OpenBracket}
use Rattle.larch_grammar.specs.declared.terminal.Terminal.TheVariants.{CloseBracket, Trait, Implies, Converts}
use Rattle.larch_grammar.specs.declared.terminal.Terminal.TheVariants.{Exempting, Generated, Partitioned, Enumeration}
use Rattle.larch_grammar.specs.declared.terminal.Terminal.TheVariants.{Tuple, Union, Then, Else}
use Rattle.larch_grammar.specs.declared.machine.Before.{Before}
use Rattle.larch_grammar.specs.declared.machine.Before.TheVariants as before
use Rattle.larch_grammar.specs.declared.machine.Clause.{Clause}
use Rattle.larch_grammar.specs.declared.machine.FieldsKind.{FieldsKind}
use Rattle.larch_grammar.specs.declared.machine.FieldsKind.TheVariants as fields_kind
use Rattle.larch_grammar.specs.declared.machine.Frame.{Frame}
use Rattle.larch_grammar.specs.declared.machine.Frame.TheVariants.{InFields, InStrays, Prefixed, InPostfixes, InInfixes}
use Rattle.larch_grammar.specs.declared.machine.Frame.TheVariants.{InEqualities, InConnectives, InParentheses, InList}
use Rattle.larch_grammar.specs.declared.machine.Frame.TheVariants.{InIf, InThen, InElse, InLeft, InRight, InExempted}
use Rattle.larch_grammar.specs.declared.machine.Listing.{Listing}
use Rattle.larch_grammar.specs.declared.machine.Listing.TheVariants.{Call, First as call_first, Bracketed}
use Rattle.larch_grammar.specs.declared.machine.Naming.{Naming}
use Rattle.larch_grammar.specs.declared.machine.Naming.TheVariants.{Declared, Referred, Formal, Actual, Renaming}
use Rattle.larch_grammar.specs.declared.machine.Naming.TheVariants.{Renamed, Lone, Converted}
use Rattle.larch_grammar.specs.declared.machine.OpenConversion.{OpenConversion}
use Rattle.larch_grammar.specs.declared.machine.OpenFields.{OpenFields}
use Rattle.larch_grammar.specs.declared.machine.OpenRef.{OpenRef}
use Rattle.larch_grammar.specs.declared.machine.RefKind.{RefKind}
use Rattle.larch_grammar.specs.declared.machine.RefKind.TheVariants.{Included, Assumed, First, Further}
use Rattle.larch_grammar.specs.declared.machine.VariablesFor.{VariablesFor}
use Rattle.larch_grammar.specs.declared.machine.VariablesFor.TheVariants.{Quantified, Exempted}
use Rattle.larch_grammar.specs.declared.machine.Signing.{Signing}
use Rattle.larch_grammar.specs.declared.machine.Signing.TheVariants.{Declaration, Reference, Replacement, LoneForm}
use Rattle.larch_grammar.specs.declared.machine.Signing.TheVariants.{Conversion}
use Rattle.larch_grammar.specs.declared.machine.State.{State}
use Rattle.larch_grammar.specs.declared.machine.State.TheVariants.{Start, AfterName, AfterFormals, NeedTrait, AfterHead}
use Rattle.larch_grammar.specs.declared.machine.State.TheVariants.{ShortWord, NeedConstants, NeedConstant}
use Rattle.larch_grammar.specs.declared.machine.State.TheVariants.{AfterConstant, NeedFields, NeedName, AfterNames}
use Rattle.larch_grammar.specs.declared.machine.State.TheVariants.{NeedFurtherName, NeedNamesSort, AfterField, NeedRef}
use Rattle.larch_grammar.specs.declared.machine.State.TheVariants.{AfterRefName, AfterTraitRef, AfterRename, InPart}
use Rattle.larch_grammar.specs.declared.machine.State.TheVariants.{NeedForm, AfterSymbolForm, AfterDotForm}
use Rattle.larch_grammar.specs.declared.machine.State.TheVariants.{AfterLeadingMarker, AfterMarkerSymbol}
use Rattle.larch_grammar.specs.declared.machine.State.TheVariants.{AfterFormBracket, AfterBracketMarker}
use Rattle.larch_grammar.specs.declared.machine.State.TheVariants.{NeedBracketMarker, AfterForm, NeedSig, AfterSort}
use Rattle.larch_grammar.specs.declared.machine.State.TheVariants.{NeedSort, NeedRange, AfterOperatorRef, AfterLone}
use Rattle.larch_grammar.specs.declared.machine.State.TheVariants.{InItems, FirstWord, AfterSemicolon, WordBehind}
use Rattle.larch_grammar.specs.declared.machine.State.TheVariants.{ClauseWord, NeedBy, NeedVariable, AfterVariable}
use Rattle.larch_grammar.specs.declared.machine.State.TheVariants.{NeedFurtherVariable, NeedVariableSort, AfterGroup}
use Rattle.larch_grammar.specs.declared.machine.State.TheVariants.{AfterImplies, ImpliedWord, BehindFirst}
use Rattle.larch_grammar.specs.declared.machine.State.TheVariants.{AfterConverted, NeedExempted, NeedFurtherExempted}
use Rattle.larch_grammar.specs.declared.machine.State.TheVariants.{NeedEquation, NeedTerm, NeedOperand, NeedPrefixed}
use Rattle.larch_grammar.specs.declared.machine.State.TheVariants.{NeedPost, NeedField, NeedSortOf, AfterWord}
use Rattle.larch_grammar.specs.declared.machine.State.TheVariants.{NeedFirst, AfterSymbol, Have}
use Rattle.larch_grammar.specs.declared.machine.Waiting.{Waiting}
use Rattle.larch_grammar.specs.declared.machine.Waiting.TheVariants.{Alone, Item}
use Rattle.larch_grammar.specs.declared.machine.Whole.{Whole}
use Rattle.larch_grammar.specs.declared.machine.Whole.TheVariants as whole
use Rattle.larch_grammar.specs.Composition.{AreActuals, AreFields, AreRefs, EndActuals, HasActuals, HasFormals, IsField}
use Rattle.larch_grammar.specs.Composition.{IsRef, fields_at, replacement, shorthand_of, with_actual, with_fields}
use Rattle.larch_grammar.specs.Composition.{with_ref, with_shorthand}
use Rattle.larch_grammar.specs.Depth.{depth_of}
use Rattle.larch_grammar.specs.Form.{Marked, AreForms, AreGroups, AreMarkers, AreOpRefs, AreWords, IsForm, IsGroup}
use Rattle.larch_grammar.specs.Form.{IsOpRef, IsSig, IsWord, Markers, variables_at}
use Rattle.larch_grammar.specs.Machine.{open_conversion, open_item, symbol_of, with_clause, with_exempted}
use Rattle.larch_grammar.specs.Terms.{Cond, Connectives, Equalities, Fields, InBracket, Infixes, IsEquation, Oper}
use Rattle.larch_grammar.specs.Terms.{Operand, Others, Post, Postfixes, Strays, Symbols, equation_of, first_position}
use Rattle.larch_grammar.specs.Terms.{formula_of, opens_head}
use Rattle.larch_grammar.specs.Traits.{AreAssertions, AreConversions, AreDecls, AreEquations, AreExempted, AreItems}
use Rattle.larch_grammar.specs.Traits.{AreParts, HasExempted, IsBody, IsClause, IsMarkedTrait, MayEnd}
use Rattle.larch_grammar.specs.Traits.{begins_references, ends_references, empty_trait, with_conversion}
use Rattle.larch_grammar.specs.Traits.{with_declaration, with_equations, with_item}
use Rattle.larch_grammar.specs.Trees.{bracket_form, call_tree, field_name, if_tree, chain_tree, listing_tree, mixfix}
use Rattle.larch_grammar.specs.Trees.{prefix_tree}

-- parts and items

-- what may follow the head of a trait
abbrev pub FitsBody : Bool → RawTrait → List Marked → Whole → Type 0
FitsBody s r i z = (y : RawTrait) × IsBody s r i [] y × (whole.Trait y ≡ z)

-- what may follow the `:` of a trait with this name and these formals
abbrev pub FitsTrait : Bool → RawWord → List RawForm → List Marked → Whole → Type 0
FitsTrait s w fs i z = (j : List Marked) × (i ≡ (Trait, Outside) ∷ j) × FitsBody s (empty_trait w fs) j z

-- what may follow the formals of a trait
abbrev pub FitsFormals : Bool → RawWord → List RawForm → List Marked → Whole → Type 0
FitsFormals s w fs i z = (j : List Marked) × (p : Pos) × (i ≡ (Colon p, Outside) ∷ j) × FitsTrait s w fs j z

-- what may follow these constants of an enumeration
abbrev pub FitsConstants : Bool → RawTrait → RawWord → List RawWord → List Marked → Whole → Type 0
FitsConstants s r sort ws i z =
    (j : List Marked) × (us : List RawWord) × AreWords ws i j us
    × FitsBody s (with_shorthand r (shorthand.Enumeration sort us)) j z

-- what may follow the fields of a tuple or a union
abbrev pub FitsFields : Bool → OpenFields → List Marked → Whole → Type 0
FitsFields s n i z =
    (j : List Marked) × (fs : List RawField) × AreFields n.fields i j fs
    × FitsBody s (with_shorthand n.raw (shorthand_of n.kind n.sort fs)) j z

-- what may follow these names of fields
abbrev pub FitsFieldNames : Bool → OpenFields → List RawWord → List Marked → Whole → Type 0
FitsFieldNames s n ws i z =
    (j k : List Marked) × (p : Pos) × (us : List RawWord) × (sort : RawWord) × AreWords ws i ((Colon p, Outside) ∷ j) us
    × IsWord j k sort × FitsFields s (with_fields n (fields_at us sort)) k z

-- the word behind the sort of a tuple or a union
abbrev pub fields_terminal : FieldsKind → Terminal
fields_terminal fields_kind.Tuple = Tuple
fields_terminal fields_kind.Union = Union

-- what may follow inside a part of declarations
abbrev pub FitsDecls : Bool → RawTrait → List Marked → Whole → Type 0
FitsDecls s r i z = (j : List Marked) × (t y : RawTrait) × AreDecls r i j t × AreParts s t j [] y × (whole.Trait y ≡ z)

-- what may follow inside a part of items, behind what stands before
abbrev pub FitsItems : Bool → Before → RawTrait → List Marked → Whole → Type 0
FitsItems s b r i z =
    (j : List Marked) × (t y : RawTrait) × AreItems s b r i j t × AreAssertions s t j [] y × (whole.Trait y ≡ z)

-- what may follow references
abbrev pub FitsBehindRefs : Bool → RefKind → RawTrait → List Marked → Whole → Type 0
FitsBehindRefs s Included t j z = FitsBody s t j z
FitsBehindRefs s Assumed t j z = FitsBody s t j z
FitsBehindRefs s First t j z = FitsItems s before.Anything t j z
FitsBehindRefs s Further t j z = FitsItems s before.Anything t j z

-- what directly follows a reference: the first one of an implied part ends there
abbrev pub MayFollow : RefKind → List Marked → Type 0
MayFollow First i = IsTrue (ends_references i)
MayFollow _ i = Unit {0}

-- what may follow a reference, which is for this
abbrev pub FitsRefs : Bool → RefKind → RawTrait → List Marked → Whole → Type 0
FitsRefs s b r i z = (j : List Marked) × (t : RawTrait) × AreRefs b r i j t × MayFollow b i × FitsBehindRefs s b t j z

-- what may follow the name of a trait that is referred to
abbrev pub FitsRefName : Bool → RawTrait → RefKind → RawWord → List Marked → Whole → Type 0
FitsRefName s r b w i z =
    (j : List Marked) × (ps : List RawActual) × HasActuals i j ps
    × FitsRefs s b (with_ref r b (record { name = w; actuals = ps })) j z

-- what may follow where an actual is needed; with `true` it is a replacement
abbrev pub FitsActuals : Bool → Bool → OpenRef → List Marked → Whole → Type 0
FitsActuals s b n i z =
    (j : List Marked) × (ps : List RawActual) × AreActuals b n.actuals i j ps
    × FitsRefs s n.kind (with_ref n.raw n.kind (record { name = n.name; actuals = ps })) j z

-- what may follow an actual
abbrev pub FitsActual : Bool → Bool → OpenRef → List Marked → Whole → Type 0
FitsActual s b n i z =
    (j : List Marked) × (ps : List RawActual) × EndActuals b n.actuals i j ps
    × FitsRefs s n.kind (with_ref n.raw n.kind (record { name = n.name; actuals = ps })) j z

-- what may follow the declarations
abbrev pub FitsAssertions : Bool → RawTrait → List Marked → Whole → Type 0
FitsAssertions s r i z = (y : RawTrait) × AreAssertions s r i [] y × (whole.Trait y ≡ z)

-- what may follow these equations of an item
abbrev pub FitsEquations : Bool → RawTrait → List RawVar → List RawEquation → List Marked → Whole → Type 0
FitsEquations s r vs es i z =
    (j : List Marked) × (fs : List RawEquation) × (b : Before) × AreEquations s es i j fs b
    × FitsItems s b (with_equations r vs fs) j z

-- what may follow an equation that waiting takes
abbrev pub FitsBehind : Bool → RawEquation → Waiting → List Marked → Whole → Type 0
FitsBehind s e Alone i z = (i ≡ []) × (whole.Equation e ≡ z)
FitsBehind s e (Item j) i z = FitsEquations s j.raw j.variables (j.equations ++ e ∷ []) i z

-- what may follow where an equation is needed
abbrev pub FitsEquation : Bool → Waiting → List Marked → Whole → Type 0
FitsEquation s w i z = (j : List Marked) × (e : RawEquation) × IsEquation s i j e × FitsBehind s e w j z

-- what may follow conversions
abbrev pub FitsConversions : Bool → RawTrait → List Marked → Whole → Type 0
FitsConversions s r i z = (y : RawTrait) × AreConversions s r i [] y × (whole.Trait y ≡ z)

-- what may follow a term that is exempted, the last of these
abbrev pub FitsExempted : Bool → OpenConversion → List Marked → Whole → Type 0
FitsExempted s c i z =
    (j : List Marked) × (es : List RawEquation) × AreExempted s c.exempted i j es
    × FitsConversions s (with_conversion c.raw c.converted c.variables es) j z

-- what may follow where a term is needed that is exempted
abbrev pub FitsFurther : Bool → OpenConversion → List Marked → Whole → Type 0
FitsFurther s c i z =
    (j : List Marked) × (l : RawTree) × Cond s 0 i j l
    × FitsExempted s (with_exempted c (formula_of l (first_position i))) j z

-- what may follow the references of a conversion
abbrev pub FitsConverted : Bool → RawTrait → List RawOpRef → List Marked → Whole → Type 0
FitsConverted s r rs i z =
    (j k : List Marked) × (qs : List RawOpRef) × (vs : List RawVar) × (es : List RawEquation) × AreOpRefs rs i j qs
    × HasExempted s j k vs es × FitsConversions s (with_conversion r qs vs es) k z

-- what may follow variables
abbrev pub FitsScope : Bool → VariablesFor → List RawVar → List Marked → Whole → Type 0
FitsScope s (Quantified r) us j z = FitsEquation s (Item (open_item r us [])) j z
FitsScope s (Exempted r rs) us j z = FitsFurther s (open_conversion r rs us []) j z

-- what may follow these variables
abbrev pub FitsGroups : Bool → VariablesFor → List RawVar → List Marked → Whole → Type 0
FitsGroups s r vs i z = (j : List Marked) × (us : List RawVar) × AreGroups vs i j us × FitsScope s r us j z

-- what may follow these variables, and these names that are to be variables too
abbrev pub FitsNames : Bool → VariablesFor → List RawVar → List RawWord → List Marked → Whole → Type 0
FitsNames s r vs ws i z =
    (j k : List Marked) × (p : Pos) × (us : List RawWord) × (sort : RawWord) × AreWords ws i ((Colon p, Outside) ∷ j) us
    × IsWord j k sort × FitsGroups s r (vs ++ variables_at us sort) k z

-- references, forms and signatures

-- what may follow these references of a clause
abbrev pub FitsReferences : Bool → Clause → List RawOpRef → List Marked → Whole → Type 0
FitsReferences s c rs i z =
    (j k : List Marked) × (qs : List RawOpRef) × AreOpRefs rs i j qs × MayEnd j k
    × FitsItems s before.Anything (with_clause c qs) k z

-- the word behind the sort of a clause
abbrev pub clause_terminal : ClauseKind → Terminal
clause_terminal clause_kind.Generated = Generated
clause_terminal clause_kind.Partitioned = Partitioned

-- what may follow that word, whatever is counted at the sort
abbrev pub FitsBy : Bool → Clause → List Marked → Whole → Type 0
FitsBy s c i z =
    (m : Mark) → (j : List Marked) × (y : RawItem)
    × IsClause m ((Word c.sort, m) ∷ (clause_terminal c.kind, Outside) ∷ i) j y
    × FitsItems s before.Anything (with_item c.raw y) j z

-- what may follow a signature
abbrev pub FitsSigned : Bool → Signing → RawSig → List Marked → Whole → Type 0
FitsSigned s (Declaration r fs) sig i z = FitsDecls s (with_declaration r (record { forms = fs; sig = sig })) i z
FitsSigned s (Reference c rs f) sig i z = FitsReferences s c (rs ++ record { form = f; sig = Some sig } ∷ []) i z
FitsSigned s (Replacement n f g) sig i z = FitsActual s true (with_actual n (actual.Replace f g (Some sig))) i z
FitsSigned s (Conversion r rs f) sig i z = FitsConverted s r (rs ++ record { form = f; sig = Some sig } ∷ []) i z
FitsSigned s (LoneForm f) sig i z = (i ≡ []) × (whole.Reference (record { form = f; sig = Some sig }) ≡ z)

-- what may follow where a signature is needed
abbrev pub FitsSig : Bool → Signing → List Marked → Whole → Type 0
FitsSig s n i z = (j : List Marked) × (sig : RawSig) × IsSig i j sig × FitsSigned s n sig j z

-- what may follow these sorts of a domain
abbrev pub FitsSorts : Bool → Signing → List RawWord → List Marked → Whole → Type 0
FitsSorts s n ws i z =
    (j k : List Marked) × (us : List RawWord) × (w : RawWord) × AreWords ws i ((Arrow, Outside) ∷ j) us × IsWord j k w
    × FitsSigned s n (record { domain = us; range = w }) k z

-- what may follow the arrow behind these sorts
abbrev pub FitsRange : Bool → Signing → List RawWord → List Marked → Whole → Type 0
FitsRange s n ws i z =
    (j : List Marked) × (w : RawWord) × IsWord i j w × FitsSigned s n (record { domain = ws; range = w }) j z

-- what may follow a form: of a reference or an actual, wherever the form begins
abbrev pub FitsForm : Bool → Naming → RawForm → List Marked → Whole → Type 0
FitsForm s (Declared r fs) f i z =
    (j : List Marked) × (p : Pos) × (gs : List RawForm) × AreForms (fs ++ f ∷ []) i ((Colon p, Outside) ∷ j) gs
    × FitsSig s (Declaration r gs) j z
FitsForm s (Referred c rs) f i z =
    (h : List Marked) → IsForm h i f
    → (j : List Marked) × (r : RawOpRef) × IsOpRef h j r × FitsReferences s c (rs ++ r ∷ []) j z
FitsForm s (Formal w fs) f i z =
    (j : List Marked) × (gs : List RawForm) × AreForms (fs ++ f ∷ []) i ((Close, Outside) ∷ j) gs
    × FitsFormals s w gs j z
FitsForm s (Actual n) f i z = (h : List Marked) → IsForm h i f → FitsActuals s false n h z
FitsForm s (Renaming n) f i z = (h : List Marked) → IsForm h i f → FitsActuals s true n h z
FitsForm s (Renamed n f) g i z =
    (h : List Marked) → IsForm h i g
    → (j : List Marked) × (r : RawOpRef) × IsOpRef h j r × FitsActual s true (with_actual n (replacement f r)) j z
FitsForm s (Converted r rs) f i z =
    (h : List Marked) → IsForm h i f
    → (j : List Marked) × (q : RawOpRef) × IsOpRef h j q × FitsConverted s r (rs ++ q ∷ []) j z
FitsForm s Lone f i z =
    (h : List Marked) → IsForm h i f
    → (j : List Marked) × (r : RawOpRef) × IsOpRef h j r × (j ≡ []) × (whole.Reference r ≡ z)

-- what may follow where a form is needed
abbrev pub FitsNaming : Bool → Naming → List Marked → Whole → Type 0
FitsNaming s n i z = (j : List Marked) × (f : RawForm) × IsForm i j f × FitsForm s n f j z

-- what may follow so many markers of a bracket
abbrev pub FitsMarks : Bool → Naming → Bool → Bracket → ℕ → Pos → List Marked → Whole → Type 0
FitsMarks s n behind b m p i z =
    (j : List Marked) × (l : ℕ) × AreMarkers b m i j l × FitsForm s n (bracket_form behind b l p) j z

-- terms

-- what ends a list of terms
abbrev pub closing : Listing → Terminal
closing (Call w) = Close
closing (call_first r w) = Close
closing (Bracketed b l p) = CloseBracket b

-- what may follow the left side of an equation
abbrev pub FitsLeft : Bool → RawTree → Pos → Waiting → List Marked → Whole → Type 0
FitsLeft s q p w i z =
    FitsBehind s (formula_of q p) w i z
    ⊎ ((j o : List Marked) × (e : Pos) × (r : RawTree) × (i ≡ (Equates e, Head) ∷ j) × Cond s 0 j o r
    × FitsBehind s (equation_of q e r p) w o z)

-- what may follow connectives, equalities, symbols and fields of it
abbrev pub FitsLogic : Bool → RawTree → Pos → Waiting → List Marked → Whole → Type 0
FitsLogic s q p w i z = (o : List Marked) × (r : RawTree) × Connectives s 0 None q i o r × FitsLeft s r p w o z

abbrev pub FitsEqual : Bool → RawTree → Pos → Waiting → List Marked → Whole → Type 0
FitsEqual s q p w i z = (o : List Marked) × (r : RawTree) × Equalities s 0 None q i o r × FitsLogic s r p w o z

abbrev pub FitsSymbols : Bool → RawTree → Pos → Waiting → List Marked → Whole → Type 0
FitsSymbols s q p w i z = (o : List Marked) × (r : RawTree) × Symbols s 0 q i o r × FitsEqual s r p w o z

abbrev pub FitsFirst : Bool → RawTree → Pos → Waiting → List Marked → Whole → Type 0
FitsFirst s q p w i z = (o : List Marked) × (r : RawTree) × Fields s 0 q i o r × FitsSymbols s r p w o z

-- what may follow the arguments of the word that begins an implied part: no list of references ends there
abbrev pub FitsImplied : Bool → RawTrait → RawWord → List RawTree → List Marked → Whole → Type 0
FitsImplied s r w us i z =
    IsTrue (not (ends_references i)) × FitsFirst s (call_tree w us) w.pos (Item (open_item r [] [])) i z

-- what may follow a list of terms, where that may follow its tree
abbrev pub FitsList : Bool → Listing → List RawTree → List Marked → Whole → (RawTree → Type 0) → Type 0
FitsList s (Call w) us o z further = further (listing_tree (Call w) us)
FitsList s (call_first r w) us o z further = FitsImplied s r w us o z
FitsList s (Bracketed b l p) us o z further = further (listing_tree (Bracketed b l p) us)

-- what may follow a tree in these frames; where nothing waits for it, nothing is said
abbrev pub FitsIn : Bool → RawTree → List Frame → List Marked → Whole → Type 0
FitsIn s q [] i z = Unit {0}
FitsIn s q (InFields ∷ k) i z = (o : List Marked) × (p : RawTree) × Fields s (depth_of k) q i o p × FitsIn s p k o z
FitsIn s q (InStrays ∷ k) i z = (o : List Marked) × (p : RawTree) × Strays s q i o p × FitsIn s p k o z
FitsIn s q (Prefixed x ∷ k) i z = FitsIn s (prefix_tree x q) k i z
FitsIn s q (InPostfixes ∷ k) i z = (o : List Marked) × (p : RawTree) × Postfixes q i o p × FitsIn s p k o z
FitsIn s q (InInfixes None ∷ k) i z =
    (o : List Marked) × (p : RawTree) × Symbols s (depth_of k) q i o p × FitsIn s p k o z
FitsIn s q (InInfixes (Some l) ∷ k) i z =
    (o : List Marked) × (p : RawTree) × Infixes s (depth_of k) l.symbol (chain_tree (Some l) q) i o p × FitsIn s p k o z
FitsIn s q (InEqualities l ∷ k) i z =
    (o : List Marked) × (p : RawTree) × Equalities s (depth_of k) (symbol_of l) (chain_tree l q) i o p
    × FitsIn s p k o z
FitsIn s q (InConnectives l ∷ k) i z =
    (o : List Marked) × (p : RawTree) × Connectives s (depth_of k) (symbol_of l) (chain_tree l q) i o p
    × FitsIn s p k o z
FitsIn s q (InParentheses ∷ k) i z = (o : List Marked) × (i ≡ (Close, Plain) ∷ o) × FitsIn s q k o z
FitsIn s q (InList h ts ∷ k) i z =
    (o : List Marked) × (us : List RawTree) × Others s (suc (depth_of k)) (closing h) (ts ++ q ∷ []) i o us
    × FitsList s h us o z (λ t. FitsIn s t k o z)
FitsIn s q (InIf p ∷ k) i z =
    (j l m o : List Marked) × (b c : RawTree) × (i ≡ (Then, Plain) ∷ j) × Cond s (suc (depth_of k)) j l b
    × (l ≡ (Else, Plain) ∷ m) × Cond s (suc (depth_of k)) m o c × FitsIn s (if_tree p q b c) k o z
FitsIn s q (InThen p a ∷ k) i z =
    (m o : List Marked) × (c : RawTree) × (i ≡ (Else, Plain) ∷ m) × Cond s (suc (depth_of k)) m o c
    × FitsIn s (if_tree p a q c) k o z
FitsIn s q (InElse p a b ∷ k) i z = FitsIn s (if_tree p a b q) k i z
FitsIn s q (InLeft p w ∷ k) i z =
    FitsBehind s (formula_of q p) w i z
    ⊎ ((j o : List Marked) × (e : Pos) × (r : RawTree) × (i ≡ (Equates e, Head) ∷ j) × Cond s (depth_of k) j o r
    × FitsBehind s (equation_of q e r p) w o z)
FitsIn s q (InRight p l e w ∷ k) i z = FitsBehind s (equation_of l e q p) w i z
FitsIn s q (InExempted p c ∷ k) i z = FitsExempted s (with_exempted c (formula_of q p)) i z

-- what may follow where a term is needed
abbrev pub FitsTerm : Bool → List Frame → List Marked → Whole → Type 0
FitsTerm s k i z = (o : List Marked) × (q : RawTree) × Cond s (depth_of k) i o q × FitsIn s q k o z

-- what may follow where a term without connectives and equalities is needed
abbrev pub FitsOper : Bool → List Frame → List Marked → Whole → Type 0
FitsOper s k i z = (o : List Marked) × (q : RawTree) × Oper s (depth_of k) i o q × FitsIn s q k o z

-- what may follow a prefix symbol
abbrev pub FitsOperand : Bool → List Frame → List Marked → Whole → Type 0
FitsOperand s k i z = (o : List Marked) × (q : RawTree) × Operand s (depth_of k) i o q × FitsIn s q k o z

-- what may follow an infix symbol
abbrev pub FitsPost : Bool → List Frame → List Marked → Whole → Type 0
FitsPost s k i z = (o : List Marked) × (q : RawTree) × Post s (depth_of k) i o q × FitsIn s q k o z

-- what may follow where a bracket is needed, behind this operand if there is one
abbrev pub FitsBracket : Bool → Option RawTree → List Frame → List Marked → Whole → Type 0
FitsBracket s l k i z =
    (o : List Marked) × (q : RawTree) × InBracket s (depth_of k) l i o q × FitsIn s q (InFields ∷ k) o z

-- what may follow in a state; a token that is read but not yet decided on stands in front
abbrev pub Fits : Bool → State → List Marked → Whole → Type 0
Fits s Start i z = (r : RawTrait) × IsMarkedTrait s i r × (whole.Trait r ≡ z)
Fits s (AfterName w) i z = (j : List Marked) × (fs : List RawForm) × HasFormals i j fs × FitsFormals s w fs j z
Fits s (AfterFormals w fs) i z = FitsFormals s w fs i z
Fits s (NeedTrait w fs) i z = FitsTrait s w fs i z
Fits s (AfterHead r) i z = FitsBody s r i z
Fits s (ShortWord r w) i z = FitsBody s r ((Word w, Outside) ∷ i) z
Fits s (NeedConstants r w) i z = FitsBody s r ((Word w, Outside) ∷ (Enumeration, Outside) ∷ i) z
Fits s (NeedConstant r sort ws) i z =
    (j : List Marked) × (w : RawWord) × IsWord i j w × FitsConstants s r sort (ws ++ w ∷ []) j z
Fits s (AfterConstant r sort ws) i z = FitsConstants s r sort ws i z
Fits s (NeedFields r kind w) i z = FitsBody s r ((Word w, Outside) ∷ (fields_terminal kind, Outside) ∷ i) z
Fits s (NeedName n) i z =
    (j : List Marked) × (gs : List RawField) × IsField i j gs × FitsFields s (with_fields n gs) j z
Fits s (AfterNames n ws) i z = FitsFieldNames s n ws i z
Fits s (NeedFurtherName n ws) i z = FitsFieldNames s n ws ((Comma, Outside) ∷ i) z
Fits s (NeedNamesSort n ws) i z =
    (j : List Marked) × (sort : RawWord) × IsWord i j sort × FitsFields s (with_fields n (fields_at ws sort)) j z
Fits s (AfterField n) i z = FitsFields s n i z
Fits s (NeedRef r b) i z = (j : List Marked) × (q : RawRef) × IsRef i j q × FitsRefs s b (with_ref r b q) j z
Fits s (AfterRefName r b w) i z = FitsRefName s r b w i z
Fits s (AfterTraitRef r b) i z = FitsRefs s b r i z
Fits s (AfterRename n) i z = FitsActual s true n i z
Fits s (InPart r) i z = FitsDecls s r i z
Fits s (NeedForm n) i z = FitsNaming s n i z
Fits s (AfterSymbolForm n x) i z = FitsNaming s n ((Symbol x, Outside) ∷ i) z
Fits s (AfterDotForm n p) i z =
    (j : List Marked) × (w : RawWord) × IsWord i j w × FitsForm s n (mixfix (field_name w.name) 1 p) j z
Fits s (AfterLeadingMarker n p) i z = FitsNaming s n ((Marker p, Outside) ∷ i) z
Fits s (AfterMarkerSymbol n p x) i z = FitsNaming s n ((Marker p, Outside) ∷ (Symbol x, Outside) ∷ i) z
Fits s (AfterFormBracket c) i z =
    (j : List Marked) × (m : ℕ) × Markers c.bracket i j m
    × FitsForm s c.naming (bracket_form c.behind c.bracket m c.pos) j z
Fits s (AfterBracketMarker c m) i z = FitsMarks s c.naming c.behind c.bracket m c.pos i z
Fits s (NeedBracketMarker c m) i z = FitsMarks s c.naming c.behind c.bracket m c.pos ((Comma, Outside) ∷ i) z
Fits s (AfterForm n f) i z = FitsForm s n f i z
Fits s (NeedSig n) i z = FitsSig s n i z
Fits s (AfterSort n ws) i z = FitsSorts s n ws i z
Fits s (NeedSort n ws) i z = FitsSorts s n ws ((Comma, Outside) ∷ i) z
Fits s (NeedRange n ws) i z = FitsRange s n ws i z
Fits s (AfterOperatorRef c rs) i z = FitsReferences s c rs i z
Fits s (AfterLone r) i z = (i ≡ []) × (whole.Reference r ≡ z)
Fits s (InItems r) i z = FitsItems s before.Anything r i z
Fits s (FirstWord r w) i z = FitsItems s before.Anything r ((Word w, Head) ∷ i) z
Fits s (AfterSemicolon j) i z = FitsEquations s j.raw j.variables j.equations ((Semicolon, Outside) ∷ i) z
Fits s (WordBehind j w) i z =
    FitsEquations s j.raw j.variables j.equations ((Semicolon, Outside) ∷ (Word w, Head) ∷ i) z
Fits s (ClauseWord r w) i z = FitsItems s before.Equations r ((Word w, Outside) ∷ i) z
Fits s (NeedBy c) i z = FitsBy s c i z
Fits s (NeedVariable r vs) i z = (j : List Marked) × (gs : List RawVar) × IsGroup i j gs × FitsGroups s r (vs ++ gs) j z
Fits s (AfterVariable r vs ws) i z = FitsNames s r vs ws i z
Fits s (NeedFurtherVariable r vs ws) i z = FitsNames s r vs ws ((Comma, Outside) ∷ i) z
Fits s (NeedVariableSort r vs ws) i z =
    (j : List Marked) × (sort : RawWord) × IsWord i j sort × FitsGroups s r (vs ++ variables_at ws sort) j z
Fits s (AfterGroup r vs) i z = FitsGroups s r vs i z
Fits s (AfterImplies r) i z = IsTrue (not (begins_references i)) × FitsItems s before.Anything r i z
Fits s (ImpliedWord r w) i z =
    IsTrue (not (begins_references ((Word w, Head) ∷ i))) × FitsItems s before.Anything r ((Word w, Head) ∷ i) z
Fits s (BehindFirst r w ts) i z = FitsImplied s r w ts i z
Fits s (AfterConverted r rs) i z = FitsConverted s r rs i z
Fits s (NeedExempted r rs) i z =
    (k : List Marked) × (vs : List RawVar) × (es : List RawEquation) × HasExempted s ((Exempting, Outside) ∷ i) k vs es
    × FitsConversions s (with_conversion r rs vs es) k z
Fits s (NeedFurtherExempted c) i z = FitsFurther s c i z
Fits s (NeedEquation w) i z = FitsEquation s w i z
Fits s (NeedTerm k) i z = FitsTerm s k i z
Fits s (NeedOperand k) i z = FitsOper s k i z
Fits s (NeedPrefixed k) i z = FitsOperand s k i z
Fits s (NeedPost k) i z = FitsPost s k i z
Fits s (NeedField r p k) i z = FitsIn s r (InFields ∷ k) ((Dot p, Head) ∷ i) z
Fits s (NeedSortOf r p k) i z = FitsIn s r (InFields ∷ k) ((Colon p, Head) ∷ i) z
Fits s (AfterWord w k) i z = FitsPost s k ((Word w, Head) ∷ i) z
Fits s (NeedFirst b l p k) i z = FitsBracket s l k ((OpenBracket b p, opens_head (suc (depth_of k))) ∷ i) z
Fits s (AfterSymbol x r k) i z = FitsIn s r (InInfixes None ∷ k) ((Symbol x, Head) ∷ i) z
Fits s (Have r k) i z = FitsIn s r k i z

-- what fits from the start on is a trait
pub over_trait : (s : Bool) (i : List Marked) (z : Whole) → Fits s Start i z
    → (raw : RawTrait) × IsMarkedTrait s i raw × (whole.Trait raw ≡ z)
over_trait s i z f = f

-- what fits where an equation by itself is needed is an equation
pub over_equation : (s : Bool) (i : List Marked) (z : Whole) → Fits s (NeedEquation Alone) i z
    → (raw : RawEquation) × IsEquation s i [] raw × (whole.Equation raw ≡ z)
over_equation s i z f = (f.1, subst (λ o. IsEquation s i o f.1) f.3.0 f.2, f.3.1)

-- what fits where a reference by itself is needed is a reference
pub over_reference : (s : Bool) (i : List Marked) (z : Whole) → Fits s (NeedForm Lone) i z
    → (raw : RawOpRef) × IsOpRef i [] raw × (whole.Reference raw ≡ z)
over_reference s i z f = let r = f.3 i f.2 in (r.1, subst (λ o. IsOpRef i o r.1) r.3 r.2, r.4)
