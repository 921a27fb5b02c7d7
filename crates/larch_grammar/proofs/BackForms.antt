-- A step inside a form, a signature or a declaration can be taken back.
use Rattle.std.proofs.Common.{◌≡◌, ℕ, Bool, true, false, IsTrue, cond, None, List, [], ◌∷◌, ◌++◌, refl, subst, sym}
use Rattle.larch_base.specs.declared.position.Pos.{Pos}
use Rattle.larch_grammar_law.specs.declared.mark.Mark.{Mark}
use Rattle.larch_grammar_law.specs.declared.mark.Mark.TheVariants.{Outside}
use Rattle.larch_raw.specs.declared.declared.RawForm.{RawForm}
use Rattle.larch_raw.specs.declared.declared.RawOpRef.{RawOpRef}
use Rattle.larch_raw.specs.declared.declared.RawWord.{RawWord}
use Rattle.larch_raw.specs.declared.equation.RawTrait.{RawTrait}
use Rattle.larch_raw.specs.declared.reference.RawActual.TheVariants as actual
use Rattle.larch_raw.specs.declared.shorthand.RawField.{RawField}
use Rattle.larch_raw.specs.declared.shorthand.RawShorthand.TheVariants as shorthand
use Rattle.larch_grammar.specs.declared.terminal.Bracket.{Bracket}
use Rattle.larch_grammar.specs.declared.terminal.Bracket.TheVariants.{Square, Curly}
use Rattle.larch_grammar.specs.declared.terminal.Terminal.{Terminal}
use Rattle.larch_grammar.specs.declared.terminal.Terminal.TheVariants.{Word, Symbol, Colon, Comma, Dot, Marker, Open}
use Rattle.larch_grammar.specs.declared.terminal.Terminal.TheVariants.{Close, OpenBracket, CloseBracket, Introduces}
use Rattle.larch_grammar.specs.declared.terminal.Terminal.TheVariants.{Asserts, Implies, Converts, Exempting, Includes}
use Rattle.larch_grammar.specs.declared.terminal.Terminal.TheVariants.{Assumes, For, Enumeration, Tuple, Union, Of}
use Rattle.larch_grammar.specs.declared.machine.FieldsKind.{FieldsKind}
use Rattle.larch_grammar.specs.declared.machine.FieldsKind.TheVariants as fields_kind
use Rattle.larch_grammar.specs.declared.machine.FormBracket.{FormBracket}
use Rattle.larch_grammar.specs.declared.machine.Naming.{Naming}
use Rattle.larch_grammar.specs.declared.machine.Naming.TheVariants.{Declared, Referred, Formal, Actual, Renaming}
use Rattle.larch_grammar.specs.declared.machine.Naming.TheVariants.{Renamed, Lone, Converted}
use Rattle.larch_grammar.specs.declared.machine.OpenFields.{OpenFields}
use Rattle.larch_grammar.specs.declared.machine.OpenRef.{OpenRef}
use Rattle.larch_grammar.specs.declared.machine.RefKind.{RefKind}
use Rattle.larch_grammar.specs.declared.machine.RefKind.TheVariants.{Included, Assumed, First, Further}
use Rattle.larch_grammar.specs.declared.machine.Before.TheVariants as before
use Rattle.larch_grammar.specs.declared.machine.State.TheVariants.{NeedConstants, NeedConstant, NeedFields, NeedName}
use Rattle.larch_grammar.specs.declared.machine.State.TheVariants.{AfterSymbolForm, AfterLeadingMarker}
use Rattle.larch_grammar.specs.declared.machine.State.TheVariants.{AfterMarkerSymbol, AfterFormBracket}
use Rattle.larch_grammar.specs.declared.machine.State.TheVariants.{AfterBracketMarker}
use Rattle.larch_grammar.specs.declared.machine.Whole.{Whole}
use Rattle.larch_grammar.specs.Composition.{AreFields, IsField, IsShort, a_tuple, a_union, actuals, an_enumeration}
use Rattle.larch_grammar.specs.Composition.{another_actual, another_field, another_ref, assumes, bare, close_fields}
use Rattle.larch_grammar.specs.Composition.{close_ref, in_place, includes, no_actual, no_field, next_kind, no_ref}
use Rattle.larch_grammar.specs.Composition.{open_fields, open_ref, replaces, shorthand_of, with_actual, with_shorthand}
use Rattle.larch_grammar.specs.Form.{Marked, AreMarkers, Markers, another_form, another_reference, no_reference, a_word}
use Rattle.larch_grammar.specs.Form.{bare_field, bare_symbol, bare_word, bracket_behind, bracketed_form, by_form}
use Rattle.larch_grammar.specs.Form.{by_signature, no_word, another_word, empty, field_form, infix_form, marked}
use Rattle.larch_grammar.specs.Form.{no_form, no_marker, postfix_form, prefix_form}
use Rattle.larch_grammar.specs.Machine.{after_actual, after_constant, after_converted, after_field, after_form}
use Rattle.larch_grammar.specs.Machine.{after_head, after_bracket_marker, after_leading_marker, after_marker_symbol}
use Rattle.larch_grammar.specs.Machine.{after_trait_ref, after_ref_name, after_operator_ref, after_rename}
use Rattle.larch_grammar.specs.Machine.{after_symbol_form, begin_claim, begin_conversion, begin_form, begin_item}
use Rattle.larch_grammar.specs.Machine.{behind_refs, end_marks, in_part, after_form_bracket, short_word, with_reference}
use Rattle.larch_grammar.specs.Traits.{a_shorthand, another_declaration, assertions, declaration, introduced}
use Rattle.larch_grammar.specs.Traits.{no_declaration, nothing_exempted, parts, references, with_conversion}
use Rattle.larch_grammar.specs.Terminal.{ends_reference}
use Rattle.larch_grammar.specs.Trees.{bracket_form, infix_name, mixfix, plain_form, postfix_name}
use Rattle.larch_grammar.proofs.Fits.{Fits, FitsActual, FitsAssertions, FitsBehindRefs, FitsBody, FitsConversions}
use Rattle.larch_grammar.proofs.Fits.{FitsConverted, FitsConstants, FitsDecls, FitsFields, FitsForm, FitsNaming}
use Rattle.larch_grammar.proofs.Fits.{FitsRefName, FitsItems, FitsReferences, FitsRefs, MayFollow, fields_terminal}
use Rattle.larch_grammar.proofs.BackItems.{item_back, reference_back}
use Rattle.larch_grammar.proofs.BackTerms.{Back, claim_back, conversion_back, passed}

-- the first token of a form
pub form_back : (s : Bool) (n : Naming) (t : Terminal) → Back s (begin_form n t) t (FitsNaming s n)
form_back s n (Word w) = λ i z f. (i, plain_form w, bare_word a_word, f)
form_back s n (Symbol x) = λ i z f. f
form_back s n (Dot p) = λ i z f. (f.0, _, bare_field f.2, f.3)
form_back s n (Marker p) = λ i z f. f
form_back s n (OpenBracket b p) = λ i z f. (f.0, _, bracketed_form f.2, f.3)
form_back s n _ = tt

-- an actual is read, the last of these, and a token stands behind it
actual_back : (s : Bool) (n : OpenRef) (t : Terminal) → Back s (after_actual n t) t (FitsActual s false n)
actual_back s n Comma = λ i z f. let r = f.3 i f.2 in (r.0, r.1, another_actual r.2, r.3)
actual_back s n Close = λ i z f. (i, n.actuals, no_actual, f)
actual_back s n _ = tt

-- the same of a replacement
pub rename_back : (s : Bool) (n : OpenRef) (t : Terminal) → Back s (after_rename n t) t (FitsActual s true n)
rename_back s n Comma = λ i z f. let r = f.3 i f.2 in (r.0, r.1, another_actual r.2, r.3)
rename_back s n Close = λ i z f. (i, n.actuals, no_actual, f)
rename_back s n _ = tt

-- a reference of a conversion is read, the last of these, and a token stands behind it
pub converted_back : (s : Bool) (r : RawTrait) (rs : List RawOpRef) (t : Terminal)
    → Back s (after_converted r rs t) t (FitsConverted s r rs)
converted_back s r rs Comma = λ i z f. let q = f.3 i f.2 in
    (q.3.0, q.3.1, q.3.2, q.3.3, q.3.4, another_reference q.2 q.3.5, q.3.6, q.3.7)
converted_back s r rs Exempting = λ i z f. ((Exempting, Outside) ∷ i, f.0, rs, f.1, f.2, no_reference, f.3, f.4)
converted_back s r rs t =
    passed s (begin_conversion (with_conversion r rs [] []) t) t (FitsConversions s (with_conversion r rs [] []))
    (FitsConverted s r rs) (λ m i z f. ((t, m) ∷ i, (t, m) ∷ i, rs, [], [], no_reference, nothing_exempted, f))
    (conversion_back s (with_conversion r rs [] []) t)

-- a form is read, and a token stands behind it
pub form_read_back : (s : Bool) (n : Naming) (f : RawForm) (t : Terminal) → Back s (after_form n f t) t (FitsForm s n f)
form_read_back s (Declared r fs) f Comma = λ i z h. (h.3.0, h.3.1, h.3.2, another_form h.2 h.3.3, h.3.4)
form_read_back s (Declared r fs) f (Colon p) = λ i z h. (i, p, fs ++ f ∷ [], no_form, h)
form_read_back s (Declared r fs) f _ = tt
form_read_back s (Referred c rs) f (Colon p) = λ i z h. λ j form. (h.0, _, by_signature form h.2, h.3)
form_read_back s (Referred c rs) f t =
    passed s (after_operator_ref c (with_reference rs f) t) t (FitsReferences s c (with_reference rs f))
    (FitsForm s (Referred c rs) f) (λ m i z h. λ j form. ((t, m) ∷ i, _, by_form form, h))
    (reference_back s c (with_reference rs f) t)
form_read_back s (Formal w fs) f Comma = λ i z h. (h.3.0, h.3.1, another_form h.2 h.3.2, h.3.3)
form_read_back s (Formal w fs) f Close = λ i z h. (i, fs ++ f ∷ [], no_form, h)
form_read_back s (Formal w fs) f _ = tt
form_read_back s (Actual n) f For = λ i z h. λ j form. let r = h.3 i h.2 in
    (r.3.0, r.3.1, replaces form r.2 r.3.2, r.3.3)
form_read_back s (Actual n) f t =
    passed s (after_actual (with_actual n (actual.Plain f)) t) t (FitsActual s false (with_actual n (actual.Plain f)))
    (FitsForm s (Actual n) f) (λ m i z h. λ j form. (h.0, h.1, in_place form h.2, h.3))
    (actual_back s (with_actual n (actual.Plain f)) t)
form_read_back s (Renaming n) f For = λ i z h. λ j form. let r = h.3 i h.2 in
    (r.3.0, r.3.1, replaces form r.2 r.3.2, r.3.3)
form_read_back s (Renaming n) f _ = tt
form_read_back s (Renamed n f) g (Colon p) = λ i z h. λ j form. (h.0, _, by_signature form h.2, h.3)
form_read_back s (Renamed n f) g t =
    passed s (after_rename (with_actual n (actual.Replace f g None)) t) t
    (FitsActual s true (with_actual n (actual.Replace f g None))) (FitsForm s (Renamed n f) g)
    (λ m i z h. λ j form. ((t, m) ∷ i, _, by_form form, h))
    (rename_back s (with_actual n (actual.Replace f g None)) t)
form_read_back s (Converted r rs) f (Colon p) = λ i z h. λ j form. (h.0, _, by_signature form h.2, h.3)
form_read_back s (Converted r rs) f t =
    passed s (after_converted r (with_reference rs f) t) t (FitsConverted s r (with_reference rs f))
    (FitsForm s (Converted r rs) f) (λ m i z h. λ j form. ((t, m) ∷ i, _, by_form form, h))
    (converted_back s r (with_reference rs f) t)
form_read_back s Lone f (Colon p) = λ i z h. λ j form. (h.0, _, by_signature form h.2, h.3.0, h.3.1)
form_read_back s Lone f _ = tt

-- a symbol that begins a form is read
pub symbol_form_back : (s : Bool) (n : Naming) (x : RawWord) (t : Terminal)
    → Back s (after_symbol_form n x t) t (Fits s (AfterSymbolForm n x))
symbol_form_back s n x (Marker p) = λ i z f. (i, _, prefix_form, f)
symbol_form_back s n x t =
    passed s (after_form n (mixfix (infix_name x.name) 2 x.pos) t) t (FitsForm s n (mixfix (infix_name x.name) 2 x.pos))
    (Fits s (AfterSymbolForm n x)) (λ m i z f. ((t, m) ∷ i, _, bare_symbol, f))
    (form_read_back s n (mixfix (infix_name x.name) 2 x.pos) t)

-- a `__` that begins a form is read
pub marker_back : (s : Bool) (n : Naming) (p : Pos) (t : Terminal)
    → Back s (after_leading_marker n p t) t (Fits s (AfterLeadingMarker n p))
marker_back s n p (Dot q) = λ i z f. (f.0, _, field_form f.2, f.3)
marker_back s n p (Symbol x) = λ i z f. f
marker_back s n p (OpenBracket b q) = λ i z f. (f.0, _, bracket_behind f.2, f.3)
marker_back s n p _ = tt

-- a `__` and a symbol are read
pub marker_symbol_back : (s : Bool) (n : Naming) (p : Pos) (x : RawWord) (t : Terminal)
    → Back s (after_marker_symbol n p x t) t (Fits s (AfterMarkerSymbol n p x))
marker_symbol_back s n p x (Marker q) = λ i z f. (i, _, infix_form, f)
marker_symbol_back s n p x t =
    passed s (after_form n (mixfix (postfix_name x.name) 1 p) t) t (FitsForm s n (mixfix (postfix_name x.name) 1 p))
    (Fits s (AfterMarkerSymbol n p x)) (λ m i z f. ((t, m) ∷ i, _, postfix_form, f))
    (form_read_back s n (mixfix (postfix_name x.name) 1 p) t)

-- the bracket of a form ends here, with so many markers
abbrev MarksEnd : Bool → Naming → Bool → Bracket → ℕ → Pos → List Marked → Whole → Type 0
MarksEnd s n behind b m p i z =
    (j : List Marked) × (i ≡ (CloseBracket b, Outside) ∷ j) × FitsForm s n (bracket_form behind b m p) j z

marks_end_back : (s : Bool) (n : Naming) (behind : Bool) (b : Bracket) (m : ℕ) (p : Pos) (t : Terminal)
    → Back s (end_marks n behind b m p t) t (MarksEnd s n behind b m p)
marks_end_back s n behind Square m p (CloseBracket Square) = λ i z f. (i, refl, f)
marks_end_back s n behind Curly m p (CloseBracket Curly) = λ i z f. (i, refl, f)
marks_end_back s n behind b m p _ = tt

-- a bracket of a form is open
pub marks_back : (s : Bool) (c : FormBracket) (t : Terminal)
    → Back s (after_form_bracket c t) t (Fits s (AfterFormBracket c))
marks_back s c (Marker q) = λ i z f. (f.0, f.1, marked f.2, f.3)
marks_back s c t =
    passed s (end_marks c.naming c.behind c.bracket 0 c.pos t) t (MarksEnd s c.naming c.behind c.bracket 0 c.pos)
    (Fits s (AfterFormBracket c)) (λ m i z f. (f.0, 0, subst (λ x. Markers c.bracket x f.0 0) (sym f.1) empty, f.2))
    (marks_end_back s c.naming c.behind c.bracket 0 c.pos t)

-- so many markers stand in it
pub mark_back : (s : Bool) (c : FormBracket) (l : ℕ) (t : Terminal)
    → Back s (after_bracket_marker c l t) t (Fits s (AfterBracketMarker c l))
mark_back s c l Comma = λ i z f. f
mark_back s c l t =
    passed s (end_marks c.naming c.behind c.bracket l c.pos t) t (MarksEnd s c.naming c.behind c.bracket l c.pos)
    (Fits s (AfterBracketMarker c l))
    (λ m i z f. (f.0, l, subst (λ x. AreMarkers c.bracket l x f.0 l) (sym f.1) no_marker, f.2))
    (marks_end_back s c.naming c.behind c.bracket l c.pos t)

-- a form of a declaration, where a declaration may begin
decl_of_form : (s : Bool) (r : RawTrait) (i : List Marked) (z : Whole) → FitsNaming s (Declared r []) i z
    → FitsDecls s r i z
decl_of_form s r i z f = (
  f.3.4.3.0,
  f.3.4.3.1,
  f.3.4.3.2,
  another_declaration (declaration f.2 f.3.3 f.3.4.2) f.3.4.3.3,
  f.3.4.3.4,
  f.3.4.3.5,
)

-- a part behind the declarations, where a declaration may begin
claim_of_decls : (s : Bool) (r : RawTrait) (t : Terminal) → Back s (begin_claim r t) t (FitsDecls s r)
claim_of_decls s r t =
    passed s (begin_claim r t) t (FitsAssertions s r) (FitsDecls s r)
    (λ m i z f. ((t, m) ∷ i, r, f.0, no_declaration, assertions f.1, f.2)) (claim_back s r t)

-- `introduces` or a declaration is read
pub part_of_decls_back : (s : Bool) (r : RawTrait) (t : Terminal) → Back s (in_part r t) t (FitsDecls s r)
part_of_decls_back s r Introduces =
    λ i z f. ((Introduces, Outside) ∷ i, r, f.2, no_declaration, introduced f.3 f.4, f.5)
part_of_decls_back s r Asserts = claim_of_decls s r Asserts
part_of_decls_back s r (Implies lists) = claim_of_decls s r (Implies lists)
part_of_decls_back s r Converts = claim_of_decls s r Converts
part_of_decls_back s r t =
    passed s (begin_form (Declared r []) t) t (FitsNaming s (Declared r [])) (FitsDecls s r)
    (λ m i z f. decl_of_form s r ((t, m) ∷ i) z f) (form_back s (Declared r []) t)

-- the head of a trait is read
pub head_back : (s : Bool) (r : RawTrait) (t : Terminal) → Back s (after_head r t) t (FitsBody s r)
head_back s r (Word w) = λ i z f. f
head_back s r Includes = λ i z f. (f.3.4.0, references includes f.2 f.3.2 f.3.4.1, f.3.4.2)
head_back s r Assumes = λ i z f. (f.3.4.0, references assumes f.2 f.3.2 f.3.4.1, f.3.4.2)
head_back s r Introduces = λ i z f. (f.2, parts (introduced f.3 f.4), f.5)
head_back s r t =
    passed s (begin_claim r t) t (FitsAssertions s r) (FitsBody s r) (λ m i z f. (f.0, parts (assertions f.1), f.2))
    (claim_back s r t)

-- the word that begins a shorthand is read
pub short_word_back : (s : Bool) (r : RawTrait) (w : RawWord) (t : Terminal)
    → Back s (short_word r w t) t (λ i z. FitsBody s r ((Word w, Outside) ∷ i) z)
short_word_back s r w Enumeration = λ i z f. f
short_word_back s r w Tuple = λ i z f. f
short_word_back s r w Union = λ i z f. f
short_word_back s r w _ = tt

-- `of` behind `enumeration` is read
pub constants_back : (s : Bool) (r : RawTrait) (w : RawWord) (i : List Marked) (z : Whole)
    → Fits s (NeedConstant r w []) i z → Fits s (NeedConstants r w) ((Of, Outside) ∷ i) z
constants_back s r w i z f = (f.3.3.0, a_shorthand (an_enumeration a_word f.2 f.3.2) f.3.3.1, f.3.3.2)

-- a constant of an enumeration is read
pub constant_back : (s : Bool) (r : RawTrait) (sort : RawWord) (ws : List RawWord) (t : Terminal)
    → Back s (after_constant r sort ws t) t (FitsConstants s r sort ws)
constant_back s r sort ws Comma = λ i z f. (f.3.0, f.3.1, another_word f.2 f.3.2, f.3.3)
constant_back s r sort ws t =
    passed s (after_head (with_shorthand r (shorthand.Enumeration sort ws)) t) t
    (FitsBody s (with_shorthand r (shorthand.Enumeration sort ws))) (FitsConstants s r sort ws)
    (λ m i z f. ((t, m) ∷ i, ws, no_word, f)) (head_back s (with_shorthand r (shorthand.Enumeration sort ws)) t)

-- a tuple or a union of fields
short_of_fields : {i j o : List Marked} {gs fs : List RawField} → IsField i j gs → AreFields gs j o fs
    → (kind : FieldsKind) (sort : RawWord)
    → IsShort ((Word sort, Outside) ∷ (fields_terminal kind, Outside) ∷ (Of, Outside) ∷ i) o (shorthand_of kind sort fs)
short_of_fields q more fields_kind.Tuple sort = a_tuple a_word q more
short_of_fields q more fields_kind.Union sort = a_union a_word q more

-- `of` behind `tuple` or `union` is read
pub fields_back : (s : Bool) (r : RawTrait) (kind : FieldsKind) (w : RawWord) (i : List Marked) (z : Whole)
    → Fits s (NeedName (open_fields r kind w [])) i z → Fits s (NeedFields r kind w) ((Of, Outside) ∷ i) z
fields_back s r kind w i z f = (f.3.3.0, a_shorthand (short_of_fields f.2 f.3.2 kind w) f.3.3.1, f.3.3.2)

-- fields with their sorts are read
pub field_back : (s : Bool) (n : OpenFields) (t : Terminal) → Back s (after_field n t) t (FitsFields s n)
field_back s n Comma = λ i z f. (f.3.0, f.3.1, another_field f.2 f.3.2, f.3.3)
field_back s n t =
    passed s (after_head (close_fields n) t) t (FitsBody s (close_fields n)) (FitsFields s n)
    (λ m i z f. ((t, m) ∷ i, n.fields, no_field, f)) (head_back s (close_fields n) t)

-- a `,` may follow each reference, and what may follow the further ones may follow it
comma_follows : (b : RefKind) (m : Mark) (i : List Marked) → MayFollow b ((Comma, m) ∷ i)
comma_follows Included m i = tt
comma_follows Assumed m i = tt
comma_follows First m i = refl
comma_follows Further m i = tt

further_follows : (s : Bool) (b : RefKind) (r : RawTrait) (i : List Marked) (z : Whole)
    → FitsBehindRefs s (next_kind b) r i z → FitsBehindRefs s b r i z
further_follows s Included r i z f = f
further_follows s Assumed r i z f = f
further_follows s First r i z f = f
further_follows s Further r i z f = f

-- what follows references
abbrev Follows : Bool → RefKind → RawTrait → List Marked → Whole → Type 0
Follows s b r i z = MayFollow b i × FitsBehindRefs s b r i z

first_back : (s : Bool) (r : RawTrait) (t : Terminal) (e : Bool) → ends_reference t ≡ e
    → Back s (cond e (begin_item r t) None) t (Follows s First r)
first_back s r t true e =
    passed s (begin_item r t) t (FitsItems s before.Anything r) (Follows s First r) (λ m i z f. (e, f))
    (item_back s r t)
first_back s r t false e = tt

behind_refs_back : (s : Bool) (b : RefKind) (r : RawTrait) (t : Terminal) → Back s (behind_refs b r t) t (Follows s b r)
behind_refs_back s Included r t =
    passed s (after_head r t) t (FitsBody s r) (Follows s Included r) (λ m i z f. (tt, f)) (head_back s r t)
behind_refs_back s Assumed r t =
    passed s (after_head r t) t (FitsBody s r) (Follows s Assumed r) (λ m i z f. (tt, f)) (head_back s r t)
behind_refs_back s First r t = first_back s r t (ends_reference t) refl
behind_refs_back s Further r t =
    passed s (begin_item r t) t (FitsItems s before.Anything r) (Follows s Further r) (λ m i z f. (tt, f))
    (item_back s r t)

-- a reference is read
pub ref_back : (s : Bool) (r : RawTrait) (b : RefKind) (t : Terminal)
    → Back s (after_trait_ref r b t) t (FitsRefs s b r)
ref_back s r b Comma =
    λ i z f. (f.3.0, f.3.1, another_ref f.2 f.3.2, comma_follows b Outside i, further_follows s b f.3.1 f.3.0 z f.3.4)
ref_back s r b t =
    passed s (behind_refs b r t) t (Follows s b r) (FitsRefs s b r) (λ m i z f. ((t, m) ∷ i, r, no_ref, f.0, f.1))
    (behind_refs_back s b r t)

-- the name of a trait that is referred to is read
pub ref_name_back : (s : Bool) (r : RawTrait) (b : RefKind) (w : RawWord) (t : Terminal)
    → Back s (after_ref_name r b w t) t (FitsRefName s r b w)
ref_name_back s r b w (Open p) = λ i z f. let h = f.3 i f.2 in (h.0, h.1, actuals h.2, h.3)
ref_name_back s r b w t =
    passed s (after_trait_ref (close_ref (open_ref r b w [])) b t) t (FitsRefs s b (close_ref (open_ref r b w [])))
    (FitsRefName s r b w) (λ m i z f. ((t, m) ∷ i, [], bare refl, f)) (ref_back s (close_ref (open_ref r b w [])) b t)
