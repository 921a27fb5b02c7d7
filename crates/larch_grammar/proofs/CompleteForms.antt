-- What the grammar of words, forms, signatures and variables allows the machine reads, from behind.
use Rattle.std.proofs.Common.{◌≡◌, ℕ, Bool, true, false, Option, Some, None, List, [], ◌∷◌, ◌++◌, refl, sym, ◌∙◌}
use Rattle.larch_base.specs.declared.position.Pos.{Pos}
use Rattle.larch_grammar_law.specs.Walks.{Accepts}
use Rattle.larch_grammar_law.proofs.Walking.{none_some}
use Rattle.larch_raw.specs.declared.declared.RawDecl.{RawDecl}
use Rattle.larch_raw.specs.declared.declared.RawForm.{RawForm}
use Rattle.larch_raw.specs.declared.declared.RawOpRef.{RawOpRef}
use Rattle.larch_raw.specs.declared.declared.RawSig.{RawSig}
use Rattle.larch_raw.specs.declared.declared.RawWord.{RawWord}
use Rattle.larch_raw.specs.declared.equation.RawTrait.{RawTrait}
use Rattle.larch_raw.specs.declared.equation.RawVar.{RawVar}
use Rattle.larch_grammar.specs.Form.{Marked, a_word, AreWords, no_word, another_word, AreMarkers, no_marker}
use Rattle.larch_grammar.specs.Form.{another_marker, Markers, empty, marked, IsForm, bare_word, bare_symbol, bare_field}
use Rattle.larch_grammar.specs.Form.{field_form, prefix_form, postfix_form, infix_form, bracketed_form, bracket_behind}
use Rattle.larch_grammar.specs.Form.{AreForms, no_form, another_form, no_sort, sorts, IsSig, signature, IsOpRef}
use Rattle.larch_grammar.specs.Form.{by_form, by_signature, AreOpRefs, no_reference, another_reference, IsGroup, group}
use Rattle.larch_grammar.specs.Form.{AreGroups, no_group, another_group}
use Rattle.larch_grammar.specs.Machine.{form_bracket, Taking, after_form, end_marks, final, hand_sig, outside, step}
use Rattle.larch_grammar.specs.Machine.{with_reference}
use Rattle.larch_grammar.specs.Traits.{IsDecl, declaration, with_declaration}
use Rattle.larch_grammar.specs.Trees.{infix_name, postfix_name, mixfix, bracket_form}
use Rattle.larch_grammar.specs.declared.terminal.Bracket.{Bracket}
use Rattle.larch_grammar.specs.declared.terminal.Bracket.TheVariants.{Square, Curly}
use Rattle.larch_grammar.specs.declared.terminal.Terminal.{Terminal}
use Rattle.larch_grammar.specs.declared.terminal.Terminal.TheVariants.{Colon, Comma, Marker, CloseBracket}
use Rattle.larch_grammar.specs.declared.machine.Clause.{Clause}
use Rattle.larch_grammar.specs.declared.machine.Naming.{Naming}
use Rattle.larch_grammar.specs.declared.machine.Naming.TheVariants.{Declared, Referred, Formal, Actual, Renaming}
use Rattle.larch_grammar.specs.declared.machine.Naming.TheVariants.{Renamed, Lone, Converted}
use Rattle.larch_grammar.specs.declared.machine.VariablesFor.{VariablesFor}
use Rattle.larch_grammar.specs.declared.machine.Signing.{Signing}
use Rattle.larch_grammar.specs.declared.machine.Signing.TheVariants.{Declaration, Reference, LoneForm, Conversion}
use Rattle.larch_grammar.specs.declared.machine.State.{State}
use Rattle.larch_grammar.specs.declared.machine.State.TheVariants.{InPart, NeedForm, AfterSymbolForm, AfterMarkerSymbol}
use Rattle.larch_grammar.specs.declared.machine.State.TheVariants.{AfterFormBracket, AfterBracketMarker, AfterForm}
use Rattle.larch_grammar.specs.declared.machine.State.TheVariants.{NeedSig, AfterSort, AfterConverted, AfterOperatorRef}
use Rattle.larch_grammar.specs.declared.machine.State.TheVariants.{NeedVariable, AfterVariable, AfterGroup}
use Rattle.larch_grammar.specs.declared.machine.Whole.{Whole}
use Rattle.larch_grammar.specs.declared.machine.Whole.TheVariants as whole

-- the machine reads these tokens from this state, and they end in this whole
abbrev pub AcceptsFrom : Bool → State → List Marked → Whole → Type 0
AcceptsFrom s n i z = Accepts (step s) final n i z

-- the same where the first token is taken so, and the whole is this one where there is none
abbrev pub AcceptsBy : Bool → (Terminal → Taking) → Option Whole → List Marked → Whole → Type 0
AcceptsBy s first end [] z = end ≡ Some z
AcceptsBy s first end (m ∷ ms) z = (after : State) × (first m.0 ≡ Some (m.1, after)) × AcceptsFrom s after ms z

-- no `__` follows a form
no_marker_behind : (n : Naming) (f : RawForm) (p : Pos) → after_form n f (Marker p) ≡ None
no_marker_behind (Declared raw fs) f p = refl
no_marker_behind (Referred c rs) f p = refl
no_marker_behind (Formal name fs) f p = refl
no_marker_behind (Actual n) f p = refl
no_marker_behind (Renaming n) f p = refl
no_marker_behind (Renamed n f) g p = refl
no_marker_behind Lone f p = refl
no_marker_behind (Converted raw rs) f p = refl

-- a symbol alone is a form where no `__` follows
symbol_alone : (s : Bool) (o : List Marked) (n : Naming) (x : RawWord) (z : Whole)
    → AcceptsFrom s (AfterForm n (mixfix (infix_name x.name) 2 x.pos)) o z → AcceptsFrom s (AfterSymbolForm n x) o z
symbol_alone s [] n x z r = r
symbol_alone s ((Marker p, m) ∷ o) n x z r =
    absurd (none_some (sym (no_marker_behind n (mixfix (infix_name x.name) 2 x.pos) p) ∙ r.1))
symbol_alone s ((t, m) ∷ o) n x z r = r

-- a symbol behind a `__` is postfix where no `__` follows
symbol_behind : (s : Bool) (o : List Marked) (n : Naming) (p : Pos) (x : RawWord) (z : Whole)
    → AcceptsFrom s (AfterForm n (mixfix (postfix_name x.name) 1 p)) o z → AcceptsFrom s (AfterMarkerSymbol n p x) o z
symbol_behind s [] n p x z r = r
symbol_behind s ((Marker q, m) ∷ o) n p x z r =
    absurd (none_some (sym (no_marker_behind n (mixfix (postfix_name x.name) 1 p) q) ∙ r.1))
symbol_behind s ((t, m) ∷ o) n p x z r = r

-- the bracket of a form ends
marks_end : (n : Naming) (behind : Bool) (b : Bracket) (m : ℕ) (p : Pos)
    → end_marks n behind b m p (CloseBracket b) ≡ outside (AfterForm n (bracket_form behind b m p))
marks_end n behind Square m p = refl
marks_end n behind Curly m p = refl

marks_read : {b : Bracket} {m e : ℕ} {i o : List Marked} → AreMarkers b m i o e
    → (s : Bool) (n : Naming) (behind : Bool) (p : Pos) (z : Whole)
    → AcceptsFrom s (AfterForm n (bracket_form behind b e p)) o z
    → AcceptsFrom s (AfterBracketMarker (form_bracket n behind b p) m) i z
marks_read (no_marker {b = b} {n = m}) s n behind p z r = (_, marks_end n behind b m p, r)
marks_read (another_marker more) s n behind p z r = (_, refl, (_, refl, marks_read more s n behind p z r))

markers_read : {b : Bracket} {e : ℕ} {i o : List Marked} → Markers b i o e
    → (s : Bool) (n : Naming) (behind : Bool) (p : Pos) (z : Whole)
    → AcceptsFrom s (AfterForm n (bracket_form behind b e p)) o z
    → AcceptsFrom s (AfterFormBracket (form_bracket n behind b p)) i z
markers_read (empty {b = b}) s n behind p z r = (_, marks_end n behind b 0 p, r)
markers_read (marked more) s n behind p z r = (_, refl, marks_read more s n behind p z r)

pub form_reads : {i o : List Marked} {f : RawForm} → IsForm i o f → (s : Bool) (n : Naming) (z : Whole)
    → AcceptsFrom s (AfterForm n f) o z → AcceptsFrom s (NeedForm n) i z
form_reads (bare_word a_word) s n z r = (_, refl, r)
form_reads (bare_symbol {o = o} {x = x}) s n z r = (_, refl, symbol_alone s o n x z r)
form_reads (bare_field a_word) s n z r = (_, refl, (_, refl, r))
form_reads (field_form a_word) s n z r = (_, refl, (_, refl, (_, refl, r)))
form_reads prefix_form s n z r = (_, refl, (_, refl, r))
form_reads (postfix_form {o = o} {x = x} {p = p}) s n z r = (_, refl, (_, refl, symbol_behind s o n p x z r))
form_reads infix_form s n z r = (_, refl, (_, refl, (_, refl, r)))
form_reads (bracketed_form {p = p} more) s n z r = (_, refl, markers_read more s n false p z r)
form_reads (bracket_behind {p = p} more) s n z r = (_, refl, (_, refl, markers_read more s n true p z r))

-- the step behind these forms of a declaration
abbrev pub behind_forms : RawTrait → List RawForm → Terminal → Taking
behind_forms raw fs Comma = outside (NeedForm (Declared raw fs))
behind_forms raw fs (Colon p) = outside (NeedSig (Declaration raw fs))
behind_forms raw fs _ = None

last_form : (s : Bool) (o : List Marked) (raw : RawTrait) (fs : List RawForm) (f : RawForm) (z : Whole)
    → AcceptsBy s (behind_forms raw (fs ++ f ∷ [])) None o z → AcceptsFrom s (AfterForm (Declared raw fs) f) o z
last_form s [] raw fs f z r = r
last_form s ((Comma, m) ∷ o) raw fs f z r = r
last_form s ((t, m) ∷ o) raw fs f z r = r

forms_read : {fs gs : List RawForm} {i o : List Marked} → AreForms fs i o gs → (s : Bool) (raw : RawTrait) (z : Whole)
    → AcceptsBy s (behind_forms raw gs) None o z → AcceptsBy s (behind_forms raw fs) None i z
forms_read no_form s raw z r = r
forms_read (another_form {fs = fs} {f = f} {j = j} form more) s raw z r =
    (_, refl, form_reads form s (Declared raw fs) z (last_form s j raw fs f z (forms_read more s raw z r)))

pub words_read : {ws vs : List RawWord} {i o : List Marked} → AreWords ws i o vs → (s : Bool) (k : Signing) (z : Whole)
    → AcceptsFrom s (AfterSort k vs) o z → AcceptsFrom s (AfterSort k ws) i z
words_read no_word s k z r = r
words_read (another_word a_word more) s k z r = (_, refl, (_, refl, words_read more s k z r))

pub sig_reads : {i o : List Marked} {sig : RawSig} → IsSig i o sig → (s : Bool) (k : Signing) (z : Whole)
    → AcceptsFrom s (hand_sig k sig) o z → AcceptsFrom s (NeedSig k) i z
sig_reads (signature no_sort a_word) s k z r = (_, refl, (_, refl, r))
sig_reads (signature (sorts a_word more) a_word) s k z r = (_, refl, words_read more s k z (_, refl, (_, refl, r)))

-- the forms of a declaration, from the first on
pub decl_reads : {i o : List Marked} {d : RawDecl} → IsDecl i o d → (s : Bool) (raw : RawTrait) (z : Whole)
    → AcceptsFrom s (InPart (with_declaration raw d)) o z → AcceptsFrom s (NeedForm (Declared raw [])) i z
decl_reads (declaration {j = j} {f = f} {fs = fs} form more sig) s raw z r =
    form_reads form s (Declared raw []) z
    (last_form s j raw [] f z (forms_read more s raw z (_, refl, sig_reads sig s (Declaration raw fs) z r)))

-- a reference that is a form alone
form_alone : (s : Bool) (o : List Marked) (c : Clause) (rs : List RawOpRef) (f : RawForm) (z : Whole)
    → AcceptsFrom s (AfterOperatorRef c (with_reference rs f)) o z → AcceptsFrom s (AfterForm (Referred c rs) f) o z
form_alone s [] c rs f z r = r
form_alone s ((Colon p, m) ∷ o) c rs f z r = absurd (none_some r.1)
form_alone s ((t, m) ∷ o) c rs f z r = r

opref_reads : {i o : List Marked} {q : RawOpRef} → IsOpRef i o q
    → (s : Bool) (c : Clause) (rs : List RawOpRef) (z : Whole) → AcceptsFrom s (AfterOperatorRef c (rs ++ q ∷ [])) o z
    → AcceptsFrom s (NeedForm (Referred c rs)) i z
opref_reads (by_form {o = o} {f = f} form) s c rs z r = form_reads form s (Referred c rs) z (form_alone s o c rs f z r)
opref_reads (by_signature {f = f} form sig) s c rs z r =
    form_reads form s (Referred c rs) z (_, refl, sig_reads sig s (Reference c rs f) z r)

oprefs_read : {rs qs : List RawOpRef} {i o : List Marked} → AreOpRefs rs i o qs → (s : Bool) (c : Clause) (z : Whole)
    → AcceptsFrom s (AfterOperatorRef c qs) o z → AcceptsFrom s (AfterOperatorRef c rs) i z
oprefs_read no_reference s c z r = r
oprefs_read (another_reference {rs = rs} q more) s c z r = (_, refl, opref_reads q s c rs z (oprefs_read more s c z r))

-- the references of a clause
pub references_read : {i j o : List Marked} {q : RawOpRef} {rs : List RawOpRef} → IsOpRef i j q
    → AreOpRefs (q ∷ []) j o rs → (s : Bool) (c : Clause) (z : Whole) → AcceptsFrom s (AfterOperatorRef c rs) o z
    → AcceptsFrom s (NeedForm (Referred c [])) i z
references_read q more s c z r = opref_reads q s c [] z (oprefs_read more s c z r)

-- a reference of a conversion that is a form alone
converted_alone : (s : Bool) (o : List Marked) (raw : RawTrait) (rs : List RawOpRef) (f : RawForm) (z : Whole)
    → AcceptsFrom s (AfterConverted raw (with_reference rs f)) o z → AcceptsFrom s (AfterForm (Converted raw rs) f) o z
converted_alone s [] raw rs f z r = r
converted_alone s ((Colon p, m) ∷ o) raw rs f z r = absurd (none_some r.1)
converted_alone s ((t, m) ∷ o) raw rs f z r = r

converted_reads : {i o : List Marked} {q : RawOpRef} → IsOpRef i o q
    → (s : Bool) (raw : RawTrait) (rs : List RawOpRef) (z : Whole)
    → AcceptsFrom s (AfterConverted raw (rs ++ q ∷ [])) o z → AcceptsFrom s (NeedForm (Converted raw rs)) i z
converted_reads (by_form {o = o} {f = f} form) s raw rs z r =
    form_reads form s (Converted raw rs) z (converted_alone s o raw rs f z r)
converted_reads (by_signature {f = f} form sig) s raw rs z r =
    form_reads form s (Converted raw rs) z (_, refl, sig_reads sig s (Conversion raw rs f) z r)

further_converted : {rs qs : List RawOpRef} {i o : List Marked} → AreOpRefs rs i o qs
    → (s : Bool) (raw : RawTrait) (z : Whole) → AcceptsFrom s (AfterConverted raw qs) o z
    → AcceptsFrom s (AfterConverted raw rs) i z
further_converted no_reference s raw z r = r
further_converted (another_reference {rs = rs} q more) s raw z r =
    (_, refl, converted_reads q s raw rs z (further_converted more s raw z r))

-- the references of a conversion
pub all_converted : {i j o : List Marked} {q : RawOpRef} {rs : List RawOpRef} → IsOpRef i j q
    → AreOpRefs (q ∷ []) j o rs → (s : Bool) (raw : RawTrait) (z : Whole) → AcceptsFrom s (AfterConverted raw rs) o z
    → AcceptsFrom s (NeedForm (Converted raw [])) i z
all_converted q more s raw z r = converted_reads q s raw [] z (further_converted more s raw z r)

-- a reference by itself
pub reference_reads : {i : List Marked} {q : RawOpRef} → IsOpRef i [] q → (s : Bool)
    → AcceptsFrom s (NeedForm Lone) i (whole.Reference q)
reference_reads (by_form {f = f} form) s =
    form_reads form s Lone (whole.Reference (record { form = f; sig = None })) refl
reference_reads (by_signature {f = f} {s = sig} form more) s =
    form_reads form s Lone (whole.Reference (record { form = f; sig = Some sig }))
    (_, refl, sig_reads more s (LoneForm f) (whole.Reference (record { form = f; sig = Some sig })) refl)

names_read : {ws us : List RawWord} {i o : List Marked} → AreWords ws i o us
    → (s : Bool) (raw : VariablesFor) (vs : List RawVar) (z : Whole) → AcceptsFrom s (AfterVariable raw vs us) o z
    → AcceptsFrom s (AfterVariable raw vs ws) i z
names_read no_word s raw vs z r = r
names_read (another_word a_word more) s raw vs z r = (_, refl, (_, refl, names_read more s raw vs z r))

pub group_reads : {i o : List Marked} {gs : List RawVar} → IsGroup i o gs
    → (s : Bool) (raw : VariablesFor) (vs : List RawVar) (z : Whole) → AcceptsFrom s (AfterGroup raw (vs ++ gs)) o z
    → AcceptsFrom s (NeedVariable raw vs) i z
group_reads (group a_word more a_word) s raw vs z r = (_, refl, names_read more s raw vs z (_, refl, (_, refl, r)))

pub groups_read : {vs us : List RawVar} {i o : List Marked} → AreGroups vs i o us
    → (s : Bool) (raw : VariablesFor) (z : Whole) → AcceptsFrom s (AfterGroup raw us) o z
    → AcceptsFrom s (AfterGroup raw vs) i z
groups_read no_group s raw z r = r
groups_read (another_group {vs = vs} g more) s raw z r =
    (_, refl, group_reads g s raw vs z (groups_read more s raw z r))
