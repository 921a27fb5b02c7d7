-- What the grammar of formals, shorthands and references allows the machine reads, from behind.
use Rattle.std.proofs.Common.{◌≡◌, Bool, true, false, cond, IsTrue, Some, None, List, [], ◌∷◌, ◌++◌, refl, sym, ap}
use Rattle.std.proofs.Common.{subst, ◌∙◌}
use Rattle.larch_grammar_law.specs.declared.mark.Mark.TheVariants.{Outside}
use Rattle.larch_grammar_law.proofs.Walking.{none_some}
use Rattle.larch_raw.specs.declared.declared.RawForm.{RawForm}
use Rattle.larch_raw.specs.declared.declared.RawOpRef.{RawOpRef}
use Rattle.larch_raw.specs.declared.declared.RawWord.{RawWord}
use Rattle.larch_raw.specs.declared.equation.RawTrait.{RawTrait}
use Rattle.larch_raw.specs.declared.reference.RawActual.{RawActual}
use Rattle.larch_raw.specs.declared.reference.RawActual.TheVariants as actual
use Rattle.larch_raw.specs.declared.reference.RawRef.{RawRef}
use Rattle.larch_raw.specs.declared.shorthand.RawField.{RawField}
use Rattle.larch_raw.specs.declared.shorthand.RawShorthand.{RawShorthand}
use Rattle.larch_raw.specs.declared.shorthand.RawShorthand.TheVariants as shorthand
use Rattle.larch_grammar.specs.Composition.{fields_at, with_fields, open_fields, close_fields, shorthand_of}
use Rattle.larch_grammar.specs.Composition.{with_shorthand, IsField, fields_of_sort, AreFields, no_field, another_field}
use Rattle.larch_grammar.specs.Composition.{IsShort, an_enumeration, a_tuple, a_union, HasFormals, no_formal, formals}
use Rattle.larch_grammar.specs.Composition.{open_ref, with_actual, close_ref, with_ref, replacement, AreActuals}
use Rattle.larch_grammar.specs.Composition.{in_place, replaces, EndActuals, no_actual, another_actual, HasActuals}
use Rattle.larch_grammar.specs.Composition.{NoOpen, bare, actuals, IsRef, a_ref, AreRefs, next_kind, no_ref}
use Rattle.larch_grammar.specs.Composition.{another_ref}
use Rattle.larch_grammar.specs.Form.{Marked, a_word, AreWords, no_word, another_word, AreForms, no_form, another_form}
use Rattle.larch_grammar.specs.Form.{IsOpRef, by_form, by_signature}
use Rattle.larch_grammar.specs.Machine.{Taking, after_actual, after_form, after_rename, outside}
use Rattle.larch_grammar.specs.declared.machine.FieldsKind.{FieldsKind}
use Rattle.larch_grammar.specs.declared.machine.FieldsKind.TheVariants as fields_kind
use Rattle.larch_grammar.specs.declared.machine.Naming.{Naming}
use Rattle.larch_grammar.specs.declared.machine.Naming.TheVariants.{Formal, Actual, Renaming, Renamed}
use Rattle.larch_grammar.specs.declared.machine.OpenFields.{OpenFields}
use Rattle.larch_grammar.specs.declared.machine.OpenRef.{OpenRef}
use Rattle.larch_grammar.specs.declared.machine.RefKind.{RefKind}
use Rattle.larch_grammar.specs.declared.machine.RefKind.TheVariants.{Included, Assumed, First, Further}
use Rattle.larch_grammar.specs.declared.machine.Signing.TheVariants.{Replacement}
use Rattle.larch_grammar.specs.declared.machine.State.TheVariants.{InItems, AfterName, AfterFormals, AfterHead}
use Rattle.larch_grammar.specs.declared.machine.State.TheVariants.{AfterConstant, NeedName, AfterNames, AfterField}
use Rattle.larch_grammar.specs.declared.machine.State.TheVariants.{NeedRef, AfterRefName, AfterTraitRef, AfterRename}
use Rattle.larch_grammar.specs.declared.machine.State.TheVariants.{NeedForm, AfterForm}
use Rattle.larch_grammar.specs.declared.machine.Whole.{Whole}
use Rattle.larch_grammar.specs.Terminal.{ends_reference}
use Rattle.larch_grammar.specs.Traits.{ends_references}
use Rattle.larch_grammar.specs.declared.terminal.Terminal.{Terminal}
use Rattle.larch_grammar.specs.declared.terminal.Terminal.TheVariants.{Colon, Comma, Open, Close, For}
use Rattle.larch_grammar.proofs.CompleteForms.{AcceptsBy, AcceptsFrom, form_reads, sig_reads}

-- formals

-- the step behind these formals
abbrev behind_formals : RawWord → List RawForm → Terminal → Taking
behind_formals name fs Comma = outside (NeedForm (Formal name fs))
behind_formals name fs Close = outside (AfterFormals name fs)
behind_formals name fs _ = None

last_formal : (s : Bool) (o : List Marked) (name : RawWord) (fs : List RawForm) (f : RawForm) (z : Whole)
    → AcceptsBy s (behind_formals name (fs ++ f ∷ [])) None o z → AcceptsFrom s (AfterForm (Formal name fs) f) o z
last_formal s [] name fs f z r = r
last_formal s ((Comma, m) ∷ o) name fs f z r = r
last_formal s ((Close, m) ∷ o) name fs f z r = r
last_formal s ((t, m) ∷ o) name fs f z r = r

formals_read : {fs gs : List RawForm} {i o : List Marked} → AreForms fs i o gs → (s : Bool) (name : RawWord) (z : Whole)
    → AcceptsBy s (behind_formals name gs) None o z → AcceptsBy s (behind_formals name fs) None i z
formals_read no_form s name z r = r
formals_read (another_form {fs = fs} {f = f} {j = j} form more) s name z r =
    (_, refl, form_reads form s (Formal name fs) z (last_formal s j name fs f z (formals_read more s name z r)))

without_formals : (s : Bool) (o : List Marked) (name : RawWord) (z : Whole) → AcceptsFrom s (AfterFormals name []) o z
    → AcceptsFrom s (AfterName name) o z
without_formals s [] name z r = r
without_formals s ((Colon p, m) ∷ o) name z r = r
without_formals s ((Open p, m) ∷ o) name z r = absurd (none_some r.1)
without_formals s ((t, m) ∷ o) name z r = r

-- the formals of a trait
pub head_formals_read : {i o : List Marked} {fs : List RawForm} → HasFormals i o fs
    → (s : Bool) (name : RawWord) (z : Whole) → AcceptsFrom s (AfterFormals name fs) o z
    → AcceptsFrom s (AfterName name) i z
head_formals_read (no_formal {o = o}) s name z r = without_formals s o name z r
head_formals_read (formals {j = j} {f = f} form more) s name z r = (
  _,
  refl,
  form_reads form s (Formal name []) z
      (last_formal s j name [] f z (formals_read more s name z (_, refl, r))),
)

-- shorthands

constants_read : {ws us : List RawWord} {i o : List Marked} → AreWords ws i o us
    → (s : Bool) (raw : RawTrait) (sort : RawWord) (z : Whole) → AcceptsFrom s (AfterConstant raw sort us) o z
    → AcceptsFrom s (AfterConstant raw sort ws) i z
constants_read no_word s raw sort z r = r
constants_read (another_word a_word more) s raw sort z r = (_, refl, (_, refl, constants_read more s raw sort z r))

constants_end : (s : Bool) (o : List Marked) (raw : RawTrait) (sort : RawWord) (ws : List RawWord) (z : Whole)
    → AcceptsFrom s (AfterHead (with_shorthand raw (shorthand.Enumeration sort ws))) o z
    → AcceptsFrom s (AfterConstant raw sort ws) o z
constants_end s [] raw sort ws z r = r
constants_end s ((Comma, m) ∷ o) raw sort ws z r = absurd (none_some r.1)
constants_end s ((t, m) ∷ o) raw sort ws z r = r

field_names_read : {ws us : List RawWord} {i o : List Marked} → AreWords ws i o us
    → (s : Bool) (n : OpenFields) (z : Whole) → AcceptsFrom s (AfterNames n us) o z
    → AcceptsFrom s (AfterNames n ws) i z
field_names_read no_word s n z r = r
field_names_read (another_word a_word more) s n z r = (_, refl, (_, refl, field_names_read more s n z r))

field_reads : {i o : List Marked} {gs : List RawField} → IsField i o gs → (s : Bool) (n : OpenFields) (z : Whole)
    → AcceptsFrom s (AfterField (with_fields n gs)) o z → AcceptsFrom s (NeedName n) i z
field_reads (fields_of_sort a_word more a_word) s n z r = (_, refl, field_names_read more s n z (_, refl, (_, refl, r)))

fields_read : {fs gs : List RawField} {i o : List Marked} → AreFields fs i o gs
    → (s : Bool) (raw : RawTrait) (kind : FieldsKind) (sort : RawWord) (z : Whole)
    → AcceptsFrom s (AfterField (open_fields raw kind sort gs)) o z
    → AcceptsFrom s (AfterField (open_fields raw kind sort fs)) i z
fields_read no_field s raw kind sort z r = r
fields_read (another_field {fs = fs} g more) s raw kind sort z r =
    (_, refl, field_reads g s (open_fields raw kind sort fs) z (fields_read more s raw kind sort z r))

fields_end : (s : Bool) (o : List Marked) (n : OpenFields) (z : Whole) → AcceptsFrom s (AfterHead (close_fields n)) o z
    → AcceptsFrom s (AfterField n) o z
fields_end s [] n z r = r
fields_end s ((Comma, m) ∷ o) n z r = absurd (none_some r.1)
fields_end s ((t, m) ∷ o) n z r = r

all_fields_read : {i j o : List Marked} {gs fs : List RawField} → IsField i j gs → AreFields gs j o fs
    → (s : Bool) (raw : RawTrait) (kind : FieldsKind) (sort : RawWord) (z : Whole)
    → AcceptsFrom s (AfterHead (with_shorthand raw (shorthand_of kind sort fs))) o z
    → AcceptsFrom s (NeedName (open_fields raw kind sort [])) i z
all_fields_read {o = o} {fs = fs} q more s raw kind sort z r =
    field_reads q s (open_fields raw kind sort []) z
    (fields_read more s raw kind sort z (fields_end s o (open_fields raw kind sort fs) z r))

-- a shorthand
pub short_reads : {i o : List Marked} {h : RawShorthand} → IsShort i o h → (s : Bool) (raw : RawTrait) (z : Whole)
    → AcceptsFrom s (AfterHead (with_shorthand raw h)) o z → AcceptsFrom s (AfterHead raw) i z
short_reads (an_enumeration {o = o} {sort = sort} {ws = ws} a_word a_word more) s raw z r =
    (_, refl, (_, refl, (_, refl, (_, refl, constants_read more s raw sort z (constants_end s o raw sort ws z r)))))
short_reads (a_tuple {sort = sort} a_word q more) s raw z r =
    (_, refl, (_, refl, (_, refl, all_fields_read q more s raw fields_kind.Tuple sort z r)))
short_reads (a_union {sort = sort} a_word q more) s raw z r =
    (_, refl, (_, refl, (_, refl, all_fields_read q more s raw fields_kind.Union sort z r)))

-- references

rename_alone : (s : Bool) (o : List Marked) (n : OpenRef) (f g : RawForm) (z : Whole)
    → AcceptsFrom s (AfterRename (with_actual n (actual.Replace f g None))) o z
    → AcceptsFrom s (AfterForm (Renamed n f) g) o z
rename_alone s [] n f g z r = r
rename_alone s ((Colon p, m) ∷ o) n f g z r = absurd (none_some r.1)
rename_alone s ((t, m) ∷ o) n f g z r = r

-- what is replaced
old_reads : {i o : List Marked} {q : RawOpRef} → IsOpRef i o q → (s : Bool) (n : OpenRef) (f : RawForm) (z : Whole)
    → AcceptsFrom s (AfterRename (with_actual n (replacement f q))) o z → AcceptsFrom s (NeedForm (Renamed n f)) i z
old_reads (by_form {o = o} {f = g} form) s n f z r = form_reads form s (Renamed n f) z (rename_alone s o n f g z r)
old_reads (by_signature {f = g} form sig) s n f z r =
    form_reads form s (Renamed n f) z (_, refl, sig_reads sig s (Replacement n f g) z r)

-- what an actual is read for
abbrev naming_of : Bool → OpenRef → Naming
naming_of false n = Actual n
naming_of true n = Renaming n

-- the step behind an actual
abbrev behind_actual : Bool → OpenRef → Terminal → Taking
behind_actual false n t = after_actual n t
behind_actual true n t = after_rename n t

last_plain : (s : Bool) (o : List Marked) (n : OpenRef) (f : RawForm) (z : Whole)
    → AcceptsBy s (after_actual (with_actual n (actual.Plain f))) None o z → AcceptsFrom s (AfterForm (Actual n) f) o z
last_plain s [] n f z r = r
last_plain s ((For, m) ∷ o) n f z r = absurd (none_some r.1)
last_plain s ((t, m) ∷ o) n f z r = r

last_rename : (s : Bool) (o : List Marked) (n : OpenRef) (z : Whole) → AcceptsBy s (after_rename n) None o z
    → AcceptsFrom s (AfterRename n) o z
last_rename s [] n z r = r
last_rename s ((t, m) ∷ o) n z r = r

for_step : (b : Bool) (n : OpenRef) (f : RawForm) → after_form (naming_of b n) f For ≡ outside (NeedForm (Renamed n f))
for_step false n f = refl
for_step true n f = refl

comma_step : (b : Bool) (n : OpenRef) → behind_actual b n Comma ≡ outside (NeedForm (naming_of b n))
comma_step false n = refl
comma_step true n = refl

close_step : (b : Bool) (n : OpenRef) → behind_actual b n Close ≡ outside (AfterTraitRef (close_ref n) n.kind)
close_step false n = refl
close_step true n = refl

mutual
  actuals_read : {b : Bool} {ps qs : List RawActual} {i o : List Marked} → AreActuals b ps i o qs
      → (s : Bool) (raw : RawTrait) (assumed : RefKind) (name : RawWord) (z : Whole)
      → AcceptsFrom s (AfterTraitRef (close_ref (open_ref raw assumed name qs)) assumed) o z
      → AcceptsFrom s (NeedForm (naming_of b (open_ref raw assumed name ps))) i z
  actuals_read (in_place {ps = ps} {f = f} {j = j} form ends) s raw assumed name z r =
      form_reads form s (Actual (open_ref raw assumed name ps)) z
      (last_plain s j (open_ref raw assumed name ps) f z (actuals_end ends s raw assumed name z r))
  actuals_read (replaces {b = b} {ps = ps} {f = f} {r = q} {k = k} form old ends) s raw assumed name z r =
      form_reads form s (naming_of b (open_ref raw assumed name ps)) z (
        _,
        for_step b (open_ref raw assumed name ps) f,
        old_reads old s (open_ref raw assumed name ps) f z
            (last_rename s k (with_actual (open_ref raw assumed name ps) (replacement f q)) z
            (actuals_end ends s raw assumed name z r)),
      )

  actuals_end : {b : Bool} {ps qs : List RawActual} {i o : List Marked} → EndActuals b ps i o qs
      → (s : Bool) (raw : RawTrait) (assumed : RefKind) (name : RawWord) (z : Whole)
      → AcceptsFrom s (AfterTraitRef (close_ref (open_ref raw assumed name qs)) assumed) o z
      → AcceptsBy s (behind_actual b (open_ref raw assumed name ps)) None i z
  actuals_end (no_actual {b = b} {ps = ps}) s raw assumed name z r = (_, close_step b (open_ref raw assumed name ps), r)
  actuals_end (another_actual {b = b} {ps = ps} more) s raw assumed name z r =
      (_, comma_step b (open_ref raw assumed name ps), actuals_read more s raw assumed name z r)

not_open : false ≡ true → ⊥
not_open e = cc

bare_ref : (s : Bool) (o : List Marked) (raw : RawTrait) (b : RefKind) (w : RawWord) (z : Whole) → NoOpen o
    → AcceptsFrom s (AfterTraitRef (close_ref (open_ref raw b w [])) b) o z → AcceptsFrom s (AfterRefName raw b w) o z
bare_ref s [] raw b w z n r = r
bare_ref s ((Open p, m) ∷ o) raw b w z n r = absurd (not_open n)
bare_ref s ((t, m) ∷ o) raw b w z n r = r

has_actuals_read : {i o : List Marked} {ps : List RawActual} → HasActuals i o ps
    → (s : Bool) (raw : RawTrait) (b : RefKind) (w : RawWord) (z : Whole)
    → AcceptsFrom s (AfterTraitRef (close_ref (open_ref raw b w ps)) b) o z → AcceptsFrom s (AfterRefName raw b w) i z
has_actuals_read (bare {o = o} n) s raw b w z r = bare_ref s o raw b w z n r
has_actuals_read (actuals more) s raw b w z r = (_, refl, actuals_read more s raw b w z r)

-- a reference
pub ref_reads : {i o : List Marked} {q : RawRef} → IsRef i o q → (s : Bool) (raw : RawTrait) (b : RefKind) (z : Whole)
    → AcceptsFrom s (AfterTraitRef (with_ref raw b q) b) o z → AcceptsFrom s (NeedRef raw b) i z
ref_reads (a_ref {w = w} a_word more) s raw b z r = (_, refl, has_actuals_read more s raw b w z r)

-- the references behind it, where a further one is for the same
pub further_read : {b : RefKind} {r t : RawTrait} {i o : List Marked} → AreRefs b r i o t → (s : Bool) (z : Whole)
    → next_kind b ≡ b → AcceptsFrom s (AfterTraitRef t b) o z → AcceptsFrom s (AfterTraitRef r b) i z
further_read no_ref s z e h = h
further_read (another_ref {b = b} {r = r} {z = t} {o = o} q more) s z e h = (
  _,
  refl,
  ref_reads q s r (next_kind b) z
      (further_read more s z (ap next_kind e) (subst (λ k. AcceptsFrom s (AfterTraitRef t k) o z) (sym e) h)),
)

-- what follows references
pub includes_end : (s : Bool) (o : List Marked) (raw : RawTrait) (z : Whole) → AcceptsFrom s (AfterHead raw) o z
    → AcceptsFrom s (AfterTraitRef raw Included) o z
includes_end s [] raw z r = r
includes_end s ((Comma, m) ∷ o) raw z r = absurd (none_some r.1)
includes_end s ((t, m) ∷ o) raw z r = r

pub assumes_end : (s : Bool) (o : List Marked) (raw : RawTrait) (z : Whole) → AcceptsFrom s (AfterHead raw) o z
    → AcceptsFrom s (AfterTraitRef raw Assumed) o z
assumes_end s [] raw z r = r
assumes_end s ((Comma, m) ∷ o) raw z r = absurd (none_some r.1)
assumes_end s ((t, m) ∷ o) raw z r = r

further_end : (s : Bool) (o : List Marked) (raw : RawTrait) (z : Whole) → AcceptsFrom s (InItems raw) o z
    → AcceptsFrom s (AfterTraitRef raw Further) o z
further_end s [] raw z r = r
further_end s ((Comma, m) ∷ o) raw z r = absurd (none_some r.1)
further_end s ((t, m) ∷ o) raw z r = r

-- where this holds, the one or the other
where_true : {A : Type 0} (b : Bool) (x y z : A) → IsTrue b → x ≡ z → cond b x y ≡ z
where_true true x y z h e = e
where_true false x y z h e = let n : ⊥ = cc in absurd n

first_end : (s : Bool) (o : List Marked) (raw : RawTrait) (z : Whole) → IsTrue (ends_references o)
    → AcceptsFrom s (InItems raw) o z → AcceptsFrom s (AfterTraitRef raw First) o z
first_end s [] raw z e r = r
first_end s ((Comma, m) ∷ o) raw z e r = absurd (none_some r.1)
first_end s ((t, m) ∷ o) raw z e r = (r.0, where_true (ends_reference t) _ None _ e r.1, r.2)

-- the references of an implied part behind the first one, and what follows them
pub first_read : {r t : RawTrait} {i o : List Marked} → AreRefs First r i o t → (s : Bool) (z : Whole)
    → IsTrue (ends_references i) → AcceptsFrom s (InItems t) o z → AcceptsFrom s (AfterTraitRef r First) i z
first_read (no_ref {r = r} {o = o}) s z e h = first_end s o r z e h
first_read (another_ref {r = r} {z = t} {o = o} q more) s z e h =
    (_, refl, ref_reads q s r Further z (further_read more s z refl (further_end s o t z h)))
