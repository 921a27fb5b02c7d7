-- The grammar of shorthands and of references to traits, as relations between the tokens that are left before and
-- behind.
use Rattle.std.specs.Prelude.{Bool, true, false, not, IsTrue, List, [], ◌∷◌, ◌++◌, map}
use Rattle.larch_base.specs.declared.position.Pos.{Pos}
use Rattle.larch_grammar_law.specs.declared.mark.Mark.TheVariants.{Outside}
use Rattle.larch_raw.specs.declared.declared.RawForm.{RawForm}
use Rattle.larch_raw.specs.declared.declared.RawOpRef.{RawOpRef}
use Rattle.larch_raw.specs.declared.declared.RawWord.{RawWord}
use Rattle.larch_raw.specs.declared.equation.RawTrait.{RawTrait}
use Rattle.larch_raw.specs.declared.reference.RawActual.{RawActual}
use Rattle.larch_raw.specs.declared.reference.RawActual.TheVariants as actual
use Rattle.larch_raw.specs.declared.reference.RawRef.{RawRef}
use Rattle.larch_raw.specs.declared.shorthand.RawField.{RawField}
use Rattle.larch_raw.specs.declared.shorthand.RawShorthand.{RawShorthand}
use Rattle.larch_raw.specs.declared.shorthand.RawShorthand.TheVariants as shorthand
use Rattle.larch_grammar.specs.declared.machine.FieldsKind.{FieldsKind}
use Rattle.larch_grammar.specs.declared.machine.FieldsKind.TheVariants as fields_kind
use Rattle.larch_grammar.specs.declared.machine.OpenFields.{OpenFields}
use Rattle.larch_grammar.specs.declared.machine.OpenRef.{OpenRef}
use Rattle.larch_grammar.specs.declared.machine.RefKind.{RefKind}
use Rattle.larch_grammar.specs.declared.machine.RefKind.TheVariants.{Included, Assumed, First, Further}
use Rattle.larch_grammar.specs.declared.terminal.Terminal.{Terminal}
use Rattle.larch_grammar.specs.declared.terminal.Terminal.TheVariants.{Colon, Comma, Open, Close, Includes, Assumes}
use Rattle.larch_grammar.specs.declared.terminal.Terminal.TheVariants.{For, Enumeration, Tuple, Union, Of}
use Rattle.larch_grammar.specs.Form.{Marked, IsWord, AreWords, IsForm, AreForms, IsOpRef}

-- shorthands

-- the trait with a shorthand more
abbrev pub with_shorthand : RawTrait → RawShorthand → RawTrait
with_shorthand raw h = record raw { shorthands = raw.shorthands ++ h ∷ [] }

-- a tuple or a union of these fields
abbrev pub shorthand_of : FieldsKind → RawWord → List RawField → RawShorthand
shorthand_of fields_kind.Tuple sort fields = shorthand.Tuple sort fields
shorthand_of fields_kind.Union sort fields = shorthand.Union sort fields

-- the fields of these names at a sort
abbrev pub fields_at : List RawWord → RawWord → List RawField
fields_at names sort = map (λ name. record { name = name; sort = sort }) names

-- a tuple or a union that is open: the trait before it, its kind, its sort and its fields
abbrev pub open_fields : RawTrait → FieldsKind → RawWord → List RawField → OpenFields
open_fields raw kind sort fields = record { raw = raw; kind = kind; sort = sort; fields = fields }

-- the same with these fields more
abbrev pub with_fields : OpenFields → List RawField → OpenFields
with_fields o fields = record o { fields = o.fields ++ fields }

-- the trait with it as a shorthand more
abbrev pub close_fields : OpenFields → RawTrait
close_fields o = with_shorthand o.raw (shorthand_of o.kind o.sort o.fields)

-- Field = Word { "," Word } ":" Word
pub data IsField : List Marked → List Marked → List RawField → Type 0 where
  fields_of_sort : {i j k o : List Marked} {w sort : RawWord} {ws : List RawWord} {p : Pos} → IsWord i j w
      → AreWords (w ∷ []) j ((Colon p, Outside) ∷ k) ws → IsWord k o sort → IsField i o (fields_at ws sort)

-- { "," Field }, where the fields before are these
pub data AreFields : List RawField → List Marked → List Marked → List RawField → Type 0 where
  no_field : {fs : List RawField} {o : List Marked} → AreFields fs o o fs
  another_field : {fs gs hs : List RawField} {i j o : List Marked} → IsField i j gs → AreFields (fs ++ gs) j o hs
      → AreFields fs ((Comma, Outside) ∷ i) o hs

-- Short = Word "enumeration" "of" Word { "," Word } | Word ( "tuple" | "union" ) "of" Field { "," Field }
pub data IsShort : List Marked → List Marked → RawShorthand → Type 0 where
  an_enumeration : {i j k o : List Marked} {sort w : RawWord} {ws : List RawWord}
      → IsWord i ((Enumeration, Outside) ∷ (Of, Outside) ∷ j) sort → IsWord j k w → AreWords (w ∷ []) k o ws
      → IsShort i o (shorthand.Enumeration sort ws)
  a_tuple : {i j k o : List Marked} {sort : RawWord} {gs fs : List RawField}
      → IsWord i ((Tuple, Outside) ∷ (Of, Outside) ∷ j) sort → IsField j k gs → AreFields gs k o fs
      → IsShort i o (shorthand.Tuple sort fs)
  a_union : {i j k o : List Marked} {sort : RawWord} {gs fs : List RawField}
      → IsWord i ((Union, Outside) ∷ (Of, Outside) ∷ j) sort → IsField j k gs → AreFields gs k o fs
      → IsShort i o (shorthand.Union sort fs)

-- formals, references and actuals

-- it is `(`
abbrev pub is_open : Terminal → Bool
is_open (Open p) = true
is_open _ = false

-- [ "(" Form { "," Form } ")" ]
pub data HasFormals : List Marked → List Marked → List RawForm → Type 0 where
  no_formal : {o : List Marked} → HasFormals o o []
  formals : {i j o : List Marked} {p : Pos} {f : RawForm} {fs : List RawForm} → IsForm i j f
      → AreForms (f ∷ []) j ((Close, Outside) ∷ o) fs → HasFormals ((Open p, Outside) ∷ i) o fs

-- the trait with a reference more, which is included, assumed or implied
abbrev pub with_ref : RawTrait → RefKind → RawRef → RawTrait
with_ref raw Included target =
    record raw { references = raw.references ++ record { assumed = false; target = target } ∷ [] }
with_ref raw Assumed target =
    record raw { references = raw.references ++ record { assumed = true; target = target } ∷ [] }
with_ref raw First target = record raw { implied = raw.implied ++ target ∷ [] }
with_ref raw Further target = record raw { implied = raw.implied ++ target ∷ [] }

-- what the reference behind a `,` is for
abbrev pub next_kind : RefKind → RefKind
next_kind Included = Included
next_kind Assumed = Assumed
next_kind First = Further
next_kind Further = Further

-- a reference that is open: the trait before it, what it is for, the name of the trait and the actuals
abbrev pub open_ref : RawTrait → RefKind → RawWord → List RawActual → OpenRef
open_ref raw kind name actuals = record { raw = raw; kind = kind; name = name; actuals = actuals }

-- the same with an actual more
abbrev pub with_actual : OpenRef → RawActual → OpenRef
with_actual o a = record o { actuals = o.actuals ++ a ∷ [] }

-- the trait with it as a reference more
abbrev pub close_ref : OpenRef → RawTrait
close_ref o = with_ref o.raw o.kind (record { name = o.name; actuals = o.actuals })

-- this form in place of the operators of a reference
abbrev pub replacement : RawForm → RawOpRef → RawActual
replacement f r = actual.Replace f r.form r.sig

mutual
  -- Actual { "," Actual } ")", where the actuals before are these; Actual = Form [ "for" Form [ ":" Sig ] ]; with
  -- `true`
  -- a replacement stands before, and only replacements follow
  pub data AreActuals : Bool → List RawActual → List Marked → List Marked → List RawActual → Type 0 where
    in_place : {ps qs : List RawActual} {f : RawForm} {i j o : List Marked} → IsForm i j f
        → EndActuals false (ps ++ actual.Plain f ∷ []) j o qs → AreActuals false ps i o qs
    replaces : {b : Bool} {ps qs : List RawActual} {f : RawForm} {r : RawOpRef} {i j k o : List Marked}
        → IsForm i ((For, Outside) ∷ j) f → IsOpRef j k r → EndActuals true (ps ++ replacement f r ∷ []) k o qs
        → AreActuals b ps i o qs

  -- { "," Actual } ")", where the actuals before are these
  pub data EndActuals : Bool → List RawActual → List Marked → List Marked → List RawActual → Type 0 where
    no_actual : {b : Bool} {ps : List RawActual} {o : List Marked} → EndActuals b ps ((Close, Outside) ∷ o) o ps
    another_actual : {b : Bool} {ps qs : List RawActual} {i o : List Marked} → AreActuals b ps i o qs
        → EndActuals b ps ((Comma, Outside) ∷ i) o qs

-- no `(` stands here
abbrev pub NoOpen : List Marked → Type 0
NoOpen [] = Unit {0}
NoOpen (t ∷ i) = IsTrue (not (is_open t.0))

-- [ "(" Actual { "," Actual } ")" ]: a `(` directly behind the name always opens actuals
pub data HasActuals : List Marked → List Marked → List RawActual → Type 0 where
  bare : {o : List Marked} → NoOpen o → HasActuals o o []
  actuals : {i o : List Marked} {p : Pos} {ps : List RawActual} → AreActuals false [] i o ps
      → HasActuals ((Open p, Outside) ∷ i) o ps

-- Ref = Word [ "(" Actual { "," Actual } ")" ]
pub data IsRef : List Marked → List Marked → RawRef → Type 0 where
  a_ref : {i j o : List Marked} {w : RawWord} {ps : List RawActual} → IsWord i j w → HasActuals j o ps
      → IsRef i o (record { name = w; actuals = ps })

-- { "," Ref }, from the trait so far to the trait with these references, which are included, assumed or implied
pub data AreRefs : RefKind → RawTrait → List Marked → List Marked → RawTrait → Type 0 where
  no_ref : {b : RefKind} {r : RawTrait} {o : List Marked} → AreRefs b r o o r
  another_ref : {b : RefKind} {r z : RawTrait} {q : RawRef} {i j o : List Marked} → IsRef i j q
      → AreRefs (next_kind b) (with_ref r (next_kind b) q) j o z → AreRefs b r ((Comma, Outside) ∷ i) o z

-- "includes" | "assumes": what the traits are referred to for
pub data IsRefsWord : Terminal → RefKind → Type 0 where
  includes : IsRefsWord Includes Included
  assumes : IsRefsWord Assumes Assumed
