-- The grammar of words, forms, signatures and variables, as relations between the tokens that are left before and
-- behind. Each token stands beside its mark, which says what is counted at it; here nothing is.
use Rattle.std.specs.Prelude.{ℕ, suc, true, false, List, [], ◌∷◌, ◌++◌, map, Some, None}
use Rattle.larch_base.specs.declared.position.Pos.{Pos}
use Rattle.larch_grammar_law.specs.declared.mark.Mark.{Mark}
use Rattle.larch_grammar_law.specs.declared.mark.Mark.TheVariants.{Outside}
use Rattle.larch_raw.specs.declared.declared.RawForm.{RawForm}
use Rattle.larch_raw.specs.declared.declared.RawOpRef.{RawOpRef}
use Rattle.larch_raw.specs.declared.declared.RawSig.{RawSig}
use Rattle.larch_raw.specs.declared.declared.RawWord.{RawWord}
use Rattle.larch_raw.specs.declared.equation.RawVar.{RawVar}
use Rattle.larch_grammar.specs.declared.terminal.Bracket.{Bracket}
use Rattle.larch_grammar.specs.declared.terminal.Terminal.{Terminal}
use Rattle.larch_grammar.specs.declared.terminal.Terminal.TheVariants.{Word, Symbol, Arrow, Colon, Comma, Dot, Marker}
use Rattle.larch_grammar.specs.declared.terminal.Terminal.TheVariants.{OpenBracket, CloseBracket}
use Rattle.larch_grammar.specs.Trees.{infix_name, prefix_name, postfix_name, field_name, plain_form, mixfix}
use Rattle.larch_grammar.specs.Trees.{bracket_form}

-- a token beside its mark
abbrev pub Marked : Type 0
Marked = Terminal × Mark

-- a token without its mark
abbrev pub without_mark : Marked → Terminal
without_mark m = m.0

-- a token outside all equations
abbrev pub out : Terminal → Marked
out t = (t, Outside)

-- a word that isn't reserved
pub data IsWord : List Marked → List Marked → RawWord → Type 0 where
  a_word : {w : RawWord} {o : List Marked} → IsWord ((Word w, Outside) ∷ o) o w

-- { "," Word }, where the words before are these
pub data AreWords : List RawWord → List Marked → List Marked → List RawWord → Type 0 where
  no_word : {ws : List RawWord} {o : List Marked} → AreWords ws o o ws
  another_word : {ws vs : List RawWord} {w : RawWord} {i j o : List Marked} → IsWord i j w
      → AreWords (ws ++ w ∷ []) j o vs → AreWords ws ((Comma, Outside) ∷ i) o vs

-- { "," "__" } and the end of the bracket, where there are so many markers before
pub data AreMarkers : Bracket → ℕ → List Marked → List Marked → ℕ → Type 0 where
  no_marker : {b : Bracket} {n : ℕ} {o : List Marked} → AreMarkers b n ((CloseBracket b, Outside) ∷ o) o n
  another_marker : {b : Bracket} {n m : ℕ} {p : Pos} {i o : List Marked} → AreMarkers b (suc n) i o m
      → AreMarkers b n ((Comma, Outside) ∷ (Marker p, Outside) ∷ i) o m

-- [ "__" { "," "__" } ] and the end of the bracket: so many markers
pub data Markers : Bracket → List Marked → List Marked → ℕ → Type 0 where
  empty : {b : Bracket} {o : List Marked} → Markers b ((CloseBracket b, Outside) ∷ o) o 0
  marked : {b : Bracket} {n : ℕ} {p : Pos} {i o : List Marked} → AreMarkers b 1 i o n
      → Markers b ((Marker p, Outside) ∷ i) o n

-- Form = Word | Sym | "." Word | "__" "." Word | Sym "__" | "__" Sym [ "__" ] | [ "__" ] "[" Marks "]" | the same with
-- "{" and "}"
pub data IsForm : List Marked → List Marked → RawForm → Type 0 where
  bare_word : {i o : List Marked} {w : RawWord} → IsWord i o w → IsForm i o (plain_form w)
  bare_symbol : {o : List Marked} {x : RawWord}
      → IsForm ((Symbol x, Outside) ∷ o) o (mixfix (infix_name x.name) 2 x.pos)
  bare_field : {i o : List Marked} {w : RawWord} {p : Pos} → IsWord i o w
      → IsForm ((Dot p, Outside) ∷ i) o (mixfix (field_name w.name) 1 p)
  field_form : {i o : List Marked} {w : RawWord} {p q : Pos} → IsWord i o w
      → IsForm ((Marker p, Outside) ∷ (Dot q, Outside) ∷ i) o (mixfix (field_name w.name) 1 p)
  prefix_form : {o : List Marked} {x : RawWord} {p : Pos}
      → IsForm ((Symbol x, Outside) ∷ (Marker p, Outside) ∷ o) o (mixfix (prefix_name x.name) 1 x.pos)
  postfix_form : {o : List Marked} {x : RawWord} {p : Pos}
      → IsForm ((Marker p, Outside) ∷ (Symbol x, Outside) ∷ o) o (mixfix (postfix_name x.name) 1 p)
  infix_form : {o : List Marked} {x : RawWord} {p q : Pos}
      → IsForm ((Marker p, Outside) ∷ (Symbol x, Outside) ∷ (Marker q, Outside) ∷ o) o (mixfix (infix_name x.name) 2 p)
  bracketed_form : {i o : List Marked} {b : Bracket} {n : ℕ} {p : Pos} → Markers b i o n
      → IsForm ((OpenBracket b p, Outside) ∷ i) o (bracket_form false b n p)
  bracket_behind : {i o : List Marked} {b : Bracket} {n : ℕ} {p q : Pos} → Markers b i o n
      → IsForm ((Marker p, Outside) ∷ (OpenBracket b q, Outside) ∷ i) o (bracket_form true b n p)

-- { "," Form }, where the forms before are these
pub data AreForms : List RawForm → List Marked → List Marked → List RawForm → Type 0 where
  no_form : {fs : List RawForm} {o : List Marked} → AreForms fs o o fs
  another_form : {fs gs : List RawForm} {f : RawForm} {i j o : List Marked} → IsForm i j f
      → AreForms (fs ++ f ∷ []) j o gs → AreForms fs ((Comma, Outside) ∷ i) o gs

-- [ Word { "," Word } ]
pub data IsDomain : List Marked → List Marked → List RawWord → Type 0 where
  no_sort : {o : List Marked} → IsDomain o o []
  sorts : {i j o : List Marked} {w : RawWord} {ws : List RawWord} → IsWord i j w → AreWords (w ∷ []) j o ws
      → IsDomain i o ws

-- Sig = [ Word { "," Word } ] "->" Word
pub data IsSig : List Marked → List Marked → RawSig → Type 0 where
  signature : {i j o : List Marked} {ws : List RawWord} {w : RawWord} → IsDomain i ((Arrow, Outside) ∷ j) ws
      → IsWord j o w → IsSig i o (record { domain = ws; range = w })

-- OpRef = Form [ ":" Sig ]
pub data IsOpRef : List Marked → List Marked → RawOpRef → Type 0 where
  by_form : {i o : List Marked} {f : RawForm} → IsForm i o f → IsOpRef i o (record { form = f; sig = None })
  by_signature : {i j o : List Marked} {f : RawForm} {p : Pos} {s : RawSig} → IsForm i ((Colon p, Outside) ∷ j) f
      → IsSig j o s → IsOpRef i o (record { form = f; sig = Some s })

-- { "," OpRef }, where the references before are these
pub data AreOpRefs : List RawOpRef → List Marked → List Marked → List RawOpRef → Type 0 where
  no_reference : {rs : List RawOpRef} {o : List Marked} → AreOpRefs rs o o rs
  another_reference : {rs qs : List RawOpRef} {r : RawOpRef} {i j o : List Marked} → IsOpRef i j r
      → AreOpRefs (rs ++ r ∷ []) j o qs → AreOpRefs rs ((Comma, Outside) ∷ i) o qs

-- the variables of these names at a sort
abbrev pub variables_at : List RawWord → RawWord → List RawVar
variables_at names sort = map (λ name. record { name = name; sort = sort }) names

-- Group = Word { "," Word } ":" Word
pub data IsGroup : List Marked → List Marked → List RawVar → Type 0 where
  group : {i j k o : List Marked} {w sort : RawWord} {ws : List RawWord} {p : Pos} → IsWord i j w
      → AreWords (w ∷ []) j ((Colon p, Outside) ∷ k) ws → IsWord k o sort → IsGroup i o (variables_at ws sort)

-- { "," Group }, where the variables before are these
pub data AreGroups : List RawVar → List Marked → List Marked → List RawVar → Type 0 where
  no_group : {vs : List RawVar} {o : List Marked} → AreGroups vs o o vs
  another_group : {vs us gs : List RawVar} {i j o : List Marked} → IsGroup i j gs → AreGroups (vs ++ gs) j o us
      → AreGroups vs ((Comma, Outside) ∷ i) o us
