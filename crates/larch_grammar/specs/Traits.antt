-- The grammar of declarations, items and traits.
use Rattle.std.specs.Prelude.{◌≡◌, Bool, true, false, not, cond, IsTrue, List, [], ◌∷◌, ◌++◌, map}
use Rattle.larch_base.specs.declared.position.Pos.{Pos}
use Rattle.larch_lexer.specs.declared.token.Token.{Token}
use Rattle.larch_grammar_law.specs.declared.mark.Mark.{Mark}
use Rattle.larch_grammar_law.specs.declared.mark.Mark.TheVariants.{Outside, Head}
use Rattle.larch_raw.specs.declared.declared.RawDecl.{RawDecl}
use Rattle.larch_raw.specs.declared.declared.RawForm.{RawForm}
use Rattle.larch_raw.specs.declared.declared.RawOpRef.{RawOpRef}
use Rattle.larch_raw.specs.declared.declared.RawSig.{RawSig}
use Rattle.larch_raw.specs.declared.declared.RawWord.{RawWord}
use Rattle.larch_raw.specs.declared.equation.RawConversion.{RawConversion}
use Rattle.larch_raw.specs.declared.equation.RawEquation.{RawEquation}
use Rattle.larch_raw.specs.declared.equation.ClauseKind.{ClauseKind}
use Rattle.larch_raw.specs.declared.equation.ClauseKind.TheVariants as clause_kind
use Rattle.larch_raw.specs.declared.equation.RawItem.{RawItem}
use Rattle.larch_raw.specs.declared.equation.RawItem.TheVariants as item
use Rattle.larch_raw.specs.declared.equation.RawTrait.{RawTrait}
use Rattle.larch_raw.specs.declared.equation.RawVar.{RawVar}
use Rattle.larch_raw.specs.declared.reference.RawRef.{RawRef}
use Rattle.larch_raw.specs.declared.shorthand.RawShorthand.{RawShorthand}
use Rattle.larch_raw.specs.RawTree.{RawTree}
use Rattle.larch_grammar.specs.declared.terminal.Terminal.{Terminal}
use Rattle.larch_grammar.specs.declared.terminal.Terminal.TheVariants.{Word, Colon, Comma, Semicolon, ForAll, Trait}
use Rattle.larch_grammar.specs.declared.terminal.Terminal.TheVariants.{Introduces, Asserts, Implies, Converts}
use Rattle.larch_grammar.specs.declared.terminal.Terminal.TheVariants.{Exempting, Generated, Partitioned, By}
use Rattle.larch_grammar.specs.declared.machine.Before.{Before}
use Rattle.larch_grammar.specs.declared.machine.Before.TheVariants.{Anything, Equations, Semicolon as semicolon}
use Rattle.larch_grammar.specs.declared.machine.RefKind.{RefKind}
use Rattle.larch_grammar.specs.declared.machine.RefKind.TheVariants.{First}
use Rattle.larch_grammar.specs.Composition.{AreRefs, HasFormals, IsRef, IsRefsWord, IsShort, with_ref, with_shorthand}
use Rattle.larch_grammar.specs.Form.{Marked, without_mark, IsWord, IsForm, AreForms, IsSig, IsOpRef, AreOpRefs, IsGroup}
use Rattle.larch_grammar.specs.Form.{AreGroups}
use Rattle.larch_grammar.specs.Terminal.{terminal_of}
use Rattle.larch_grammar.specs.Leading as leading
use Rattle.larch_grammar.specs.Terms.{Cond, IsEquation, first_position, formula_of}

-- a trait of this name with these formals and nothing in it
abbrev pub empty_trait : RawWord → List RawForm → RawTrait
empty_trait name formals =
    record {
      name = name;
      formals = formals;
      shorthands = [];
      references = [];
      declarations = [];
      items = [];
      implies = false;
      implied = [];
      implied_items = [];
      conversions = [];
    }

-- the trait with a declaration more
abbrev pub with_declaration : RawTrait → RawDecl → RawTrait
with_declaration raw declaration = record raw { declarations = raw.declarations ++ declaration ∷ [] }

-- the trait with an item more: of its implied part where there is one
abbrev pub with_item : RawTrait → RawItem → RawTrait
with_item raw i =
    cond raw.implies (record raw { implied_items = raw.implied_items ++ i ∷ [] })
    (record raw { items = raw.items ++ i ∷ [] })

-- the trait with an implied part, of which nothing is read
abbrev pub implying : RawTrait → RawTrait
implying raw = record raw { implies = true }

-- the trait with a conversion more
abbrev pub with_conversion : RawTrait → List RawOpRef → List RawVar → List RawEquation → RawTrait
with_conversion raw converted variables exempted =
    record raw {
      conversions =
          raw.conversions ++ record { converted = converted; variables = variables; exempted = exempted } ∷ [];
    }

-- the trait with these equations as an item more
abbrev pub with_equations : RawTrait → List RawVar → List RawEquation → RawTrait
with_equations raw variables equations = with_item raw (item.Equations variables equations)

-- Decl = Form { "," Form } ":" Sig
pub data IsDecl : List Marked → List Marked → RawDecl → Type 0 where
  declaration : {i j k o : List Marked} {f : RawForm} {fs : List RawForm} {p : Pos} {s : RawSig} → IsForm i j f
      → AreForms (f ∷ []) j ((Colon p, Outside) ∷ k) fs → IsSig k o s → IsDecl i o (record { forms = fs; sig = s })

-- { Decl }, from the trait so far to the trait with these declarations
pub data AreDecls : RawTrait → List Marked → List Marked → RawTrait → Type 0 where
  no_declaration : {r : RawTrait} {o : List Marked} → AreDecls r o o r
  another_declaration : {r z : RawTrait} {d : RawDecl} {i j o : List Marked} → IsDecl i j d
      → AreDecls (with_declaration r d) j o z → AreDecls r i o z

-- "generated" | "partitioned": the kind of a clause
pub data IsClauseWord : Terminal → ClauseKind → Type 0 where
  generates : IsClauseWord Generated clause_kind.Generated
  partitions : IsClauseWord Partitioned clause_kind.Partitioned

-- [ ";" ]
pub data MayEnd : List Marked → List Marked → Type 0 where
  no_end : {o : List Marked} → MayEnd o o
  an_end : {o : List Marked} → MayEnd ((Semicolon, Outside) ∷ o) o

-- what is counted at the word that begins a clause: where an equation could begin too, what is counted at its word
abbrev pub clause_mark : Before → Mark
clause_mark Anything = Head
clause_mark Equations = Outside
clause_mark semicolon = Head

-- Word ( "generated" | "partitioned" ) "by" OpRef { "," OpRef } [ ";" ]
pub data IsClause : Mark → List Marked → List Marked → RawItem → Type 0 where
  clause : {m : Mark} {i j k o : List Marked} {sort : RawWord} {t : Terminal} {kind : ClauseKind} {r : RawOpRef}
      {rs : List RawOpRef} → IsClauseWord t kind → IsOpRef i j r → AreOpRefs (r ∷ []) j k rs → MayEnd k o
      → IsClause m ((Word sort, m) ∷ (t, Outside) ∷ (By, Outside) ∷ i) o (item.Clause kind sort rs)

-- { ";" Equation } [ ";" ], where the equations before are these; and whether it ends with `;`
pub data AreEquations : Bool → List RawEquation → List Marked → List Marked → List RawEquation → Before → Type 0 where
  no_equation : {s : Bool} {es : List RawEquation} {o : List Marked} → AreEquations s es o o es Equations
  ended : {s : Bool} {es : List RawEquation} {o : List Marked}
      → AreEquations s es ((Semicolon, Outside) ∷ o) o es semicolon
  another_equation : {s : Bool} {es fs : List RawEquation} {e : RawEquation} {b : Before} {i j o : List Marked}
      → IsEquation s i j e → AreEquations s (es ++ e ∷ []) j o fs b
      → AreEquations s es ((Semicolon, Outside) ∷ i) o fs b

-- { Item } of one part, behind what stands before, from the trait so far; no item of equations without `\forall`
-- stands directly behind another item of equations
pub data AreItems : Bool → Before → RawTrait → List Marked → List Marked → RawTrait → Type 0 where
  no_item : {s : Bool} {b : Before} {r : RawTrait} {o : List Marked} → AreItems s b r o o r
  a_clause : {s : Bool} {b : Before} {r z : RawTrait} {c : RawItem} {i j o : List Marked}
      → IsClause (clause_mark b) i j c → AreItems s Anything (with_item r c) j o z → AreItems s b r i o z
  for_all : {s : Bool} {b c : Before} {r z : RawTrait} {gs vs : List RawVar} {e : RawEquation} {es : List RawEquation}
      {i j k l m o : List Marked} → IsGroup i j gs → AreGroups gs j k vs → IsEquation s k l e
      → AreEquations s (e ∷ []) l m es c → AreItems s c (with_equations r vs es) m o z
      → AreItems s b r ((ForAll, Outside) ∷ i) o z
  without_variables : {s : Bool} {c : Before} {r z : RawTrait} {e : RawEquation} {es : List RawEquation}
      {i l m o : List Marked} → IsEquation s i l e → AreEquations s (e ∷ []) l m es c
      → AreItems s c (with_equations r [] es) m o z → AreItems s Anything r i o z

-- { "," Cond }, each a formula, where those before are these
pub data AreExempted : Bool → List RawEquation → List Marked → List Marked → List RawEquation → Type 0 where
  no_exempted : {s : Bool} {es : List RawEquation} {o : List Marked} → AreExempted s es o o es
  another_exempted : {s : Bool} {es fs : List RawEquation} {l : RawTree} {i j o : List Marked} → Cond s 0 i j l
      → AreExempted s (es ++ formula_of l (first_position i) ∷ []) j o fs → AreExempted s es ((Comma, Outside) ∷ i) o fs

-- [ "\forall" Group { "," Group } ]
pub data HasVariables : List Marked → List Marked → List RawVar → Type 0 where
  no_variables : {o : List Marked} → HasVariables o o []
  some_variables : {gs vs : List RawVar} {i j o : List Marked} → IsGroup i j gs → AreGroups gs j o vs
      → HasVariables ((ForAll, Outside) ∷ i) o vs

-- [ "exempting" [ "\forall" Group { "," Group } ] Cond { "," Cond } ]
pub data HasExempted : Bool → List Marked → List Marked → List RawVar → List RawEquation → Type 0 where
  nothing_exempted : {s : Bool} {o : List Marked} → HasExempted s o o [] []
  exempted : {s : Bool} {vs : List RawVar} {es : List RawEquation} {l : RawTree} {i j k o : List Marked}
      → HasVariables i j vs
      → Cond s 0 j k l → AreExempted s (formula_of l (first_position j) ∷ []) k o es
      → HasExempted s ((Exempting, Outside) ∷ i) o vs es

-- { "converts" OpRef { "," OpRef } [ "exempting" .. ] }, from the trait so far to the whole trait
pub data AreConversions : Bool → RawTrait → List Marked → List Marked → RawTrait → Type 0 where
  no_conversion : {s : Bool} {r : RawTrait} {o : List Marked} → AreConversions s r o o r
  converted : {s : Bool} {r z : RawTrait} {q : RawOpRef} {qs : List RawOpRef} {vs : List RawVar} {es : List RawEquation}
      {i j k l o : List Marked}
      → IsOpRef i j q → AreOpRefs (q ∷ []) j k qs → HasExempted s k l vs es
      → AreConversions s (with_conversion r qs vs es) l o z
      → AreConversions s r ((Converts, Outside) ∷ i) o z

-- a list of references ends before these tokens, or goes on with them
abbrev pub ends_references : List Marked → Bool
ends_references i = leading.ends_references without_mark i

-- an implied part that begins with these tokens begins with references
abbrev pub begins_references : List Marked → Bool
begins_references i = leading.begins_references without_mark i

-- { "asserts" { Item } } [ "implies" [ Ref { "," Ref } ] { Item } ] { Converts }, from the trait so far to the whole
-- trait: behind `implies` neither of those two words stands. The part begins with references where the flag at
-- `implies` says so; else it begins with an item or with none, and what follows is nothing that begins with references
pub data AreAssertions : Bool → RawTrait → List Marked → List Marked → RawTrait → Type 0 where
  conversions : {s : Bool} {r z : RawTrait} {i o : List Marked} → AreConversions s r i o z → AreAssertions s r i o z
  asserted : {s : Bool} {r t z : RawTrait} {i j o : List Marked} → r.implies ≡ false → AreItems s Anything r i j t
      → AreAssertions s t j o z → AreAssertions s r ((Asserts, Outside) ∷ i) o z
  implied_items : {s : Bool} {r t z : RawTrait} {i j o : List Marked} → r.implies ≡ false
      → IsTrue (not (begins_references i)) → AreItems s Anything (implying r) i j t
      → AreAssertions s t j o z → AreAssertions s r ((Implies false, Outside) ∷ i) o z
  implied_references : {s : Bool} {q : RawRef} {r y t z : RawTrait} {i j k l o : List Marked} → r.implies ≡ false
      → IsRef i j q → IsTrue (ends_references j)
      → AreRefs First (with_ref (implying r) First q) j k y → AreItems s Anything y k l t → AreAssertions s t l o z
      → AreAssertions s r ((Implies true, Outside) ∷ i) o z

-- { "introduces" { Decl } } and what follows the declarations, from the trait so far to the whole trait
pub data AreParts : Bool → RawTrait → List Marked → List Marked → RawTrait → Type 0 where
  assertions : {s : Bool} {r z : RawTrait} {i o : List Marked} → AreAssertions s r i o z → AreParts s r i o z
  introduced : {s : Bool} {r t z : RawTrait} {i j o : List Marked} → AreDecls r i j t → AreParts s t j o z
      → AreParts s r ((Introduces, Outside) ∷ i) o z

-- Body = { Short | ( "includes" | "assumes" ) Ref { "," Ref } } { "introduces" { Decl } } { "asserts" { Item } }
-- [ "implies" [ Ref { "," Ref } ] { Item } ] { Converts }, from the trait so far to the whole trait
pub data IsBody : Bool → RawTrait → List Marked → List Marked → RawTrait → Type 0 where
  parts : {s : Bool} {r z : RawTrait} {i o : List Marked} → AreParts s r i o z → IsBody s r i o z
  a_shorthand : {s : Bool} {r z : RawTrait} {h : RawShorthand} {i j o : List Marked} → IsShort i j h
      → IsBody s (with_shorthand r h) j o z → IsBody s r i o z
  references : {s : Bool} {b : RefKind} {t : Terminal} {q : RawRef} {r y z : RawTrait} {i j k o : List Marked}
      → IsRefsWord t b
      → IsRef i j q → AreRefs b (with_ref r b q) j k y → IsBody s y k o z → IsBody s r ((t, Outside) ∷ i) o z

-- Trait = Word [ "(" Form { "," Form } ")" ] ":" "trait" Body
pub data IsMarkedTrait : Bool → List Marked → RawTrait → Type 0 where
  trait_of_body : {s : Bool} {i j k : List Marked} {w : RawWord} {fs : List RawForm} {p : Pos} {z : RawTrait}
      → IsWord i j w → HasFormals j ((Colon p, Outside) ∷ (Trait, Outside) ∷ k) fs → IsBody s (empty_trait w fs) k [] z
      → IsMarkedTrait s i z

-- a token of a text beside its mark, where references follow `implies` or not
abbrev pub as_marked : Bool → Token × Mark → Marked
as_marked lists marked = (terminal_of lists marked.0, marked.1)

-- these tokens are this trait, where references follow `implies` or where they don't
abbrev pub IsTrait : List Token → RawTrait → Type 0
IsTrait tokens raw =
    (lists : Bool) × (marked : List (Token × Mark)) × IsMarkedTrait false (map (as_marked lists) marked) raw
    × (map (λ token. token.0) marked ≡ tokens)

-- these tokens are this equation
abbrev pub IsEquationOf : List Token → RawEquation → Type 0
IsEquationOf tokens raw =
    (marked : List (Token × Mark)) × IsEquation false (map (as_marked false) marked) [] raw
    × (map (λ token. token.0) marked ≡ tokens)
