-- What is written with words alone: the name of a trait, sorts and variables.
use Rattle.std.specs.Prelude.{IsTrue, Option, Some, None, All}
use Rattle.larch_base.specs.Word.{is_word}
use Rattle.larch_raw.specs.RawTree.{RawTree, RawForest, apply, qualified, no_more, one_more}
use Rattle.larch_raw.specs.declared.declared.RawDecl.{RawDecl}
use Rattle.larch_raw.specs.declared.declared.RawForm.{RawForm}
use Rattle.larch_raw.specs.declared.declared.RawOpRef.{RawOpRef}
use Rattle.larch_raw.specs.declared.declared.RawSig.{RawSig}
use Rattle.larch_raw.specs.declared.declared.RawWord.{RawWord}
use Rattle.larch_raw.specs.declared.equation.RawConversion.{RawConversion}
use Rattle.larch_raw.specs.declared.equation.RawEquation.{RawEquation}
use Rattle.larch_raw.specs.declared.equation.RawItem.{RawItem}
use Rattle.larch_raw.specs.declared.equation.RawItem.TheVariants.{Clause, Equations}
use Rattle.larch_raw.specs.declared.equation.RawRight.{RawRight}
use Rattle.larch_raw.specs.declared.equation.RawTrait.{RawTrait}
use Rattle.larch_raw.specs.declared.equation.RawVar.{RawVar}
use Rattle.larch_raw.specs.declared.reference.RawActual.{RawActual}
use Rattle.larch_raw.specs.declared.reference.RawActual.TheVariants.{Plain, Replace}
use Rattle.larch_raw.specs.declared.reference.RawRef.{RawRef}
use Rattle.larch_raw.specs.declared.reference.RawReference.{RawReference}
use Rattle.larch_raw.specs.declared.shorthand.RawField.{RawField}
use Rattle.larch_raw.specs.declared.shorthand.RawShorthand.{RawShorthand}
use Rattle.larch_raw.specs.declared.shorthand.RawShorthand.TheVariants.{Enumeration, Tuple, Union}

-- its text is a word
abbrev pub Worded : RawWord → Type 0
Worded word = IsTrue (is_word word.name)

-- the sorts of a signature are words
abbrev pub WordedSig : RawSig → Type 0
WordedSig sig = All Worded sig.domain × Worded sig.range

-- the sorts of a declaration are words
abbrev pub WordedDecl : RawDecl → Type 0
WordedDecl declaration = WordedSig declaration.sig

-- where there is a signature its sorts are words
abbrev pub WordedIfAny : Option RawSig → Type 0
WordedIfAny None = Unit {0}
WordedIfAny (Some sig) = WordedSig sig

-- the sorts of a reference are words
abbrev pub WordedRef : RawOpRef → Type 0
WordedRef reference = WordedIfAny reference.sig

-- a variable and its sort are words
abbrev pub WordedVar : RawVar → Type 0
WordedVar variable = Worded variable.name × Worded variable.sort

abbrev mutual
  -- the sorts that a term is said to have are words
  pub WordedTerm : RawTree → Type 0
  WordedTerm (apply name ts pos) = WordedTerms ts
  WordedTerm (qualified t sort pos) = WordedTerm t × Worded sort

  -- the same of arguments
  pub WordedTerms : RawForest → Type 0
  WordedTerms no_more = Unit {0}
  WordedTerms (one_more t ts) = WordedTerm t × WordedTerms ts

-- the same of the right side of an equation, if there is one
abbrev pub WordedRight : Option RawRight → Type 0
WordedRight None = Unit {0}
WordedRight (Some right) = WordedTerm right.term

-- the same of an equation
abbrev pub WordedEquation : RawEquation → Type 0
WordedEquation equation = WordedTerm equation.left × WordedRight equation.right

-- the sorts and variables of an item are words
abbrev pub WordedItem : RawItem → Type 0
WordedItem (Clause kind sort references) = Worded sort × All WordedRef references
WordedItem (Equations variables equations) = All WordedVar variables × All WordedEquation equations

-- where it is a bare word its name is a word
abbrev pub WordedForm : RawForm → Type 0
WordedForm form = IsTrue form.word → IsTrue (is_word form.name)

-- bare words of an actual are words, and so are its sorts
abbrev pub WordedActual : RawActual → Type 0
WordedActual (Plain form) = WordedForm form
WordedActual (Replace new old sig) = WordedForm new × WordedForm old × WordedIfAny sig

-- the trait's name is a word, and so are the bare words and the sorts of its actuals
abbrev pub WordedTarget : RawRef → Type 0
WordedTarget target = Worded target.name × All WordedActual target.actuals

-- the same where it is assumed or included
abbrev pub WordedReference : RawReference → Type 0
WordedReference reference = WordedTarget reference.target

-- the sorts of what is converted are words, and the sorts and variables of what is exempted
abbrev pub WordedConversion : RawConversion → Type 0
WordedConversion conversion =
    All WordedRef conversion.converted × All WordedVar conversion.variables × All WordedEquation conversion.exempted

-- a field and its sort are words
abbrev pub WordedField : RawField → Type 0
WordedField field = Worded field.name × Worded field.sort

-- all that is written in a shorthand is words
abbrev pub WordedShorthand : RawShorthand → Type 0
WordedShorthand (Enumeration sort names) = Worded sort × All Worded names
WordedShorthand (Tuple sort fields) = Worded sort × All WordedField fields
WordedShorthand (Union sort fields) = Worded sort × All WordedField fields

-- the name of a trait, its sorts and its variables are words; so is what it is composed of, where it isn't a symbol
abbrev pub WordedTrait : RawTrait → Type 0
WordedTrait raw =
    Worded raw.name × All WordedDecl raw.declarations × All WordedItem raw.items
    × All WordedForm raw.formals × All WordedShorthand raw.shorthands × All WordedReference raw.references
    × All WordedTarget raw.implied × All WordedItem raw.implied_items × All WordedConversion raw.conversions
