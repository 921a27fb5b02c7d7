-- How terms are written in lines.
use Rattle.std.specs.Prelude.{◌≡◌, List, [], ◌∷◌, Contains, Some, None}
use Rattle.larch_term.specs.BaseByNumber.{numbered}
use Rattle.larch_term.specs.BuiltIn.{IsBuiltIn, IsBuiltInAs}
use Rattle.larch_term.specs.Operator.{PlainOperator}
use Rattle.larch_term.specs.Tree.{Tree, Forest, var, app, none, more}
use Rattle.larch_term.specs.declared.statement.Statement.{Statement}
use Rattle.larch_term.specs.declared.statement.Statement.TheVariants.{Equation, Generated, Partitioned}
use Rattle.larch_certificate_text.specs.CertificateCoded.{CodedTree, CodedForest, coded_var}
use Rattle.larch_certificate_text.specs.CertificateCoded.{coded_app, no_terms, term_then}
use Rattle.larch_certificate_text.specs.CertificateLineCodedEquation.{CodedEquation}
use Rattle.larch_certificate_text.specs.CertificateSymbolSymbol.{Symbol}
use Rattle.larch_certificate_text.specs.CertificateSymbolSymbol.TheVariants.{Own, Constant, BuiltIn}
use Rattle.larch_certificate_text.specs.SymbolText.{FitSymbol}
use Rattle.larch_derive.specs.declared.open_box.OpenBox.{OpenBox}
use Rattle.larch_derive.specs.OpenBox.{constant_of}

-- the symbol names the operator in lines where boxes are open: as a constant of a box, as a built-in operator, or as
-- one of the theory's by its number, if it is one
abbrev pub IsNameOf : List OpenBox → List PlainOperator → PlainOperator → Symbol → Type 0
IsNameOf bs fs f (Constant b k) = constant_of bs f ≡ Some (b, k)
IsNameOf bs fs f (BuiltIn b) = (constant_of bs f ≡ None) × IsBuiltInAs b f
IsNameOf bs fs f (Own k) =
    (constant_of bs f ≡ None) × (IsBuiltIn f → ⊥) × (Contains fs f → numbered fs k ≡ Some f)

-- it names the operator, and has a text
abbrev pub IsSymbolOf : List OpenBox → List PlainOperator → PlainOperator → Symbol → Type 0
IsSymbolOf bs fs f g = IsNameOf bs fs f g × FitSymbol g

abbrev mutual
  -- the coded term is the term, with such a symbol for each operator
  pub IsCodeOf : List OpenBox → List PlainOperator → Tree → CodedTree → Type 0
  IsCodeOf bs fs (var n s) (coded_var m r) = (m ≡ n) × (r ≡ s)
  IsCodeOf bs fs (var n s) (coded_app g cs) = ⊥
  IsCodeOf bs fs (app f ts) (coded_var m r) = ⊥
  IsCodeOf bs fs (app f ts) (coded_app g cs) = IsSymbolOf bs fs f g × AreCodesOf bs fs ts cs

  pub AreCodesOf : List OpenBox → List PlainOperator → Forest → CodedForest → Type 0
  AreCodesOf bs fs none no_terms = Unit {0}
  AreCodesOf bs fs none (term_then c cs) = ⊥
  AreCodesOf bs fs (more t ts) no_terms = ⊥
  AreCodesOf bs fs (more t ts) (term_then c cs) = IsCodeOf bs fs t c × AreCodesOf bs fs ts cs

-- the coded equations are the equations among the statements, in order
abbrev pub AreCodesOfEquations : List OpenBox → List PlainOperator → List Statement → List CodedEquation → Type 0
AreCodesOfEquations bs fs [] [] = Unit {0}
AreCodesOfEquations bs fs [] (e ∷ es) = ⊥
AreCodesOfEquations bs fs (Equation l r ∷ ss) [] = ⊥
AreCodesOfEquations bs fs (Equation l r ∷ ss) (e ∷ es) =
    IsCodeOf bs fs l e.left × IsCodeOf bs fs r e.right × AreCodesOfEquations bs fs ss es
AreCodesOfEquations bs fs (Generated s gs ∷ ss) es = AreCodesOfEquations bs fs ss es
AreCodesOfEquations bs fs (Partitioned s gs ∷ ss) es = AreCodesOfEquations bs fs ss es
