-- Induction, with the variable and the truth as lines write them.
use Rattle.std.specs.Prelude.{◌≡◌, ℕ, true, List}
use Rattle.std.proofs.Common.{sym, subst}
use Rattle.larch_term.specs.Operator.{PlainOperator}
use Rattle.larch_term.specs.Sorts.{sort_of}
use Rattle.larch_term.specs.Tree.{Tree}
use Rattle.larch_term.specs.Truth.{truth}
use Rattle.larch_term.specs.declared.statement.Statement.TheVariants.{Generated}
use Rattle.larch_term.specs.declared.variable.Variable.{Variable}
use Rattle.larch_certificate.specs.declared.line.CodedVar.{CodedVar}
use Rattle.larch_derive.specs.CertificateTextLineText.{IsWord}
use Rattle.larch_derive.specs.Predicates.{Extends, HasStatement, Known, HasNoBadLine}
use Rattle.larch_derive.specs.declared.builder.Builder.{Builder}
use Rattle.larch_derive.proofs.Growth.{extends_grows, known_stands}
use Rattle.larch_derive_clauses.specs.Showing.{ShowCases}
use Rattle.larch_derive_clauses.proofs.Staying.{cases_stay}
use Rattle.larch_methods.specs.Inside.{written_variable}
use Rattle.larch_methods.specs.Methods.{ByInduction, IsStated}
use Rattle.larch_methods.proofs.Settled.{formula_stays}
use Rattle.larch_methods.proofs.Sharing.{value_known}

-- what the line of the induction takes, where the clause is said
pub induced : (a b : Builder) (clause said : ℕ) (v : Variable) (w : CodedVar) (g t : Tree) (boxes : List ℕ) (P : Type 0)
    → ByInduction a clause v g boxes → w ≡ written_variable v → t ≡ truth
    → ((fs : List PlainOperator) → HasNoBadLine a → IsStated a clause (Generated v.sort fs) → Extends a b)
    → ((fs : List PlainOperator) → HasNoBadLine a → IsStated a clause (Generated v.sort fs)
    → HasStatement b said (Generated v.sort fs))
    → (Extends a b → (fs : List PlainOperator) → HasStatement b said (Generated w.sort fs) → ShowCases b w g t fs boxes
    → Known b g → Known b t → sort_of g ≡ sort_of t → IsWord w.name → P)
    → P
induced a b clause said v w g t boxes P h e q extends says go =
    let st = known_stands a g h.formula.known in
    let x = extends h.generators st h.stated in
    let k = formula_stays a b g x h.formula in
    go x h.generators
    (subst (λ u. HasStatement b said (Generated u.sort h.generators)) (sym e) (says h.generators st h.stated))
    (subst (λ u. ShowCases b u g t h.generators boxes) (sym e)
    (subst (λ s. ShowCases b (written_variable v) g s h.generators boxes) (sym q)
    (cases_stay a b (written_variable v) g truth h.generators boxes (extends_grows a b x) h.shown)))
    k.known (subst (Known b) (sym q) (value_known b true (known_stands b g k.known)))
    (subst (λ s. sort_of g ≡ sort_of s) (sym q) k.sort) (subst (λ (u : CodedVar). IsWord u.name) (sym e) h.name)
