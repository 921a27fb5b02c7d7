-- Rules with certificates, and what lines say of them.
use Rattle.std.specs.Prelude.{◌≡◌, ◌<◌, [], ℕ, List, All, get_or, length}
use Rattle.std.proofs.Common.{sym, subst, ◌∙◌}
use Rattle.std.proofs.lemmas.List.Elements.{All-get_or, All-weaker}
use Rattle.larch_certificate.specs.declared.line.Line.{Line}
use Rattle.larch_complete_pairs.specs.Said.{IsSaid, rule_in}
use Rattle.larch_complete_pairs.specs.declared.said.SaidEquation.{SaidEquation}
use Rattle.larch_complete_pairs.specs.declared.said.SaidRule.{SaidRule}
use Rattle.larch_complete_rounds.specs.Certified.{IsRuleIn}
use Rattle.larch_complete_rounds.specs.declared.certified.CertifiedRule.{CertifiedRule}
use Rattle.larch_derive.specs.Builder.{boxes_in, lines_in, theory_in}
use Rattle.larch_derive.specs.Finished.{IsFinished}
use Rattle.larch_derive.specs.Predicates.{Extends, HasEquation}
use Rattle.larch_derive.specs.declared.builder.Builder.{Builder}
use Rattle.larch_derive.proofs.Accepting.{equation_finished}
use Rattle.larch_derive.proofs.Growth.{extends_grows, grows_alike, stays_said}
use Rattle.larch_rewrite_meaning.specs.Sides.{AreSidesOver}
use Rattle.larch_term.specs.Tree.{Tree}
use Rattle.larch_term.specs.declared.statement.Statement.TheVariants.{Equation}

-- a builder has one theory and the same boxes still
pub one_theory : (a b : Builder) → Extends a b → theory_in b ≡ theory_in a
one_theory a b x = (grows_alike a b (extends_grows a b x)).0

pub same_boxes : (a b : Builder) → Extends a b → boxes_in b ≡ boxes_in a
same_boxes a b x = (grows_alike a b (extends_grows a b x)).1

-- the lines up to one that says an equation are its certificate
pub finished : (a b : Builder) (n : ℕ) (l r : Tree) (lines : List Line) → Extends a b → boxes_in a ≡ []
    → HasEquation b n l r → n ≡ length (lines_in b) → lines ≡ lines_in b → IsFinished (theory_in a) (Equation l r) lines
finished a b n l r lines x e h k q =
    subst (λ ls. IsFinished (theory_in a) (Equation l r) ls) (sym q)
    (subst (λ t. IsFinished t (Equation l r) (lines_in b)) (one_theory a b x)
    (equation_finished b n l r h (same_boxes a b x ∙ e) k))

-- what is said stays said
pub equations_stay : (a b : Builder) (es : List SaidEquation) → Extends a b → All (IsSaid a) es → All (IsSaid b) es
equations_stay a b es x h = All-weaker (IsSaid a) (IsSaid b) (λ e p. stays_said a b e.line _ x p) es h

pub rule_stays : (a b : Builder) (r : SaidRule) → Extends a b → IsRuleIn a r → IsRuleIn b r
rule_stays a b r x h = record {
  said = stays_said a b r.line _ x h.said;
  over = subst (λ t. AreSidesOver t.operators (rule_in r)) (sym (one_theory a b x)) h.over;
  applies = h.applies;
}

pub rules_stay : (a b : Builder) (rs : List CertifiedRule) → Extends a b → All (λ r. IsRuleIn a r.said) rs
    → All (λ r. IsRuleIn b r.said) rs
rules_stay a b rs x h =
    All-weaker (λ (r : CertifiedRule). IsRuleIn a r.said) (λ (r : CertifiedRule). IsRuleIn b r.said)
    (λ r p. rule_stays a b r.said x p) rs h

-- a rule among several
pub rule_at : (a b : Builder) (rs : List CertifiedRule) (i : ℕ) (r : CertifiedRule) → Extends a b
    → All (λ q. IsRuleIn a q.said) rs → i < length rs → r ≡ get_or rs i r → IsRuleIn b r.said
rule_at a b rs i r x h l e =
    rule_stays a b r.said x
    (subst (λ (q : CertifiedRule). IsRuleIn a q.said) (sym e)
    (All-get_or (λ (q : CertifiedRule). IsRuleIn a q.said) rs i r l h))
