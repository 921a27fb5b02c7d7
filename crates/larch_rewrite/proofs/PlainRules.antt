-- Rules under names.
use Rattle.std.specs.Prelude.{◌≡◌, ◌==◌, ◌&&◌, ◌||◌, ℕ, Bool, true, false, Decides, List, [], ◌∷◌, Option, cond}
use Rattle.std.specs.Prelude.{not, refl}
use Rattle.std.specs.List.{list_any}
use Rattle.std.proofs.Common.{ap, ap₂, sym, subst, ◌∙◌}
use Rattle.std.proofs.lemmas.Bool.Decides.{Decides-and, Decides-eqb, Decides-like, same_from_decides}
use Rattle.larch_base.specs.declared.fact_name.FactLetter.{FactLetter}
use Rattle.larch_base.specs.declared.fact_name.FactLetter.TheVariants.{Axiom, Lemma, Hypothesis, Derived}
use Rattle.larch_base.specs.declared.fact_name.FactName.{FactName}
use Rattle.larch_rewrite_step.specs.RewriteMatchExchanged.{exchange_equality}
use Rattle.larch_rewrite_step.specs.RewriteMatchRule.{left_of, reason_of, right_of, rule_from}
use Rattle.larch_rewrite_step.specs.RewriteMatchRuleReason.{Reason}
use Rattle.larch_rewrite_step.specs.RewriteMatchRuleReason.TheVariants.{Row, Line}
use Rattle.larch_rewrite_step.specs.RewriteMatchRuleRewriteRule.{RewriteRule}
use Rattle.larch_term.specs.Tree.{Tree}
use Rattle.larch_rewrite.specs.RuleSet.{IsByLine, IsLineRule, PlainRule, has_name, line_of, plain_of, rule_by, rule_of}
use Rattle.larch_rewrite.specs.RuleSet.{same_letter, without}

-- ---- names

always : {R : Type 0} → R → Decides true R
always r = (λ _. r, λ _. refl)

never : {R : Type 0} → (R → ⊥) → Decides false R
never f = (λ e. cc, λ r. absurd (f r))

letter_Decides : (l m : FactLetter) → Decides (same_letter l m) (l ≡ m)
letter_Decides Axiom Axiom = always refl
letter_Decides Lemma Lemma = always refl
letter_Decides Hypothesis Hypothesis = always refl
letter_Decides Derived Derived = always refl
letter_Decides l m = never (λ e. cc)

name_by : FactLetter → ℕ × ℕ → FactName
name_by l p = record { letter = l; number = p.0; part = p.1 }

pub name_Decides : (n : FactName) (r : PlainRule) → Decides (has_name n r) (n ≡ r.name)
unfolding name_by
name_Decides n r =
    Decides-like (has_name n r)
    (λ h. ap₂ name_by h.0 (ap₂ (λ (a b : ℕ). let p : ℕ × ℕ = (a, b) in p) h.1.0 h.1.1))
    (λ k. (
      ap (λ (x : FactName). x.letter) k,
      (ap (λ (x : FactName). x.number) k, ap (λ (x : FactName). x.part) k),
    ))
    (Decides-and (same_letter n.letter r.name.letter) ((n.number == r.name.number) && (n.part == r.name.part))
    (letter_Decides n.letter r.name.letter)
    (Decides-and (n.number == r.name.number) (n.part == r.name.part) (Decides-eqb n.number r.name.number)
    (Decides-eqb n.part r.name.part)))

pub name_told : (b : Bool) (n : FactName) (r : PlainRule) → Decides b (r.name ≡ n) → b ≡ has_name n r
name_told b n r d =
    same_from_decides b (has_name n r) (λ e. sym (d.0 e), λ e. d.1 (sym e)) (name_Decides n r)

-- ---- those that have another name are all, where none has it

first_false : (a b : Bool) → (a || b) ≡ false → a ≡ false
first_false true b h = h
first_false false b h = refl

last_false : (a b : Bool) → (a || b) ≡ false → b ≡ false
last_false true b h = absurd cc
last_false false b h = h

pub all_are_others : (name : FactName) (rules : List PlainRule) → list_any (has_name name) rules ≡ false
    → rules ≡ without name rules
all_are_others name [] h = refl
all_are_others name (r ∷ rs) h =
    let e = all_are_others name rs (last_false (has_name name r) (list_any (has_name name) rs) h) in
    let f = first_false (has_name name r) (list_any (has_name name) rs) h in
    ap (λ xs. r ∷ xs) e ∙ sym (ap (λ b. cond (not b) (r ∷ without name rs) (without name rs)) f)

-- ---- rules of the code

pub is_line_rule : (r : RewriteRule) (l t : Tree) (n : ℕ) → r ≡ rule_from l t (Line n) → IsLineRule r
is_line_rule r l t n e = subst IsLineRule (sym e) (refl, tt)

pub is_plain : (name : FactName) (r : RewriteRule) (l t : Tree) (n : ℕ) → r ≡ rule_from l t (Line n)
    → plain_of name r ≡ rule_by name l t n
is_plain name r l t n e = ap (plain_of name) e

is_from : (l r : Tree) (t : Option Tree) (w : Reason) → IsByLine w → t ≡ exchange_equality l
    → record { left = l; right = r; turned = t; reason = w } ≡ rule_from l r (Line (line_of w))
is_from l r t (Line n) i e = λ j. record { left = l; right = r; turned = e j; reason = Line n }
is_from l r t (Row k z) i e = absurd i

pub is_rule_of : (name : FactName) (r : RewriteRule) → IsLineRule r → r ≡ rule_of (plain_of name r)
is_rule_of name r h = is_from (left_of r) (right_of r) r.turned (reason_of r) h.1 h.0
