-- Rules are told apart by their parts.
use Rattle.std.specs.Prelude.{◌≡◌, ℕ, zero, suc, List, Option, refl}
use Rattle.std.specs.Coded.{Coded, code_by, coded×, coded_ℕ, coded_list, coded_option}
use Rattle.larch_base.specs.declared.fact_name.FactLetter.{FactLetter}
use Rattle.larch_base.specs.declared.fact_name.FactLetter.TheVariants.{Axiom, Lemma, Hypothesis, Derived}
use Rattle.larch_base.specs.declared.fact_name.FactName.{FactName}
use Rattle.larch_store.specs.Numbered.{Numbered}
use Rattle.larch_store.specs.NumberedCode.{coded_numbered}
use Rattle.larch_term.specs.Tree.{Tree}
use Rattle.larch_term.specs.TreeCode.{coded_tree}
use Rattle.larch_rewrite.specs.RuleSet.{PlainRule, RuleSet}
use Rattle.larch_rewrite.specs.declared.kept.KeptForm.{KeptForm}

abbrev letter_number : FactLetter → ℕ
letter_number Axiom = 0
letter_number Lemma = 1
letter_number Hypothesis = 2
letter_number Derived = 3

abbrev letter_of : ℕ → FactLetter
letter_of zero = Axiom
letter_of (suc zero) = Lemma
letter_of (suc (suc zero)) = Hypothesis
letter_of (suc (suc (suc n))) = Derived

pub letter_of_number : (l : FactLetter) → letter_of (letter_number l) ≡ l
letter_of_number Axiom = refl
letter_of_number Lemma = refl
letter_of_number Hypothesis = refl
letter_of_number Derived = refl

abbrev coded_letter : Coded FactLetter
coded_letter = code_by ℕ coded_ℕ letter_number letter_of letter_of_number

abbrev coded_name : Coded FactName
coded_name =
    code_by (FactLetter × (ℕ × ℕ)) (coded× coded_letter (coded× coded_ℕ coded_ℕ)) (λ n. (n.letter, (n.number, n.part)))
    (λ p. record { letter = p.0; number = p.1.0; part = p.1.1 }) (λ _. refl)

abbrev pub coded_rule : Coded PlainRule
coded_rule =
    code_by (FactName × (Tree × (Tree × ℕ))) (coded× coded_name (coded× coded_tree (coded× coded_tree coded_ℕ)))
    (λ r. (r.name, (r.left, (r.right, r.line))))
    (λ p. record { name = p.0; left = p.1.0; right = p.1.1.0; line = p.1.1.1 }) (λ _. refl)

abbrev coded_kept : Coded KeptForm
coded_kept =
    code_by (Numbered × (Numbered × (ℕ × Option ℕ)))
    (coded× coded_numbered (coded× coded_numbered (coded× coded_ℕ (coded_option coded_ℕ))))
    (λ k. (k.start, (k.form, (k.cost, k.way))))
    (λ p. record { start = p.0; form = p.1.0; cost = p.1.1.0; way = p.1.1.1 }) (λ _. refl)

abbrev pub coded_set : Coded RuleSet
coded_set =
    code_by (List PlainRule × List KeptForm) (coded× (coded_list coded_rule) (coded_list coded_kept))
    (λ s. (s.rules, s.kept)) (λ p. record { rules = p.0; kept = p.1 }) (λ _. refl)
