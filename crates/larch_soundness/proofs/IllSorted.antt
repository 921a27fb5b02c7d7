-- A theory without operators that states an equation of two constants derives that all values are equal.
use Rattle.std.proofs.Common.{◌≡◌, ◌≢◌, zero, suc, [], ◌∷◌, refl, arith}
use Rattle.std.specs.List.{AllPairs}
use Rattle.larch_term.specs.declared.statement.Statement.TheVariants.{Equation}
use Rattle.larch_calculus.specs.Derivable.{Derivable, axiom_, fresh}
use Rattle.larch_calculus.specs.Theories.{AreNew, IsNewName}
use Rattle.larch_calculus.proofs.Names.{box_is_new}
use Rattle.larch_soundness.specs.Counterexamples.{variable_x, variable_y, term_x, term_y, box_constant, ill_sorted}
use Rattle.larch_soundness.proofs.Counterexamples.{both, constants_over}

are_new : AreNew ill_sorted (box_constant 0 ∷ box_constant 1 ∷ [])
are_new =
    record {
      names = both (λ f. IsNewName ill_sorted f.name) (box_constant 0) (box_constant 1) (box_is_new [] 0)
          (box_is_new [] 1);
      different = pairs;
    }
  where
    zero_one : (box_constant 0).name ≡ (box_constant 1).name → ⊥
    zero_one e = cc

    pairs : AllPairs (λ f g. f.name ≢ g.name) (box_constant 0 ∷ box_constant 1 ∷ [])
    pairs zero (suc zero) d lt within = zero_one
    pairs zero zero d lt within = absurd (omega arith)
    pairs (suc i) zero d lt within = absurd (omega arith)
    pairs (suc i) (suc zero) d lt within = absurd (omega arith)
    pairs i (suc (suc j)) d lt within = absurd (omega arith)

pub ill_sorted_derives : Derivable ill_sorted (Equation term_x term_y)
ill_sorted_derives =
    let c = box_constant 0 in
    let d = box_constant 1 in
    fresh (c ∷ d ∷ []) (variable_x ∷ variable_y ∷ []) are_new (both (λ f. f.domain ≡ []) c d refl refl) refl
    (axiom_ (1, omega arith, refl)
    (constants_over (c ∷ d ∷ []) c d (0, omega arith, refl) (1, omega arith, refl) refl refl refl))
    refl refl
