-- An equation holds if the programs of its sides compute one value each time.
use Rattle.std.proofs.Common.{◌≡◌, ◌==◌, ℕ, Bool, List, [], length, sym, ◌∙◌, ap}
use Rattle.std.specs.Prelude.{map}
use Rattle.std.proofs.lemmas.List.{length-map}
use Rattle.larch_term.specs.Tree.{Tree}
use Rattle.larch_term.specs.declared.variable.Variable.{Variable}
use Rattle.larch_models_meaning.specs.declared.finite_model.FiniteModel.{FiniteModel}
use Rattle.larch_models_meaning.specs.Computed.{all_assignments, holds_equation, variables_of_both, zeros}
use Rattle.larch_models_meaning.specs.FiniteModel.{interpretation_of, last_in}
use Rattle.larch_models_meaning.specs.Interpretation.{value_of}
use Rattle.larch_models.specs.Every.{all_lists}
use Rattle.larch_models.specs.Stacks.{Computes, assignment_of, run, top}
use Rattle.larch_models.specs.declared.program.Instruction.{Instruction}
use Rattle.larch_models.proofs.Every.{assignments_are_lists, lists_same, within_length}

-- both programs compute one value
abbrev agree : List Instruction → List Instruction → List ℕ → Bool
agree is js vs = top (run is vs []) == top (run js vs [])

holds_over : (m : FiniteModel) (ws : List Variable) (l r : Tree) (is js : List Instruction) (ns : List ℕ)
    → Computes m ws is l → Computes m ws js r → ns ≡ map (λ w. last_in m w.sort) ws → ws ≡ variables_of_both l r
    → all_lists ns (agree is js) ≡ holds_equation (interpretation_of m) l r
holds_over m ws l r is js ns f g e i =
    let k = interpretation_of m in
    let ms = map (λ w. last_in m w.sort) ws in
    ap (λ us. all_lists us (agree is js)) e
    ∙ lists_same ms (agree is js)
    (λ vs. value_of k (assignment_of zeros ws vs) l == value_of k (assignment_of zeros ws vs) r)
    (λ vs w.
    let n : length vs ≡ length ws = within_length ms vs w ∙ length-map ws (λ w. last_in m w.sort) in
    ap (λ v. v == top (run js vs [])) (f vs n) ∙ ap (λ v. value_of k (assignment_of zeros ws vs) l == v) (g vs n))
    ∙ sym (assignments_are_lists (last_in m) ws zeros (λ a. value_of k a l == value_of k a r))
    ∙ ap (λ us. all_assignments (last_in m) us zeros (λ a. value_of k a l == value_of k a r)) i

pub equation_holds : (m : FiniteModel) (ws : List Variable) (l r : Tree) (is js : List Instruction) (ns : List ℕ)
    (answer : Bool) → ws ≡ variables_of_both l r → Computes m ws is l → Computes m ws js r
    → ns ≡ map (λ w. last_in m w.sort) ws → answer ≡ all_lists ns (agree is js)
    → answer ≡ holds_equation (interpretation_of m) l r
equation_holds m ws l r is js ns answer i f g e a = a ∙ holds_over m ws l r is js ns f g e i
