use Rattle.std.proofs.Common.{rules, ◌≡◌, ℕ, ◌<◌, List, [], length, get_or, sym, ◌∙◌, ap, subst, arith, true, refl}
use Rattle.std.proofs.Common.{true≢false}
use Rattle.std.specs.Prelude.{nat_eq, not}
use Rattle.std.specs.Cmp.Lexicographic.{pointwise}
use Rattle.std.proofs.lemmas.Bool.Decides.{Decides-eqb}
use Rattle.std.proofs.lemmas.Slice.Eq.{slice_eq-Decides}
use Rattle.std.proofs.lemmas.List.{get_or_default}
use Rattle.larch_term.specs.Operator.{PlainOperator}
use Rattle.larch_verify_pool.specs.Pooled.{operator_in}
use Rattle.larch_verify_pool.proofs.Fitting.{SortAt, sorts_all, sorts_at}
use Rattle.larch_verify_pool.proofs.pool.Pool.takes.Goals as goal

pub returns : goal.returns
returns c =
    let f : PlainOperator = operator_in c.args.self.now.operators c.args.operator in
    let e : length c.args.arguments.now ≡ length f.domain =
    subst (λ (ds : List (List ℕ)). length c.args.arguments.now ≡ length ds) c.domain-domain.ensures (omega arith) in
    let h : (k : ℕ) → k < length c.args.arguments.now → SortAt c.args.self.now.trees c.args.arguments.now f.domain k =
    λ k lt. subst (λ (ds : List (List ℕ)). SortAt c.args.self.now.trees c.args.arguments.now ds k)
    c.domain-domain.ensures (c.loop-i.invariant k (omega arith)) in
    (λ t. sorts_all c.args.self.now.trees c.args.arguments.now f.domain e h, λ w. search rules)

pub returns-then-ne : goal.returns-then-ne
returns-then-ne c =
    let f : PlainOperator = operator_in c.args.self.now.operators c.args.operator in
    let i : ℕ = c.loop-i.i in
    let d : ◌≡◌ {A = List ℕ} (get_or f.domain i []) c.index-domain-i.result =
    subst (λ (ds : List (List ℕ)). ◌≡◌ {A = List ℕ} (get_or ds i []) c.index-domain-i.result) c.domain-domain.ensures
    (get_or_default c.domain-domain.result.now i [] c.index-domain-i.result
    (omega (arith, c.if-domain-arguments.false, c.loop-i-test.true)) ∙ sym c.index-domain-i.is) in (
      λ t. absurd (grind arith),
      λ w.
          let a : SortAt c.args.self.now.trees c.args.arguments.now f.domain i =
          sorts_at c.args.self.now.trees c.args.arguments.now f.domain i c.loop-i-test.true w in
          let e : c.sort_of.result.now ≡ c.index-domain-i.result = c.sort_of.ensures ∙ a ∙ d in
          let s : pointwise nat_eq c.sort_of.result.now c.index-domain-i.result ≡ true =
          (slice_eq-Decides Decides-eqb c.sort_of.result.now c.index-domain-i.result
          (pointwise nat_eq c.sort_of.result.now c.index-domain-i.result) refl).1 e in
          absurd (true≢false (c.if-ne.ensures ∙ ap not s)),
    )
