use Rattle.std.specs.Prelude.{◌≡◌, ◌+◌, ◌≤◌, ℕ, IfSome, is_some, List}
use Rattle.std.specs.List.{AllZip}
use Rattle.std.proofs.Common.{ap, arith, rules, subst}
use Rattle.larch_derive.specs.Predicates.{HasStatement}
use Rattle.larch_derive.proofs.Growth.{extends_trans}
use Rattle.larch_prove_invariant.specs.DeriveFormulasConsequences.{Follows, lines_of}
use Rattle.larch_prove_adding.specs.Deductions.{Deduction, left_by}
use Rattle.larch_prove_adding.proofs.Consequences.{further_none, none_deduced, some_deduced}
use Rattle.larch_prove_adding.proofs.Deductions.{nothing_deduced}
use Rattle.larch_prove_adding.proofs.Staying.{equation_stays, said_sorted}
use Rattle.larch_prove_adding.proofs.deducing.consequences_of.Goals as goal
use Rattle.larch_prove_adding.specs.Equation.{sides_in}
use Rattle.larch_term.specs.Tree.{Tree}
use Rattle.larch_term.specs.declared.statement.Statement.{Statement}
use Rattle.larch_term.specs.declared.statement.Statement.TheVariants.{Equation}

pub returns-in_default-clause-found : goal.returns-in_default-clause-found
returns-in_default-clause-found c =
    let never : (d : Deduction) (s : List ℕ) (t u : Tree) → left_by d s t u ≡ c.args.equation.now.left → ⊥ =
    search rules in
    none_deduced c.args.equation.now never

pub follow-requires : goal.follow-requires
follow-requires c = equation_stays _ _ c.args.equation.now c.loop-index.invariant.extends c.requires

pub returns-in_err-lines-clause-extends : goal.returns-in_err-lines-clause-extends
returns-in_err-lines-clause-extends c =
    extends_trans _ _ _ c.loop-index.invariant.extends c.in_err-lines.ensures.extends

pub returns-in_err-found-clause-extends : goal.returns-in_err-found-clause-extends
returns-in_err-found-clause-extends c =
    extends_trans _ _ _ c.loop-index.invariant.extends c.in_ok-lines.ensures.extends

pub returns-in-Some-lines-clause-found : goal.returns-in-Some-lines-clause-found
returns-in-Some-lines-clause-found c =
    let n = c.loop-index.index in
    let w = c.in_ok-lines.ensures.follows.0 (ap is_some c.in-Some-lines.is) in
    let z =
    subst
    (λ o. IfSome o (λ found. (es : List Statement)
    → Follows (n + 1) (Equation c.args.equation.now.left c.args.equation.now.right) es
    → AllZip (HasStatement c.follow.new.builder) (lines_of found) es)) c.in-Some-lines.is c.in_ok-lines.ensures.says in
    (some_deduced n c.args.equation.now w.0 c.follow.new.builder (lines_of c.in-Some-lines.lines)
    c.in-Some.places.first.now c.in-Some.places.second.now c.in_ok-found.found.items c.loop-index-test.true w.1
    (z w.0 w.1) (said_sorted _ _ _ _ c.requires) c.in-Some.ensures.some
    (λ d k a. c.in_ok-found.ensures c.follow.new.builder d k a)).0

pub returns-in-Some-lines-clause-says : goal.returns-in-Some-lines-clause-says
returns-in-Some-lines-clause-says c =
    let n = c.loop-index.index in
    let w = c.in_ok-lines.ensures.follows.0 (ap is_some c.in-Some-lines.is) in
    let z =
    subst
    (λ o. IfSome o (λ found. (es : List Statement)
    → Follows (n + 1) (Equation c.args.equation.now.left c.args.equation.now.right) es
    → AllZip (HasStatement c.follow.new.builder) (lines_of found) es)) c.in-Some-lines.is c.in_ok-lines.ensures.says in
    (some_deduced n c.args.equation.now w.0 c.follow.new.builder (lines_of c.in-Some-lines.lines)
    c.in-Some.places.first.now c.in-Some.places.second.now c.in_ok-found.found.items c.loop-index-test.true w.1
    (z w.0 w.1) (said_sorted _ _ _ _ c.requires) c.in-Some.ensures.some
    (λ d k a. c.in_ok-found.ensures c.follow.new.builder d k a)).1

pub returns-in-Some-lines-clause-extends : goal.returns-in-Some-lines-clause-extends
returns-in-Some-lines-clause-extends c =
    extends_trans _ _ _ c.loop-index.invariant.extends c.in_ok-lines.ensures.extends

pub loop-index-preserved : goal.loop-index-preserved
loop-index-preserved c =
    let never : (es : List Statement)
    → Follows (c.loop-index.index + 1) (Equation c.args.equation.now.left c.args.equation.now.right) es → ⊥ =
    search rules in
    record {
      extends = extends_trans _ _ _ c.loop-index.invariant.extends c.in_ok-lines.ensures.extends;
      none = further_none c.loop-index.index c.args.equation.now c.loop-index.invariant.none never;
    }

pub returns-clause-found : goal.returns-clause-found
returns-clause-found c =
    let ends : 7 ≤ c.loop-index.index = search rules in
    nothing_deduced (sides_in c.args.equation.now)
    (λ n h es f. c.loop-index.invariant.none n (omega (arith, h, ends)) es f)
