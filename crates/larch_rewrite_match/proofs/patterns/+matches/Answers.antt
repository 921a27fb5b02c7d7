use Rattle.std.proofs.Common.{◌≡◌, ◌+◌, ◌∙◌, ap, arith, rules, sum_by, sym}
use Rattle.larch_store.specs.SharedView.{view_shared}
use Rattle.larch_term.specs.TermView.{view_node}
use Rattle.larch_term.specs.Tree.{nodes}
use Rattle.larch_rewrite_match.proofs.Shares.{arguments_belong, fewer_nodes}
use Rattle.larch_rewrite_match.proofs.patterns.+matches.Goals as goal

pub matches-match_all-requires : goal.matches-match_all-requires
matches-match_all-requires t c =
    let m : sum_by nodes c.as_slice-patterns.result.now + 1 ≡ nodes c.args.pattern.now =
    fewer_nodes c.args.pattern.now c.in-App-Application.operator c.in-App-Application.patterns
    c.as_slice-patterns.result.now
    (ap view_node (sym c.in-App-Application.is-0) ∙ c.node.ensures) c.as_slice-patterns.ensures in (
      omega (arith, m, c.decreases),
      (
        search rules,
        (
          arguments_belong _ c.args.term.now _ _ c.in-App-Application.other c.in-App-Application.terms _
              (ap (view_shared _ _) (sym c.in-App-Application.is-1) ∙ c.node-2.ensures) c.as_slice-terms.ensures
              (c.children_belong.ensures _ c.requires.term),
          c.requires.bound,
        ),
      ),
    )
