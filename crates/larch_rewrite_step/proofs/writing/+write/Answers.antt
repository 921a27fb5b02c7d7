use Rattle.std.specs.Prelude.{◌≡◌, map}
use Rattle.std.proofs.Common.{subst, arith}
use Rattle.larch_certificate.specs.Coded.{coded_forest_of}
use Rattle.larch_derive.specs.Coding.{AreCodesOf}
use Rattle.larch_store.specs.Numbered.{Numbered, number_of, size_of, term_of}
use Rattle.larch_store.specs.SharedView.{view_shared}
use Rattle.larch_store.specs.declared.shared.SharedNode.TheVariants.{Application}
use Rattle.larch_term.specs.Tree.{forest_of}
use Rattle.larch_rewrite_step.proofs.Written.{children_are, code_of_application, codes_more, fewer_nodes}
use Rattle.larch_rewrite_step.proofs.Written.{kept_encodings}
use Rattle.larch_rewrite_step.proofs.writing.+write.Goals as goal

pub write-write_all-requires : goal.write-write_all-requires
write-write_all-requires t c =
    let x : Numbered = c.args.term.now in
    let v : view_shared (number_of x) (size_of x)
    (Application c.in-Application.operator c.in-Application.arguments) ≡ x =
    subst (λ n. view_shared (number_of x) (size_of x) n ≡ x) c.in-Application.is c.node.ensures in
    let k = fewer_nodes x _ _ c.in-Application.operator c.in-Application.arguments c.as_slice.result.now v
    c.as_slice.ensures in (
      omega (arith, k, c.decreases),
      (
        children_are c.args.store.now x _ _ c.in-Application.operator c.in-Application.arguments c.as_slice.result.now v
            c.as_slice.ensures (c.children_belong.ensures x c.requires.term),
        c.requires.encodings,
      ),
    )

pub write-returns-in_ok-keep-in-Application-clause-encodings
    : goal.write-returns-in_ok-keep-in-Application-clause-encodings
write-returns-in_ok-keep-in-Application-clause-encodings t c h =
    let x : Numbered = c.args.term.now in
    let v : view_shared (number_of x) (size_of x)
    (Application c.in-Application.operator c.in-Application.arguments) ≡ x =
    subst (λ n. view_shared (number_of x) (size_of x) n ≡ x) c.in-Application.is c.node.ensures in
    kept_encodings c.args.builder.now _ _ x _ c.in_ok-keep-in-Application.ensures.ok
    (code_of_application c.args.builder.now x _ _ c.in-Application.operator c.in-Application.arguments c.symbol.result
    c.in_ok-arguments-in-Application.arguments _ v c.app-coded.ensures c.symbol.ensures
    (subst (λ ys. AreCodesOf c.args.builder.now.boxes c.args.builder.now.theory.operators (forest_of (map term_of ys))
    (coded_forest_of c.in_ok-arguments-in-Application.arguments)) c.as_slice.ensures
    (c.in_ok-arguments-in-Application.ensures.written h)))
    (c.write_all.ensures.encodings h)

pub write_all-loop-term-preserved : goal.write_all-loop-term-preserved
write_all-loop-term-preserved t c = record {
  belong = c.write.ensures.belong;
  encodings = λ h. c.write.ensures.encodings (c.loop-term.invariant.encodings h);
  written = λ h.
      codes_more c.args.builder.now c.args.terms.now _ _ _ _ _ c.loop-term-test.true c.term-item.is
      c.in_ok-push.ensures.items (c.loop-term.invariant.written h)
      (c.in_ok-coded.ensures.written (c.loop-term.invariant.encodings h));
}
