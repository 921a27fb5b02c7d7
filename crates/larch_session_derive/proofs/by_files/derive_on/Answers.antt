-- A trait that isn't there, and one that is.
use Rattle.std.proofs.Common.{◌≡◌, ◌<◌, ◌≤◌, ap, arith, subst, sym, ◌∙◌}
use Rattle.larch_session_derive.proofs.Derived.{if_ok_so, none_absent, steps_within}
use Rattle.larch_session_derive.proofs.by_files.derive_on.Goals as goal
use Rattle.larch_session_derive_meaning.specs.Derived.{Derives}

pub derive_at-requires-clause-read : goal.derive_at-requires-clause-read
derive_at-requires-clause-read g c =
    record {
      read = c.in_ok-sources.ensures;
      known = c.in_ok-flat_traits.ensures.0;
      all = c.in_ok-flat_traits.ensures.1;
    }

pub returns-in_default-clause-derived : goal.returns-in_default-clause-derived
returns-in_default-clause-derived g c =
    none_absent c.args.limit c.args.files.now c.args.stem.now c.args.label c.in_ok-sources.sources c.number_of.result
    c.in_ok-sources.ensures c.number_of.ensures.there c.in_default.is

pub returns-clause-derived : goal.returns-clause-derived
returns-clause-derived g c =
    if_ok_so c.derive_at.result
    (λ answer h. subst (λ stem. Derives c.args.limit c.args.files.now stem c.args.label answer.0)
    c.in-Some.ensures.name h)
    c.derive_at.ensures.derived

pub returns-clause-most : goal.returns-clause-most
returns-clause-most g c =
    let most = c.derive_at.ensures.most in
    let few = steps_within c.args.limit c.args.files.now c.in_ok-sources.sources c.in-Some.number
    c.in-Some.ensures.within c.in_ok-sources.ensures in
    omega (arith, most, few)
