use Rattle.std.proofs.Common.{ℕ, List, [], ◌∷◌, ◌++◌, Some, length, map, refl, sym, ◌∙◌, ap, subst}
use Rattle.std.specs.Prelude.{Contains, IfSome}
use Rattle.std.specs.Map.{keys_of}
use Rattle.larch_store.specs.Layers.{shared_in}
use Rattle.larch_store.specs.Numbered.{Numbered, branch, number_of, several, term_of}
use Rattle.larch_store.specs.SharedView.{view_shared}
use Rattle.larch_store.specs.Stored.{Belongs}
use Rattle.larch_store.specs.declared.key.Key.{Key}
use Rattle.larch_store.specs.declared.key.Key.TheVariants.{App}
use Rattle.larch_store.specs.declared.shared.SharedNode.TheVariants.{Application}
use Rattle.larch_store.proofs.Layered.{found_under, in_place, keys_put, shared_put}
use Rattle.larch_store.proofs.Standing.{found_belongs, found_application, application_store, branch_term}
use Rattle.larch_store.proofs.Standing.{pushed_belongs, pushed_grows}
use Rattle.larch_store.proofs.keeping.keep_application.Goals as goal

pub returns-in-Some-clause-term : goal.returns-in-Some-clause-term
returns-in-Some-clause-term c =
    let e = c.args.entries.now in
    let f : Contains e (c.in_ok-key.key, c.in-Some.found) =
    subst (λ o. IfSome o (λ y. Contains e (c.in_ok-key.key, y))) c.in-Some.is c.in-Ok.ensures.found in
    let w = found_under e c.in_ok-key.key c.in-Some.found f in
    rw c.let_go-in-Some.ensures
    (found_application (keys_of e) (shared_in e) w.0 c.in-Some.found c.args.operator.now c.args.arguments.now
    c.requires.store c.requires.arguments (w.1 ∙ ap Some c.in_ok-key.ensures) w.2)

pub returns-in-Some-clause-belongs : goal.returns-in-Some-clause-belongs
returns-in-Some-clause-belongs c =
    let e = c.args.entries.now in
    let f : Contains e (c.in_ok-key.key, c.in-Some.found) =
    subst (λ o. IfSome o (λ y. Contains e (c.in_ok-key.key, y))) c.in-Some.is c.in-Ok.ensures.found in
    let w = found_under e c.in_ok-key.key c.in-Some.found f in
    rw c.let_go-in-Some.ensures (found_belongs (keys_of e) (shared_in e) w.0 c.in-Some.found c.requires.store w.2)

pub returns-clause-store : goal.returns-clause-store
returns-clause-store c =
    let e = c.args.entries.now in
    application_store (keys_of e) (keys_of c.put_application.new.entries) (shared_in e)
    (shared_in c.put_application.new.entries) c.args.size c.args.operator.now c.args.arguments.now c.requires.store
    c.requires.arguments c.requires.size c.requires.small
    (keys_put e c.put_application.new.entries c.in_ok-key.key
    (App c.args.operator.now (map number_of c.args.arguments.now))
    (view_shared (length e) c.args.size (Application c.args.operator.now c.args.arguments.now))
    c.in_ok-new.ensures.entries c.in_ok-key.ensures)
    (shared_put e c.put_application.new.entries c.in_ok-key.key
    (λ k. branch k c.args.size c.args.operator.now (several c.args.arguments.now)) c.in_ok-new.ensures.entries)

pub returns-clause-term : goal.returns-clause-term
returns-clause-term c =
    ap term_of c.in_ok-new.ensures.result
    ∙ branch_term (length c.args.entries.now) c.args.size c.args.operator.now c.args.arguments.now

pub returns-clause-belongs : goal.returns-clause-belongs
returns-clause-belongs c =
    let e = c.args.entries.now in
    let x : ℕ → Numbered = λ k. branch k c.args.size c.args.operator.now (several c.args.arguments.now) in
    subst (Belongs (shared_in c.put_application.new.entries))
    (sym (in_place e x c.in_ok-new.new c.in_ok-new.ensures.result))
    (pushed_belongs (shared_in e) (shared_in c.put_application.new.entries) (x (length (shared_in e)))
    (shared_put e c.put_application.new.entries c.in_ok-key.key x c.in_ok-new.ensures.entries) refl)

pub returns-clause-grows : goal.returns-clause-grows
returns-clause-grows c =
    let e = c.args.entries.now in
    let x : ℕ → Numbered = λ k. branch k c.args.size c.args.operator.now (several c.args.arguments.now) in
    pushed_grows (shared_in e) (shared_in c.put_application.new.entries) (x (length (shared_in e)))
    (shared_put e c.put_application.new.entries c.in_ok-key.key x c.in_ok-new.ensures.entries)
