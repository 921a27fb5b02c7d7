use Rattle.std.proofs.Common.{ℕ, List, [], ◌∷◌, ◌++◌, Some, length, refl, sym, ◌∙◌, ap, subst}
use Rattle.std.specs.Prelude.{Contains, IfSome}
use Rattle.std.specs.Map.{keys_of}
use Rattle.larch_store.specs.Layers.{shared_in}
use Rattle.larch_store.specs.Numbered.{Numbered, leaf}
use Rattle.larch_store.specs.SharedView.{view_shared}
use Rattle.larch_store.specs.declared.key.Key.{Key}
use Rattle.larch_store.specs.declared.key.Key.TheVariants.{Var}
use Rattle.larch_store.specs.declared.shared.SharedNode.TheVariants.{Variable}
use Rattle.larch_store.proofs.Layered.{found_under, in_place, keys_put, shared_put}
use Rattle.larch_store.specs.Stored.{Belongs}
use Rattle.larch_store.proofs.Standing.{found_belongs, found_variable, variable_store, pushed_belongs, pushed_grows}
use Rattle.larch_store.proofs.keeping.keep_variable.Goals as goal

pub returns-in-Some-clause-term : goal.returns-in-Some-clause-term
returns-in-Some-clause-term c =
    let e = c.args.entries.now in
    let f : Contains e (c.in_ok-key.key, c.in-Some.found) =
    subst (λ o. IfSome o (λ y. Contains e (c.in_ok-key.key, y))) c.in-Some.is c.in-Ok.ensures.found in
    let w = found_under e c.in_ok-key.key c.in-Some.found f in
    rw c.let_go-in-Some.ensures
    (found_variable (keys_of e) (shared_in e) w.0 c.in-Some.found c.args.name.now c.args.sort.now c.requires
    (w.1 ∙ ap Some c.in_ok-key.ensures) w.2)

pub returns-in-Some-clause-belongs : goal.returns-in-Some-clause-belongs
returns-in-Some-clause-belongs c =
    let e = c.args.entries.now in
    let f : Contains e (c.in_ok-key.key, c.in-Some.found) =
    subst (λ o. IfSome o (λ y. Contains e (c.in_ok-key.key, y))) c.in-Some.is c.in-Ok.ensures.found in
    let w = found_under e c.in_ok-key.key c.in-Some.found f in
    rw c.let_go-in-Some.ensures (found_belongs (keys_of e) (shared_in e) w.0 c.in-Some.found c.requires w.2)

pub returns-clause-store : goal.returns-clause-store
returns-clause-store c =
    let e = c.args.entries.now in
    variable_store (keys_of e) (keys_of c.put_variable.new.entries) (shared_in e) (shared_in c.put_variable.new.entries)
    c.args.name.now c.args.sort.now c.requires
    (keys_put e c.put_variable.new.entries c.in_ok-key.key (Var c.args.name.now c.args.sort.now)
    (view_shared (length e) 1 (Variable c.args.name.now c.args.sort.now)) c.in_ok-new.ensures.entries
    c.in_ok-key.ensures)
    (shared_put e c.put_variable.new.entries c.in_ok-key.key (λ k. leaf k 1 c.args.name.now c.args.sort.now)
    c.in_ok-new.ensures.entries)

pub returns-clause-belongs : goal.returns-clause-belongs
returns-clause-belongs c =
    let e = c.args.entries.now in
    let x : ℕ → Numbered = λ k. leaf k 1 c.args.name.now c.args.sort.now in
    subst (Belongs (shared_in c.put_variable.new.entries)) (sym
    (in_place e x c.in_ok-new.new c.in_ok-new.ensures.result))
    (pushed_belongs (shared_in e) (shared_in c.put_variable.new.entries) (x (length (shared_in e)))
    (shared_put e c.put_variable.new.entries c.in_ok-key.key x c.in_ok-new.ensures.entries) refl)

pub returns-clause-grows : goal.returns-clause-grows
returns-clause-grows c =
    let e = c.args.entries.now in
    let x : ℕ → Numbered = λ k. leaf k 1 c.args.name.now c.args.sort.now in
    pushed_grows (shared_in e) (shared_in c.put_variable.new.entries) (x (length (shared_in e)))
    (shared_put e c.put_variable.new.entries c.in_ok-key.key x c.in_ok-new.ensures.entries)
