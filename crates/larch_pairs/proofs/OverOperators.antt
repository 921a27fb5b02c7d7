-- Unifiers of terms over operators are over them.
use Rattle.std.specs.Prelude.{◌≡◌, ◌==◌, ◌&&◌, cond, Bool, true, false, List, [], ◌∷◌, length, Some, Ok, All}
use Rattle.std.proofs.Common.{sym, ◌∙◌}
use Rattle.std.proofs.lemmas.List.Elements.{All-nil, All-cons, All-head, All-tail, All-append}
use Rattle.larch_term.specs.Equality.{same_operator}
use Rattle.larch_term.specs.Operator.{PlainOperator}
use Rattle.larch_term.specs.Sorts.{IsOver, AllOver}
use Rattle.larch_term.specs.Substitution.{instance_of}
use Rattle.larch_term.specs.Tree.{Tree, Forest, var, app, none, more, list_of}
use Rattle.larch_term.specs.Variable.{same_variable}
use Rattle.larch_term.specs.declared.substitution.Entry.{Entry}
use Rattle.larch_term.specs.declared.variable.Variable.{Variable}
use Rattle.larch_term_law.proofs.Substitutions.{substituted_over}
use Rattle.larch_pairs.proofs.Solving.{Steps, at_end}
use Rattle.larch_pairs.proofs.Unifying.{unify_is}
use Rattle.larch_pairs.specs.Demand.{demand, demand_all, first_demand, occurs, or_next, pairs_of}
use Rattle.larch_pairs.specs.Unify.{entries_under, entry, sides_under, unify, variables_of_both}
use Rattle.larch_pairs.specs.declared.demand.Demand.{Demand}
use Rattle.larch_pairs.specs.declared.demand.Demand.TheVariants.{Nothing, Bind, Clash}
use Rattle.larch_pairs.specs.declared.demand.Sides.{Sides}

-- both sides are over operators, and so is each term of a substitution
abbrev BothOver : List PlainOperator → Sides → Type 0
BothOver fs e = IsOver fs e.left × IsOver fs e.right

abbrev EntryOver : List PlainOperator → Entry → Type 0
EntryOver fs e = IsOver fs e.term

-- what is bound is over operators, and so is what is left
abbrev DemandOver : List PlainOperator → Demand → Type 0
DemandOver fs Nothing = Unit {0}
DemandOver fs (Bind v t es) = IsOver fs t × All (BothOver fs) es
DemandOver fs Clash = Unit {0}

next_over : (fs : List PlainOperator) (d : Demand) (rest : List Sides) (next : Demand) → DemandOver fs d
    → All (BothOver fs) rest → DemandOver fs next → DemandOver fs (or_next d rest next)
next_over fs Nothing rest next a b c = c
next_over fs (Bind v t es) rest next (i, k) b c = (i, All-append (BothOver fs) es rest k b)
next_over fs Clash rest next a b c = tt

binding_over : (fs : List PlainOperator) (v : Variable) (t : Tree) (b : Bool) → IsOver fs t
    → DemandOver fs (cond b Clash (Bind v t []))
binding_over fs v t true w = tt
binding_over fs v t false w = (w, All-nil (BothOver fs))

variables_over : (fs : List PlainOperator) (v w : Variable) (b : Bool)
    → DemandOver fs (cond b Nothing (Bind v (var w.name w.sort) []))
variables_over fs v w true = tt
variables_over fs v w false = (tt, All-nil (BothOver fs))

chosen_over : (fs : List PlainOperator) (b : Bool) (d : Demand) → DemandOver fs d → DemandOver fs (cond b d Clash)
chosen_over fs true d h = h
chosen_over fs false d h = tt

paired_over : (fs : List PlainOperator) (ts us : Forest) → AllOver fs ts → AllOver fs us
    → All (BothOver fs) (pairs_of ts us)
paired_over fs none us a b = All-nil (BothOver fs)
paired_over fs (more t ts) none a b = All-nil (BothOver fs)
paired_over fs (more t ts) (more u us) a b =
    All-cons (BothOver fs) (record { left = t; right = u }) (pairs_of ts us) (a.0, b.0) (paired_over fs ts us a.1 b.1)

mutual
  demand_over : (fs : List PlainOperator) (t u : Tree) → IsOver fs t → IsOver fs u → DemandOver fs (demand t u)
  demand_over fs (var n s) (var m r) a b =
      variables_over fs (record { name = n; sort = s }) (record { name = m; sort = r })
      (same_variable (record { name = n; sort = s }) (record { name = m; sort = r }))
  demand_over fs (var n s) (app g us) a b =
      binding_over fs (record { name = n; sort = s }) (app g us) (occurs (record { name = n; sort = s }) (app g us)) b
  demand_over fs (app f ts) (var m r) a b =
      binding_over fs (record { name = m; sort = r }) (app f ts) (occurs (record { name = m; sort = r }) (app f ts)) a
  demand_over fs (app f ts) (app g us) a b =
      chosen_over fs (same_operator f g && length (list_of ts) == length (list_of us)) (demand_all ts us)
      (arguments_over fs ts us a.1 b.1)

  arguments_over : (fs : List PlainOperator) (ts us : Forest) → AllOver fs ts → AllOver fs us
      → DemandOver fs (demand_all ts us)
  arguments_over fs none us a b = tt
  arguments_over fs (more t ts) none a b = tt
  arguments_over fs (more t ts) (more u us) a b =
      next_over fs (demand t u) (pairs_of ts us) (demand_all ts us) (demand_over fs t u a.0 b.0)
      (paired_over fs ts us a.1 b.1) (arguments_over fs ts us a.1 b.1)

first_over : (fs : List PlainOperator) (es : List Sides) → All (BothOver fs) es → DemandOver fs (first_demand es)
first_over fs [] h = tt
first_over fs (e ∷ es) h =
    let p = All-head (BothOver fs) e es h in
    let q = All-tail (BothOver fs) e es h in
    next_over fs (demand e.left e.right) es (first_demand es) (demand_over fs e.left e.right p.0 p.1) q
    (first_over fs es q)

sides_over : (fs : List PlainOperator) (os : List Entry) (es : List Sides) → All (EntryOver fs) os
    → All (BothOver fs) es → All (BothOver fs) (sides_under os es)
sides_over fs os [] k h = All-nil (BothOver fs)
sides_over fs os (e ∷ es) k h =
    let p = All-head (BothOver fs) e es h in
    All-cons (BothOver fs) (record { left = instance_of os e.left; right = instance_of os e.right }) (sides_under os es)
    (substituted_over fs os e.left k p.0, substituted_over fs os e.right k p.1)
    (sides_over fs os es k (All-tail (BothOver fs) e es h))

entries_over : (fs : List PlainOperator) (os bs : List Entry) → All (EntryOver fs) os → All (EntryOver fs) bs
    → All (EntryOver fs) (entries_under os bs)
entries_over fs os [] k h = All-nil (EntryOver fs)
entries_over fs os (b ∷ bs) k h =
    All-cons (EntryOver fs) (record { name = b.name; sort = b.sort; term = instance_of os b.term })
    (entries_under os bs)
    (substituted_over fs os b.term k (All-head (EntryOver fs) b bs h))
    (entries_over fs os bs k (All-tail (EntryOver fs) b bs h))

abbrev StaysOver : List PlainOperator → Demand → List Entry → Type 0
StaysOver fs d bs = DemandOver fs d × All (EntryOver fs) bs

over_step : (fs : List PlainOperator) → Steps (StaysOver fs)
over_step fs v t es bs ((w, h), k) =
    let os : List Entry = entry v t ∷ [] in
    let o = All-cons (EntryOver fs) (entry v t) [] w (All-nil (EntryOver fs)) in (
      first_over fs (sides_under os es) (sides_over fs os es o h),
      All-append (EntryOver fs) (entries_under os bs) os (entries_over fs os bs o k) o,
    )

-- a unifier of terms over operators is over them
pub unifier_over : (fs : List PlainOperator) (t u : Tree) (r : List Entry) → IsOver fs t → IsOver fs u
    → unify t u ≡ Ok (Some r) → All (EntryOver fs) r
unifier_over fs t u r a b e =
    (at_end (StaysOver fs) (over_step fs) (length (variables_of_both t u)) (demand t u) [] r
    (demand_over fs t u a b, All-nil (EntryOver fs)) (sym (unify_is t u) ∙ e)).1
