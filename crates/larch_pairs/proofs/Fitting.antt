-- Unifiers of well sorted terms keep sorts.
use Rattle.std.proofs.Common.{◌≡◌, ℕ, ◌==◌, ◌&&◌, cond, Bool, true, false, List, [], ◌∷◌, length, Some, Ok, All, refl}
use Rattle.std.proofs.Common.{sym, ◌∙◌, ap}
use Rattle.std.proofs.lemmas.List.Elements.{All-nil, All-cons, All-head, All-tail, All-append}
use Rattle.larch_base.proofs.Bools.{and_left}
use Rattle.larch_term.proofs.Decided.{operator_Decides}
use Rattle.larch_term.specs.Equality.{same_operator}
use Rattle.larch_term.specs.Operator.{PlainOperator}
use Rattle.larch_term.specs.Sorts.{sort_of, sorts_of, AllWellSorted, WellSorted}
use Rattle.larch_term.specs.Substitution.{instance_of, Fits}
use Rattle.larch_term.specs.Tree.{Tree, Forest, var, app, none, more, list_of}
use Rattle.larch_term.specs.Variable.{same_variable}
use Rattle.larch_term.specs.declared.substitution.Entry.{Entry}
use Rattle.larch_term.specs.declared.variable.Variable.{Variable}
use Rattle.larch_term_law.proofs.Substitutions.{substituted_sort, substituted_well_sorted}
use Rattle.larch_pairs.proofs.Solving.{Steps, at_end}
use Rattle.larch_pairs.proofs.Unifying.{unify_is}
use Rattle.larch_pairs.specs.Demand.{demand, demand_all, first_demand, occurs, or_next, pairs_of}
use Rattle.larch_pairs.specs.Unify.{entries_under, entry, sides_under, unify, variables_of_both}
use Rattle.larch_pairs.specs.declared.demand.Demand.{Demand}
use Rattle.larch_pairs.specs.declared.demand.Demand.TheVariants.{Nothing, Bind, Clash}
use Rattle.larch_pairs.specs.declared.demand.Sides.{Sides}

-- both sides are well sorted and of one sort
abbrev SidesFit : Sides → Type 0
SidesFit e = WellSorted e.left × WellSorted e.right × (sort_of e.left ≡ sort_of e.right)

abbrev EntryFits : Entry → Type 0
EntryFits e = WellSorted e.term × (sort_of e.term ≡ e.sort)

-- what is bound fits its variable, and what is left fits
abbrev DemandFits : Demand → Type 0
DemandFits Nothing = Unit {0}
DemandFits (Bind v t es) = WellSorted t × (sort_of t ≡ v.sort) × All SidesFit es
DemandFits Clash = Unit {0}

next_fits : (d : Demand) (rest : List Sides) (next : Demand) → DemandFits d → All SidesFit rest → DemandFits next
    → DemandFits (or_next d rest next)
next_fits Nothing rest next a b c = c
next_fits (Bind v t es) rest next (i, j, k) b c = (i, j, All-append SidesFit es rest k b)
next_fits Clash rest next a b c = tt

binding_fits : (v : Variable) (t : Tree) (b : Bool) → WellSorted t → sort_of t ≡ v.sort
    → DemandFits (cond b Clash (Bind v t []))
binding_fits v t true w e = tt
binding_fits v t false w e = (w, e, All-nil SidesFit)

variables_fit : (v w : Variable) (b : Bool) → w.sort ≡ v.sort
    → DemandFits (cond b Nothing (Bind v (var w.name w.sort) []))
variables_fit v w true e = tt
variables_fit v w false e = (tt, e, All-nil SidesFit)

chosen_fits : (b : Bool) (d : Demand) → (b ≡ true → DemandFits d) → DemandFits (cond b d Clash)
chosen_fits true d h = h refl
chosen_fits false d h = tt

first_of : (s z : List ℕ) (ss zs : List (List ℕ)) → s ∷ ss ≡ z ∷ zs → s ≡ z
first_of s z ss zs e = cc

others_of : (s z : List ℕ) (ss zs : List (List ℕ)) → s ∷ ss ≡ z ∷ zs → ss ≡ zs
others_of s z ss zs e = cc

paired_fit : (ts us : Forest) → AllWellSorted ts → AllWellSorted us → sorts_of ts ≡ sorts_of us
    → All SidesFit (pairs_of ts us)
paired_fit none us a b e = All-nil SidesFit
paired_fit (more t ts) none a b e = All-nil SidesFit
paired_fit (more t ts) (more u us) a b e =
    All-cons SidesFit (record { left = t; right = u }) (pairs_of ts us)
    (a.0, b.0, first_of (sort_of t) (sort_of u) (sorts_of ts) (sorts_of us) e)
    (paired_fit ts us a.1 b.1 (others_of (sort_of t) (sort_of u) (sorts_of ts) (sorts_of us) e))

mutual
  demand_fits : (t u : Tree) → WellSorted t → WellSorted u → sort_of t ≡ sort_of u → DemandFits (demand t u)
  demand_fits (var n s) (var m r) a b e =
      variables_fit (record { name = n; sort = s }) (record { name = m; sort = r })
      (same_variable (record { name = n; sort = s }) (record { name = m; sort = r })) (sym e)
  demand_fits (var n s) (app g us) a b e =
      binding_fits (record { name = n; sort = s }) (app g us)
      (occurs (record { name = n; sort = s }) (app g us)) b (sym e)
  demand_fits (app f ts) (var m r) a b e =
      binding_fits (record { name = m; sort = r }) (app f ts) (occurs (record { name = m; sort = r }) (app f ts)) a e
  demand_fits (app f ts) (app g us) a b e =
      chosen_fits (same_operator f g && length (list_of ts) == length (list_of us)) (demand_all ts us)
      (λ h. arguments_fit ts us a.1 b.1
      (a.0 ∙ ap (λ (o : PlainOperator). o.domain)
      ((operator_Decides f g).0 (and_left (same_operator f g) (length (list_of ts) == length (list_of us)) h))
      ∙ sym b.0))

  arguments_fit : (ts us : Forest) → AllWellSorted ts → AllWellSorted us → sorts_of ts ≡ sorts_of us
      → DemandFits (demand_all ts us)
  arguments_fit none us a b e = tt
  arguments_fit (more t ts) none a b e = tt
  arguments_fit (more t ts) (more u us) a b e =
      let i = others_of (sort_of t) (sort_of u) (sorts_of ts) (sorts_of us) e in
      next_fits (demand t u) (pairs_of ts us) (demand_all ts us)
      (demand_fits t u a.0 b.0 (first_of (sort_of t) (sort_of u) (sorts_of ts) (sorts_of us) e))
      (paired_fit ts us a.1 b.1 i) (arguments_fit ts us a.1 b.1 i)

-- applications of one operator have one sort, and others clash
applications_fit : (f g : PlainOperator) (ts us : Forest) → WellSorted (app f ts) → WellSorted (app g us)
    → DemandFits (demand (app f ts) (app g us))
applications_fit f g ts us a b =
    chosen_fits (same_operator f g && length (list_of ts) == length (list_of us)) (demand_all ts us)
    (λ h. arguments_fit ts us a.1 b.1
    (a.0 ∙ ap (λ (o : PlainOperator). o.domain)
    ((operator_Decides f g).0 (and_left (same_operator f g) (length (list_of ts) == length (list_of us)) h))
    ∙ sym b.0))

first_fits : (es : List Sides) → All SidesFit es → DemandFits (first_demand es)
first_fits [] h = tt
first_fits (e ∷ es) h =
    let p = All-head SidesFit e es h in
    let q = All-tail SidesFit e es h in
    next_fits (demand e.left e.right) es (first_demand es) (demand_fits e.left e.right p.0 p.1 p.2) q (first_fits es q)

sides_fit : (os : List Entry) (es : List Sides) → Fits os → All SidesFit es → All SidesFit (sides_under os es)
sides_fit os [] k h = All-nil SidesFit
sides_fit os (e ∷ es) k h =
    let p = All-head SidesFit e es h in
    All-cons SidesFit (record { left = instance_of os e.left; right = instance_of os e.right }) (sides_under os es) (
      substituted_well_sorted os e.left k p.0,
      substituted_well_sorted os e.right k p.1,
      substituted_sort os e.left k ∙ p.2 ∙ sym (substituted_sort os e.right k),
    )
    (sides_fit os es k (All-tail SidesFit e es h))

-- entries under a substitution that keeps sorts
pub entries_fit : (os bs : List Entry) → Fits os → Fits bs → Fits (entries_under os bs)
entries_fit os [] k h = All-nil EntryFits
entries_fit os (b ∷ bs) k h =
    let p = All-head EntryFits b bs h in
    All-cons EntryFits (record { name = b.name; sort = b.sort; term = instance_of os b.term }) (entries_under os bs)
    (substituted_well_sorted os b.term k p.0, substituted_sort os b.term k ∙ p.1)
    (entries_fit os bs k (All-tail EntryFits b bs h))

abbrev IsFit : Demand → List Entry → Type 0
IsFit d bs = DemandFits d × Fits bs

fit_step : Steps IsFit
fit_step v t es bs ((w, e, h), k) =
    let os : List Entry = entry v t ∷ [] in
    let o : Fits os = All-cons EntryFits (entry v t) [] (w, e) (All-nil EntryFits) in (
      first_fits (sides_under os es) (sides_fit os es o h),
      All-append EntryFits (entries_under os bs) os (entries_fit os bs o k) o,
    )

by_demand : (t u : Tree) (r : List Entry) → DemandFits (demand t u) → unify t u ≡ Ok (Some r) → Fits r
by_demand t u r h e =
    (at_end IsFit fit_step (length (variables_of_both t u)) (demand t u) [] r (h, All-nil EntryFits)
    (sym (unify_is t u) ∙ e)).1

pub unifier_fits : (t u : Tree) (r : List Entry) → WellSorted t → WellSorted u → sort_of t ≡ sort_of u
    → unify t u ≡ Ok (Some r) → Fits r
unifier_fits t u r a b s e = by_demand t u r (demand_fits t u a b s) e

pub application_unifier_fits : (f g : PlainOperator) (ts us : Forest) (r : List Entry) → WellSorted (app f ts)
    → WellSorted (app g us)
    → unify (app f ts) (app g us) ≡ Ok (Some r) → Fits r
application_unifier_fits f g ts us r a b e = by_demand (app f ts) (app g us) r (applications_fit f g ts us a b) e
