-- What a demand means: it is met by exactly the substitutions that make the sides of its equations one.
use Rattle.std.proofs.Common.{◌≡◌, ◌↔◌, suc, ◌==◌, ◌&&◌, ◌||◌, ◌≤◌, inl, inr, cond, Bool, true, false, List, [], ◌∷◌}
use Rattle.std.proofs.Common.{◌++◌, length, All, arith, refl, sym, ◌∙◌, ap, ap₂}
use Rattle.std.specs.Bool.{Decides}
use Rattle.std.specs.List.{list_any}
use Rattle.std.proofs.lemmas.Bool.Decides.{Decides-and, Decides-eqb}
use Rattle.std.proofs.lemmas.List.Elements.{All-nil, All-cons, All-head, All-tail, All-append}
use Rattle.std.proofs.lemmas.List.Folds.{list_any-append}
use Rattle.larch_base.proofs.Bools.{true_or_false}
use Rattle.larch_term.proofs.Decided.{operator_Decides}
use Rattle.larch_term.specs.Equality.{same_operator}
use Rattle.larch_term.specs.Operator.{PlainOperator}
use Rattle.larch_term.specs.Substitution.{image, instance_of, substituted_all}
use Rattle.larch_term.specs.Tree.{Tree, Forest, var, app, none, more, nodes, nodes_all, list_of}
use Rattle.larch_term.specs.Variable.{occurrences_in, same_variable}
use Rattle.larch_term.specs.declared.substitution.Entry.{Entry}
use Rattle.larch_term.specs.declared.variable.Variable.{Variable}
use Rattle.larch_term_law.proofs.Occurring.{variable_Decides}
use Rattle.larch_pairs.specs.Demand.{demand, demand_all, first_demand, occurs, or_next, pairs_of}
use Rattle.larch_pairs.specs.declared.demand.Demand.{Demand}
use Rattle.larch_pairs.specs.declared.demand.Demand.TheVariants.{Nothing, Bind, Clash}
use Rattle.larch_pairs.specs.declared.demand.Sides.{Sides}

-- a substitution makes both sides one
abbrev pub Unifies : List Entry → Tree → Tree → Type 0
Unifies es t u = instance_of es t ≡ instance_of es u

abbrev pub Solves : List Entry → List Sides → Type 0
Solves es = All (λ e. Unifies es e.left e.right)

-- a substitution meets a demand
abbrev pub Meets : List Entry → Demand → Type 0
Meets es Nothing = Unit {0}
Meets es (Bind v t rest) = (image es v.name v.sort ≡ instance_of es t) × Solves es rest
Meets es Clash = ⊥

front : {X : Type 0} (P : X → Type 0) (xs ys : List X) → All P (xs ++ ys) → All P xs
front P [] ys h = All-nil P
front P (x ∷ xs) ys h = All-cons P x xs (All-head P x (xs ++ ys) h) (front P xs ys (All-tail P x (xs ++ ys) h))

back : {X : Type 0} (P : X → Type 0) (xs ys : List X) → All P (xs ++ ys) → All P ys
back P [] ys h = h
back P (x ∷ xs) ys h = back P xs ys (All-tail P x (xs ++ ys) h)

-- what is asked of an equation and of those behind it
next_met : (es : List Entry) (d : Demand) (rest : List Sides) (next : Demand) → (Solves es rest ↔ Meets es next)
    → (Meets es d × Solves es rest) ↔ Meets es (or_next d rest next)
next_met es Nothing rest next h = (λ p. h.0 p.1, λ m. (tt, h.1 m))
next_met es (Bind v t ds) rest next h = (
  λ p. (p.0.0, All-append (λ e. Unifies es e.left e.right) ds rest p.0.1 p.1),
  λ m. ((m.0, front (λ e. Unifies es e.left e.right) ds rest m.1), back (λ e. Unifies es e.left e.right) ds rest m.1),
)
next_met es Clash rest next h = (λ p. p.0, λ m. (m, absurd m))

only_here : (b : Bool) → (b || false) ≡ true → b ≡ true
only_here true h = refl
only_here false h = h

mutual
  -- a term has no fewer nodes than what takes the place of a variable in it
  grown : (es : List Entry) (v : Variable) (t : Tree) → occurs v t ≡ true
      → nodes (image es v.name v.sort) ≤ nodes (instance_of es t)
  grown es v (var m r) h =
      let i = (variable_Decides v (record { name = m; sort = r })).0
      (only_here (same_variable v (record { name = m; sort = r })) h) in
      let j = ap (λ w. nodes (image es w.name w.sort)) i in
      omega (arith, j)
  grown es v (app g us) h = let i = grown_in es v us h in omega arith

  grown_in : (es : List Entry) (v : Variable) (ts : Forest) → list_any (same_variable v) (occurrences_in ts) ≡ true
      → nodes (image es v.name v.sort) ≤ nodes_all (substituted_all es ts)
  grown_in es v none h = cc
  grown_in es v (more t ts) h =
      elim (true_or_false (occurs v t)) [
        | inl a ↦ let i = grown es v t a in omega arith
        | inr b ↦ let c : list_any (same_variable v) (occurrences_in ts) ≡ true = rw (list_any-append, b) at h in
            let i = grown_in es v ts c in omega arith
      ]

-- a variable never becomes what an application in which it occurs becomes
never_within : (es : List Entry) (v : Variable) (f : PlainOperator) (ts : Forest) → occurs v (app f ts) ≡ true
    → image es v.name v.sort ≡ instance_of es (app f ts) → ⊥
never_within es v f ts h e = let i = grown_in es v ts h in let j = ap nodes e in absurd (omega (arith, i, j))

binding_met : (es : List Entry) (v : Variable) (f : PlainOperator) (ts : Forest) (b : Bool) → occurs v (app f ts) ≡ b
    → (image es v.name v.sort ≡ instance_of es (app f ts)) ↔ Meets es (cond b Clash (Bind v (app f ts) []))
binding_met es v f ts true e = (λ h. never_within es v f ts e h, λ m. absurd m)
binding_met es v f ts false e = (λ h. (h, All-nil (λ d. Unifies es d.left d.right)), λ m. m.0)

variables_met : (es : List Entry) (v w : Variable) (b : Bool) → same_variable v w ≡ b
    → (image es v.name v.sort ≡ image es w.name w.sort) ↔ Meets es (cond b Nothing (Bind v (var w.name w.sort) []))
variables_met es v w true e =
    let i = (variable_Decides v w).0 e in (λ h. tt, λ m j. image es (i j).name (i j).sort)
variables_met es v w false e = (λ h. (h, All-nil (λ d. Unifies es d.left d.right)), λ m. m.0)

same_length : (es : List Entry) (ts us : Forest) → substituted_all es ts ≡ substituted_all es us
    → length (list_of ts) ≡ length (list_of us)
same_length es none none e = refl
same_length es none (more u us) e = cc
same_length es (more t ts) none e = cc
same_length es (more t ts) (more u us) e = let i : substituted_all es ts ≡ substituted_all es us = cc in
    ap suc (same_length es ts us i)

paired_solved : (es : List Entry) (ts us : Forest) → length (list_of ts) ≡ length (list_of us)
    → (substituted_all es ts ≡ substituted_all es us) ↔ Solves es (pairs_of ts us)
paired_solved es none none n = (λ e. All-nil (λ d. Unifies es d.left d.right), λ h. refl)
paired_solved es none (more u us) n = absurd (omega (arith, n))
paired_solved es (more t ts) none n = absurd (omega (arith, n))
paired_solved es (more t ts) (more u us) n =
    let m : length (list_of ts) ≡ length (list_of us) = omega (arith, n) in
    let r = paired_solved es ts us m in (
      λ e. let i : instance_of es t ≡ instance_of es u = cc in
          let j : substituted_all es ts ≡ substituted_all es us = cc in
          All-cons (λ d. Unifies es d.left d.right) (record { left = t; right = u }) (pairs_of ts us) i (r.0 j),
      λ h. let i = All-head (λ d. Unifies es d.left d.right) (record { left = t; right = u }) (pairs_of ts us) h in
          let j = r.1 (All-tail (λ d. Unifies es d.left d.right) (record { left = t; right = u }) (pairs_of ts us) h) in
          λ k. more (i k) (j k),
    )

both : {A B C : Type 0} → A ↔ B → B ↔ C → A ↔ C
both f g = (λ a. g.0 (f.0 a), λ c. f.1 (g.1 c))

turned : {A B : Type 0} → A ↔ B → B ↔ A
turned f = (f.1, f.0)

flipped : {X : Type 0} {x y : X} {B : Type 0} → (x ≡ y) ↔ B → (y ≡ x) ↔ B
flipped f = (λ e. f.0 (sym e), λ b. sym (f.1 b))

told_alike : (f g : PlainOperator) (ts us : Forest)
    → Decides (same_operator f g && length (list_of ts) == length (list_of us))
    ((f ≡ g) × (length (list_of ts) ≡ length (list_of us)))
told_alike f g ts us =
    Decides-and (same_operator f g) (length (list_of ts) == length (list_of us)) (operator_Decides f g)
    (Decides-eqb (length (list_of ts)) (length (list_of us)))

applications_met : (es : List Entry) (f g : PlainOperator) (ts us : Forest) (b : Bool)
    → (same_operator f g && length (list_of ts) == length (list_of us)) ≡ b
    → (length (list_of ts) ≡ length (list_of us)
    → (substituted_all es ts ≡ substituted_all es us) ↔ Meets es (demand_all ts us))
    → (app f (substituted_all es ts) ≡ app g (substituted_all es us)) ↔ Meets es (cond b (demand_all ts us) Clash)
applications_met es f g ts us true e h =
    let p = (told_alike f g ts us).0 e in
    (λ q. let i : substituted_all es ts ≡ substituted_all es us = cc in (h p.1).0 i, λ m. ap₂ app p.0 ((h p.1).1 m))
applications_met es f g ts us false e h = (
  λ q. let i : f ≡ g = cc in
      let j : substituted_all es ts ≡ substituted_all es us = cc in
      let k : (same_operator f g && length (list_of ts) == length (list_of us)) ≡ true =
      (told_alike f g ts us).1 (i, same_length es ts us j) in
      let x : true ≡ false = sym k ∙ e in
      cc,
  λ m. absurd m,
)

mutual
  -- a demand is met by exactly the substitutions that make both sides one
  pub demand_met : (es : List Entry) (t u : Tree) → Unifies es t u ↔ Meets es (demand t u)
  demand_met es (var n s) (var m r) =
      variables_met es (record { name = n; sort = s }) (record { name = m; sort = r })
      (same_variable (record { name = n; sort = s }) (record { name = m; sort = r })) refl
  demand_met es (var n s) (app g us) =
      binding_met es (record { name = n; sort = s }) g us (occurs (record { name = n; sort = s }) (app g us)) refl
  demand_met es (app f ts) (var m r) =
      flipped (binding_met es (record { name = m; sort = r }) f ts
      (occurs (record { name = m; sort = r }) (app f ts)) refl)
  demand_met es (app f ts) (app g us) =
      applications_met es f g ts us (same_operator f g && length (list_of ts) == length (list_of us)) refl
      (λ n. arguments_met es ts us n)

  arguments_met : (es : List Entry) (ts us : Forest) → length (list_of ts) ≡ length (list_of us)
      → (substituted_all es ts ≡ substituted_all es us) ↔ Meets es (demand_all ts us)
  arguments_met es none none n = (λ e. tt, λ m. refl)
  arguments_met es none (more u us) n = absurd (omega (arith, n))
  arguments_met es (more t ts) none n = absurd (omega (arith, n))
  arguments_met es (more t ts) (more u us) n =
      let m : length (list_of ts) ≡ length (list_of us) = omega (arith, n) in
      let first = demand_met es t u in
      let rest = paired_solved es ts us m in
      let next = next_met es (demand t u) (pairs_of ts us) (demand_all ts us)
      (both (turned rest) (arguments_met es ts us m)) in (
        λ e. let i : instance_of es t ≡ instance_of es u = cc in
            let j : substituted_all es ts ≡ substituted_all es us = cc in
            next.0 (first.0 i, rest.0 j),
        λ h. let p = next.1 h in
            let i = first.1 p.0 in
            let j = rest.1 p.1 in
            λ k. more (i k) (j k),
      )

-- the like for a list of equations
pub first_met : (es : List Entry) (ds : List Sides) → Solves es ds ↔ Meets es (first_demand ds)
first_met es [] = (λ h. tt, λ m. All-nil (λ d. Unifies es d.left d.right))
first_met es (d ∷ ds) =
    let first = demand_met es d.left d.right in
    let next = next_met es (demand d.left d.right) ds (first_demand ds) (first_met es ds) in (
      λ h. next.0 (
        first.0 (All-head (λ e. Unifies es e.left e.right) d ds h),
        All-tail (λ e. Unifies es e.left e.right) d ds h,
      ),
      λ m. let p = next.1 m in All-cons (λ e. Unifies es e.left e.right) d ds (first.1 p.0) p.1,
    )
