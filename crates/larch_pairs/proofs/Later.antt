-- Bindings that are put into those before them only at the end.
use Rattle.std.proofs.Common.{◌≡◌, ℕ, zero, suc, ◌+◌, ◌-◌, ◌<◌, ◌≤◌, ◌||◌, inl, inr, cond, Bool, true, false, List, []}
use Rattle.std.proofs.Common.{◌∷◌, ◌++◌, drop, get_or, length, take, IfSome, Option, Some, None, Result, Ok, Err, All}
use Rattle.std.proofs.Common.{arith, refl, sym, ◌∙◌, ap, ap₂}
use Rattle.std.specs.List.{list_any}
use Rattle.std.proofs.lemmas.List.Folds.{list_any-append}
use Rattle.std.proofs.lemmas.Bool.{lt-ltb, ltb-true}
use Rattle.std.proofs.lemmas.List.{get_or-take, take_rest}
use Rattle.larch_base.proofs.Bools.{true_or_false, or_left, or_right}
use Rattle.larch_base.specs.declared.limits.TheConstants.{MAX_TERM_NODES}
use Rattle.larch_term.specs.Substitution.{image, is_entry_of, instance_of, substituted_all}
use Rattle.larch_term.specs.Tree.{Tree, Forest, var, app, none, more, nodes, nodes_all}
use Rattle.larch_term.specs.Variable.{occurrences, occurrences_in, same_variable}
use Rattle.larch_term.specs.declared.substitution.Entry.{Entry}
use Rattle.larch_term.specs.declared.variable.Variable.{Variable}
use Rattle.larch_term_law.proofs.Substitutions.{substituted_composed, substituted_nil}
use Rattle.larch_pairs.proofs.Unifying.{from_bind, from_clash, from_nothing, from_zero}
use Rattle.larch_pairs.specs.Demand.{first_demand, occurs}
use Rattle.larch_pairs.specs.Refusal.{cause}
use Rattle.larch_pairs.specs.Resolved.{resolve}
use Rattle.larch_pairs.specs.Unify.{Oversize, a_term_is_too_large, entries_under, entry, extend, is_large, sides_under}
use Rattle.larch_pairs.specs.Unify.{some_large, unify_from, within}
use Rattle.larch_pairs.specs.declared.demand.Demand.{Demand}
use Rattle.larch_pairs.specs.declared.demand.Demand.TheVariants.{Nothing, Bind, Clash}
use Rattle.larch_pairs.specs.declared.demand.Sides.{Sides}
use Rattle.larch_pairs.specs.declared.refusal.PairRefusal.{PairRefusal}
use Rattle.larch_pairs.specs.declared.refusal.PairRefusal.TheVariants.{TooLarge, Memory}

-- whether a bound term has more than 5,000 nodes
abbrev pub any_large : List Entry → Bool
any_large bs = list_any (λ b. is_large b.term) bs

-- an answer, unless a bound term has more than 5,000 nodes
abbrev pub unless_large : List Entry → Result (Option (List Entry)) Oversize → Result (Option (List Entry)) Oversize
unless_large bs r = cond (any_large bs) (Err a_term_is_too_large) r

-- one binding more
pub resolved_push : (bs : List Entry) (v : Variable) (t : Tree)
    → resolve (bs ++ entry v t ∷ []) ≡ extend v t (resolve bs)
resolved_push [] v t = ap (λ u. entry v u ∷ []) (substituted_nil t)
resolved_push (b ∷ bs) v t =
    let r = resolved_push bs v t in
    let s = ap (λ es. instance_of es b.term) r ∙ substituted_composed (entry v t ∷ []) (resolve bs) b.term in
    λ i. record { name = b.name; sort = b.sort; term = s i } ∷ r i

some_image : (es : List Entry) (n s : List ℕ) → 1 ≤ nodes (image es n s)
some_image es n s = some_nodes (image es n s)
  where
    some_nodes : (t : Tree) → 1 ≤ nodes t
    some_nodes (var n s) = omega arith
    some_nodes (app f ts) = omega arith

mutual
  -- a term under a substitution has no fewer nodes
  no_fewer : (es : List Entry) (t : Tree) → nodes t ≤ nodes (instance_of es t)
  no_fewer es (var n s) = some_image es n s
  no_fewer es (app f ts) = let i = all_no_fewer es ts in omega (arith, i)

  all_no_fewer : (es : List Entry) (ts : Forest) → nodes_all ts ≤ nodes_all (substituted_all es ts)
  all_no_fewer es none = omega arith
  all_no_fewer es (more t ts) = let i = no_fewer es t in let j = all_no_fewer es ts in omega (arith, i, j)

stays_large : (es : List Entry) (t : Tree) → is_large t ≡ true → is_large (instance_of es t) ≡ true
stays_large es t h =
    let i = no_fewer es t in
    let j = ltb-true MAX_TERM_NODES (nodes t) h in
    lt-ltb MAX_TERM_NODES (nodes (instance_of es t)) (omega (arith, i, j))

-- so a bound term that is too large stays so
any_stays : (es bs : List Entry) → any_large bs ≡ true → any_large (entries_under es bs ++ es) ≡ true
any_stays es [] h = cc
any_stays es (b ∷ bs) h =
    elim (true_or_false (is_large b.term)) [
      | inl a ↦
          or_left (is_large (instance_of es b.term)) (any_large (entries_under es bs ++ es)) (stays_large es b.term a)
      | inr c ↦ let i : any_large bs ≡ true = rw c at h in
          or_right (is_large (instance_of es b.term)) (any_large (entries_under es bs ++ es)) (any_stays es bs i)
    ]

-- where no side is too large, a bound term that was too large is so behind the round
by_size : (b c : Bool) (o x : Result (Option (List Entry)) Oversize) → (b ≡ true → c ≡ true)
    → cond b o (cond c o x) ≡ cond c o x
by_size true c o x h = ap (λ d. cond d o x) (sym (h refl))
by_size false c o x h = refl

either_way : (b c : Bool) (o x : Result (Option (List Entry)) Oversize) → cond b o (cond (true || c) o x) ≡ o
either_way true c o x = refl
either_way false c o x = refl

-- a round in which no side gets too large
pub round_made : (n : ℕ) (v : Variable) (t : Tree) (es : List Sides) (bs : List Entry) → 0 < n
    → list_any (λ e. is_large e.left || is_large e.right) (sides_under (entry v t ∷ []) es) ≡ false
    → unless_large (resolve bs) (unify_from n (Bind v t es) (resolve bs))
    ≡ unless_large (resolve (bs ++ entry v t ∷ []))
    (unify_from (n - 1) (first_demand (sides_under (entry v t ∷ []) es)) (resolve (bs ++ entry v t ∷ [])))
round_made n v t es bs lt h =
    let o : Result (Option (List Entry)) Oversize = Err a_term_is_too_large in
    let next : List Entry → Result (Option (List Entry)) Oversize =
    λ cs. unify_from (n - 1) (first_demand (sides_under (entry v t ∷ []) es)) cs in
    let cs = extend v t (resolve bs) in
    ap (unless_large (resolve bs))
    (from_bind n v t es (resolve bs) lt ∙ ap (λ b. cond (b || any_large cs) o (next cs)) h)
    ∙ by_size (any_large (resolve bs)) (any_large cs) o (next cs) (any_stays (entry v t ∷ []) (resolve bs))
    ∙ ap (λ ds. unless_large ds (next ds)) (sym (resolved_push bs v t))

-- a round in which one does
pub round_refused : (n : ℕ) (v : Variable) (t : Tree) (es : List Sides) (bs : List Entry) → 0 < n
    → list_any (λ e. is_large e.left || is_large e.right) (sides_under (entry v t ∷ []) es) ≡ true
    → unless_large (resolve bs) (unify_from n (Bind v t es) (resolve bs)) ≡ Err a_term_is_too_large
round_refused n v t es bs lt h =
    let o : Result (Option (List Entry)) Oversize = Err a_term_is_too_large in
    let next : List Entry → Result (Option (List Entry)) Oversize =
    λ cs. unify_from (n - 1) (first_demand (sides_under (entry v t ∷ []) es)) cs in
    let cs = extend v t (resolve bs) in
    ap (unless_large (resolve bs))
    (from_bind n v t es (resolve bs) lt ∙ ap (λ b. cond (b || any_large cs) o (next cs)) h)
    ∙ either_way (any_large (resolve bs)) (any_large cs) o (next cs)

refused : (b : Bool) (o : Result (Option (List Entry)) Oversize) → cond b o o ≡ o
refused true o = refl
refused false o = refl

pub no_round : (v : Variable) (t : Tree) (es : List Sides) (bs : List Entry)
    → unless_large bs (unify_from 0 (Bind v t es) bs) ≡ Err a_term_is_too_large
no_round v t es bs = ap (unless_large bs) (from_zero v t es bs) ∙ refused (any_large bs) (Err a_term_is_too_large)

pub ended : (n : ℕ) (bs : List Entry) → unless_large bs (unify_from n Nothing bs) ≡ unless_large bs (Ok (Some bs))
ended n bs = ap (unless_large bs) (from_nothing n bs)

pub clashed : (n : ℕ) (bs : List Entry) → unless_large bs (unify_from n Clash bs) ≡ unless_large bs (Ok None)
clashed n bs = ap (unless_large bs) (from_clash n bs)

neither : (a b : Bool) → (a || b) ≡ false → (a ≡ false) × (b ≡ false)
neither true b h = cc
neither false b h = (refl, h)

mutual
  -- a term in which the one bound variable doesn't occur stays as it is
  pub same_without : (e : Entry) (t : Tree) → occurs (record { name = e.name; sort = e.sort }) t ≡ false
      → instance_of (e ∷ []) t ≡ t
  same_without e (var n s) h =
      ap (λ b. cond b e.term (var n s))
      ((neither (same_variable (record { name = e.name; sort = e.sort }) (record { name = n; sort = s })) false
      h).0)
  same_without e (app f ts) h = ap (app f) (all_same_without e ts h)

  all_same_without : (e : Entry) (ts : Forest)
      → list_any (same_variable (record { name = e.name; sort = e.sort })) (occurrences_in ts) ≡ false
      → substituted_all (e ∷ []) ts ≡ ts
  all_same_without e none h = refl
  all_same_without e (more t ts) h =
      let v : Variable = record { name = e.name; sort = e.sort } in
      let p = neither (occurs v t) (list_any (same_variable v) (occurrences_in ts))
      (sym (list_any-append (same_variable v) (occurrences t) (occurrences_in ts)) ∙ h) in
      let i = same_without e t p.0 in
      let j = all_same_without e ts p.1 in
      λ k. more (i k) (j k)

-- a bound term that is too large when it is made
pub one_large : (bs : List Entry) (i : ℕ) (d : Entry) → i < length bs
    → is_large (instance_of (resolve (drop (suc i) bs)) (get_or bs i d).term) ≡ true → any_large (resolve bs) ≡ true
one_large [] i d lt h = absurd (omega arith)
one_large (b ∷ bs) zero d lt h = or_left (is_large (instance_of (resolve bs) b.term)) (any_large (resolve bs)) h
one_large (b ∷ bs) (suc i) d lt h =
    or_right (is_large (instance_of (resolve bs) b.term)) (any_large (resolve bs)) (one_large bs i d (omega arith) h)

-- the like as the bindings are made from the last one on: the others are still as they were
pub one_large_so_far : (bs cs : List Entry) (k : ℕ) (e : Entry) → 0 < k → k ≤ length bs → e ≡ get_or cs (k - 1) e
    → take k cs ≡ take k bs
    → drop k cs ≡ resolve (drop k bs) → is_large (instance_of (drop k cs) e.term) ≡ true → any_large (resolve bs) ≡ true
one_large_so_far bs cs zero e lt le is a b h = absurd (omega arith)
one_large_so_far bs cs (suc i) e lt le is a b h =
    let j : suc i - 1 ≡ i = omega arith in
    let same : e ≡ get_or bs i e =
    is ∙ ap (λ n. get_or cs n e) j ∙ sym (get_or-take (suc i) cs i e (omega arith)) ∙ ap (λ xs. get_or xs i e) a
    ∙ get_or-take (suc i) bs i e (omega arith) in
    one_large bs i e (omega arith) (ap₂ (λ xs d. is_large (instance_of xs d.term)) (sym b) (sym same) ∙ h)

told_by : (b c : Bool) (u : Tree) (bs : List Entry) (o : Oversize) → (b ≡ true → c ≡ true)
    → cond b (Err o) (Ok u) ≡ Err o
    → cond c (Err o) (Ok bs) ≡ Err o
told_by true c u bs o f h = ap (λ d. cond d (Err o) (Ok bs)) (f refl)
told_by false c u bs o f h = cc

pub large_told : (r : PairRefusal) (bs : List Entry) (u : Tree) → (is_large u ≡ true → any_large bs ≡ true)
    → IfSome (cause r) (λ fault. within u ≡ Err fault)
    → IfSome (cause r) (λ fault. cond (any_large bs) (Err a_term_is_too_large) (Ok bs) ≡ Err fault)
large_told TooLarge bs u f h = told_by (is_large u) (any_large bs) u bs a_term_is_too_large f h
large_told Memory bs u f h = tt

-- the bindings behind one, as a slice has them
pub slice_end : (xs ys : List Entry) (k : ℕ) → 0 < k → xs ≡ ys
    → take (length xs - ((k - 1) + 1)) (drop ((k - 1) + 1) xs) ≡ drop k ys
slice_end xs ys k lt e =
    let j : (k - 1) + 1 ≡ k = omega arith in
    ap (λ n. take (length xs - n) (drop n xs)) j ∙ take_rest xs k ∙ ap (drop k) e
