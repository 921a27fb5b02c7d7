-- The loops that list a term's terms and read them.
use Rattle.std.proofs.Common.{◌≡◌, ℕ, suc, ◌-◌, ◌<◌, Bool, true, false, if◌then◌else◌, List, [], ◌∷◌, ◌++◌, length, map}
use Rattle.std.proofs.Common.{get_or, bytes_eq, IsTrue, ◌↔◌, Option, Some, None, refl, sym, ◌∙◌, ap, subst, arith}
use Rattle.std.proofs.Common.{append_assoc, append-nil}
use Rattle.std.specs.Prelude.{reverse}
use Rattle.std.specs.Cmp.Lexicographic.{pointwise}
use Rattle.std.specs.Option.{option_map, option_and_then}
use Rattle.std.proofs.lemmas.List.{length_push}
use Rattle.std.proofs.lemmas.Option.{same_Some, none-some}
use Rattle.larch_term.specs.Operator.{PlainOperator}
use Rattle.larch_base.proofs.Bools.{same_truth}
use Rattle.larch_term.specs.OperatorKey.{sorts_Decides}
use Rattle.larch_term.specs.Sorts.{sorts_of}
use Rattle.larch_term.specs.Tree.{Tree, Forest, app, forest_of}
use Rattle.larch_certificate.specs.Coded.{CodedTree, CodedForest, coded_var, coded_app, no_terms, term_then}
use Rattle.larch_certificate.specs.Coded.{coded_forest_of}
use Rattle.larch_certificate.specs.declared.symbol.Symbol.{Symbol}
use Rattle.larch_verify_meaning.specs.Decoding.{decode, applied_to}
use Rattle.larch_verify_decoding.specs.Postorder.{postorder, postorder_all, postorders, value_of, values_after}
use Rattle.larch_verify_decoding.proofs.Evaluating.{read_whole}

pub postorders_append : (xs ys : List CodedTree) → postorders (xs ++ ys) ≡ postorders xs ++ postorders ys
postorders_append [] ys = refl
postorders_append (x ∷ xs) ys =
    ap (λ zs. postorder x ++ zs) (postorders_append xs ys)
    ∙ sym (append_assoc (postorder x) (postorders xs) (postorders ys))

pub postorders_one : (x : CodedTree) → postorders (x ∷ []) ≡ postorder x
postorders_one x = append-nil (postorder x)

arguments_order : (cs : List CodedTree) → postorder_all (coded_forest_of cs) ≡ postorders cs
arguments_order [] = refl
arguments_order (c ∷ cs) = ap (λ xs. postorder c ++ xs) (arguments_order cs)

-- a term's arguments are put behind others
pub arguments_pushed : (old args : List CodedTree) (f : Symbol) (t : CodedTree) → coded_app f (coded_forest_of args) ≡ t
    → postorders (old ++ args) ++ t ∷ [] ≡ postorders old ++ postorder t
arguments_pushed old args f t e =
    ap (λ xs. xs ++ t ∷ []) (postorders_append old args) ∙ append_assoc (postorders old) (postorders args) (t ∷ [])
    ∙ ap (λ xs. postorders old ++ xs)
    (ap (λ xs. xs ++ t ∷ []) (sym (arguments_order args))
    ∙ ap (λ u. postorder_all (coded_forest_of args) ++ u ∷ []) (sym e) ∙ ap postorder e)

pub variable_pushed : (old : List CodedTree) (n s : List ℕ) (t : CodedTree) → coded_var n s ≡ t
    → postorders old ++ t ∷ [] ≡ postorders old ++ postorder t
variable_pushed old n s t e = ap (λ xs. postorders old ++ xs) (ap (λ u. u ∷ []) (sym e) ∙ ap postorder e)

-- one term less waits
pub order_step : (w new : List CodedTree) (x : CodedTree) (rest whole : List CodedTree)
    → postorders new ++ x ∷ [] ≡ postorders w ++ postorder x
    → postorders (w ++ x ∷ []) ++ rest ≡ whole → postorders new ++ x ∷ rest ≡ whole
order_step w new x rest whole p h =
    sym (append_assoc (postorders new) (x ∷ []) rest)
    ∙ ap (λ xs. xs ++ rest) (p ∙ ap (λ xs. postorders w ++ xs) (sym (postorders_one x))
    ∙ sym (postorders_append w (x ∷ []))) ∙ h

-- fewer terms wait then, with those in them
pub order_less : (w new : List CodedTree) (x : CodedTree) → postorders new ++ x ∷ [] ≡ postorders w ++ postorder x
    → length (postorders new) < length (postorders (w ++ x ∷ []))
order_less w new x p =
    let e : postorders new ++ x ∷ [] ≡ postorders (w ++ x ∷ []) =
    p ∙ ap (λ xs. postorders w ++ xs) (sym (postorders_one x)) ∙ sym (postorders_append w (x ∷ [])) in
    omega (arith, ap length e, length_push (postorders new) x)

abbrev Finder : Type 0
Finder = Symbol → List (List ℕ) → Option PlainOperator

one_number : (tree : ℕ → Tree) (ns : List ℕ) (t : Tree) → map tree ns ≡ t ∷ [] → (n : ℕ) × (ns ≡ n ∷ []) × (tree n ≡ t)
one_number tree [] t e = absurd cc
one_number tree (n ∷ []) t e = (n, refl, cc)
one_number tree (n ∷ m ∷ ns) t e = absurd cc

-- the value that is left is that of the term
pub last_value : (find : Finder) (c : CodedTree) (tree : ℕ → Tree) (ns : List ℕ) (r : Option ℕ)
    → Some (map tree ns) ≡ values_after find (postorder c) []
    → ((d : ℕ) → 0 < length ns → r ≡ Some (get_or ns (length ns - 1) d))
    → option_map tree r ≡ decode find c
last_value find c tree ns r h v = by (decode find c) (h ∙ read_whole find c)
  where
    by : (o : Option Tree) → Some (map tree ns) ≡ option_map (λ t. t ∷ []) o → option_map tree r ≡ o
    by None e = absurd (none-some (map tree ns) (sym e))
    by (Some t) e =
        let x = one_number tree ns t (same_Some (map tree ns) (t ∷ []) e) in
        let l : 0 < length ns = omega (arith, ap length x.1) in
        ap (option_map tree) (v 0 l) ∙ ap (λ xs. Some (tree (get_or xs (length xs - 1) 0))) x.1 ∙ ap Some x.2

-- where a term has no value the whole has none
pub no_value : (find : Finder) (c : CodedTree) → None ≡ values_after find (postorder c) [] → None ≡ decode find c
no_value find c h = by (decode find c) (h ∙ read_whole find c)
  where
    by : (o : Option Tree) → None ≡ option_map (λ t. t ∷ []) o → None ≡ o
    by None e = refl
    by (Some t) e = absurd (none-some (t ∷ []) e)

-- one term more is read
pub read_more : (f g : Finder) (b : Bool) (whole : Option (List Tree)) (x : CodedTree) (order rest : List CodedTree)
    (vs ws : List Tree)
    → g ≡ f → order ≡ x ∷ rest → b ≡ true
    → values_after g (x ∷ rest) vs ≡ (if b then values_after g rest ws else None)
    → values_after f order vs ≡ whole → values_after f rest ws ≡ whole
read_more f g b whole x order rest vs ws e o t h k =
    let i : values_after g (x ∷ rest) vs ≡ values_after g rest ws =
    h ∙ ap (λ c. if c then values_after g rest ws else None) t in
    sym (subst (λ q. values_after q (x ∷ rest) vs ≡ values_after q rest ws) e i)
    ∙ ap (λ xs. values_after f xs vs) (sym o) ∙ k

-- a term has no value
pub read_none : (f g : Finder) (b : Bool) (whole : Option (List Tree)) (x : CodedTree) (order rest : List CodedTree)
    (vs ws : List Tree)
    → g ≡ f → order ≡ x ∷ rest → b ≡ false
    → values_after g (x ∷ rest) vs ≡ (if b then values_after g rest ws else None)
    → values_after f order vs ≡ whole → None ≡ whole
read_none f g b whole x order rest vs ws e o t h k =
    let i : values_after g (x ∷ rest) vs ≡ None = h ∙ ap (λ c. if c then values_after g rest ws else None) t in
    sym (subst (λ q. values_after q (x ∷ rest) vs ≡ None) e i) ∙ ap (λ xs. values_after f xs vs) (sym o) ∙ k

-- what a symbol makes of arguments
takes_told : (ts : Forest) (f : PlainOperator) (r : Bool) → (IsTrue r ↔ (sorts_of ts ≡ f.domain))
    → pointwise bytes_eq (sorts_of ts) f.domain ≡ r
takes_told ts f r h =
    let d = sorts_Decides (sorts_of ts) f.domain in
    same_truth (pointwise bytes_eq (sorts_of ts) f.domain) r (λ e. h.1 (d.0 e)) (λ e. d.1 (h.0 e))

pub applied_not : (ts : Forest) (f : PlainOperator) (r : Bool) → (IsTrue r ↔ (sorts_of ts ≡ f.domain)) → r ≡ false
    → None ≡ applied_to ts f
applied_not ts f r h e = ap (λ b. if b then Some (app f ts) else None) (sym (takes_told ts f r h ∙ e))

pub applied_yes : (ts : Forest) (f : PlainOperator) (r : Bool) → (IsTrue r ↔ (sorts_of ts ≡ f.domain)) → r ≡ true
    → Some (app f ts) ≡ applied_to ts f
applied_yes ts f r h e = ap (λ b. if b then Some (app f ts) else None) (sym (takes_told ts f r h ∙ e))

pub value_none : (find : Finder) (f : Symbol) (ts : List Tree) → None ≡ find f (sorts_of (forest_of ts))
    → None ≡ value_of find f ts
value_none find f ts e = ap (option_and_then (applied_to (forest_of ts))) e

pub value_some : (find : Finder) (f : Symbol) (ts : List Tree) (o : PlainOperator) (r : Option Tree)
    → Some o ≡ find f (sorts_of (forest_of ts))
    → r ≡ applied_to (forest_of ts) o → r ≡ value_of find f ts
value_some find f ts o r e k = k ∙ ap (option_and_then (applied_to (forest_of ts))) e
